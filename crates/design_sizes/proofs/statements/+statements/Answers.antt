use Rattle.std.proofs.Common.{◌≡◌, List, OnOk, refl, subst}
use Rattle.design_sizes.specs.Sizes.{Sized}
use Rattle.design_sizes.specs.Lists.{all_sized}
use Rattle.design_sizes.proofs.StatementLemmas.{state-Empty, state-If-None, state-If-Some, state-Case}
use Rattle.design_sizes.proofs.statements.+statements.Goals as goal

pub put_statement-returns-in-Empty : goal.put_statement-returns-in-Empty
put_statement-returns-in-Empty t c = state-Empty _ _ _ _ c.in-Empty.is

pub put_statement-returns-in_ok-put-in-Case : goal.put_statement-returns-in_ok-put-in-Case
put_statement-returns-in_ok-put-in-Case t c =
    subst (λ (z : List Sized). OnOk c.put_arms.result (all_sized c.put_arms.new.out.items ≡ z))
    (state-Case c.args.design.now c.args.statement.now _ _ _ _ _ _ _ _ _ c.in-Case.is refl c.as_slice-arms.ensures c.in_ok-size-in-Case.ensures c.in_ok-put-in-Case.ensures)
    c.put_arms.ensures

pub put_statement-returns-in-None : goal.put_statement-returns-in-None
put_statement-returns-in-None t c = state-If-None c.args.design.now c.args.statement.now _ _ _ _ _ _ _ _ _ c.in-If.is c.in-None.is refl c.get.ensures c.in_ok-put_alone-in-If.ensures c.in_ok-put_statement-in-If.ensures

pub put_statement-returns-in-Some : goal.put_statement-returns-in-Some
put_statement-returns-in-Some t c =
    subst (λ (z : List Sized). OnOk c.put_statement-in-Some.result (all_sized c.put_statement-in-Some.new.out.items ≡ z))
    (state-If-Some c.args.design.now c.args.statement.now _ _ _ _ _ _ _ _ _ _ _ c.in-If.is c.in-Some.is refl c.get.ensures c.get-in-Some.ensures c.in_ok-put_alone-in-If.ensures c.in_ok-put_statement-in-If.ensures)
    c.put_statement-in-Some.ensures
