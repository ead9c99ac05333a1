-- One clause more is copied.
use Rattle.std.proofs.Common.{◌≡◌, ◌<◌, ◌++◌, ◌∷◌, [], length, get_or, take, sym, ap, ◌∙◌, arith}
use Rattle.std.proofs.lemmas.List.{take_more}
use Rattle.std.proofs.lemmas.Option.{get_or_from_slice_get}
use Rattle.sat_chain.specs.Clause.{Problem}
use Rattle.sat_core.proofs.solver.copied.Goals as goal

pub loop-n-preserved : goal.loop-n-preserved
loop-n-preserved c =
    let cs = c.args.clauses.now.clauses in
    let lt : c.loop-n.n < length cs = omega (arith, c.len-count.ensures.value) in
    let here : get_or cs c.loop-n.n [] ≡ c.lits.result.now = ap (λ k. get_or cs k []) (sym c.in-Some.ensures.0) ∙ get_or_from_slice_get cs c.in-Some.id c.lits.result.now [] c.lits.ensures in
    record {
      vars = ap (λ (p : Problem). p.vars) c.in_ok-add.ensures.1 ∙ c.loop-n.invariant.vars;
      clauses = ap (λ (p : Problem). p.clauses) c.in_ok-add.ensures.1 ∙ ap (λ xs. xs ++ c.lits.result.now ∷ []) c.loop-n.invariant.clauses ∙ ap (λ x. take c.loop-n.n cs ++ x ∷ []) (sym here) ∙ sym (take_more cs c.loop-n.n [] lt);
    }
