-- What a `case` assigns.
use Rattle.std.proofs.Common.{◌≡◌, ℕ, Bool, ◌||◌, List, [], ◌∷◌, map, refl, sym, ap, ◌∙◌}
use Rattle.std.specs.List.{list_any}
use Rattle.rdc_outside.specs.declared.source.Place.{Place}
use Rattle.vlog_tree.specs.declared.expr.Expr.{Expr}
use Rattle.vlog_tree.specs.declared.stmt.Arm.{Arm}
use Rattle.vlog_tree.specs.declared.stmt.Matching.{Matching}
use Rattle.vlog_tree.specs.declared.stmt.Stmt.{Stmt, fold-roll-Stmt}
use Rattle.vlog_tree.specs.declared.stmt.Stmt.TheOpen.{Stmt-F}
use Rattle.vlog_tree.specs.declared.stmt.Stmt.TheVariants.{Case, rolls-Case}
use Rattle.proc_loops.specs.Names.{assigns, assigns_by_parts}

pub any_map : {A B : Type 0} (f : A → B) (p : B → Bool) (xs : List A) → list_any p (map f xs) ≡ list_any (λ x. p (f x)) xs
any_map f p [] = refl
any_map f p (x ∷ xs) = ap (λ b. p (f x) || b) (any_map f p xs)

pub assigns-Case : (name : List ℕ) (place : Place) (how : Matching) (selector : Expr) (arms : List (Arm Stmt)) → assigns name (Case place how selector arms) ≡ list_any (λ a. assigns name a.body) arms
unfolding assigns assigns_by_parts
assigns-Case name place how selector arms =
    ap (assigns name) (sym (rolls-Case place how selector arms)) ∙ fold-roll-Stmt Bool (assigns_by_parts name) (Stmt-F.Case place how selector arms) ∙ any_map _ (λ a. a.body) arms

pub case-form : (name : List ℕ) (s : Stmt) (place : Place) (how : Matching) (selector : Expr) (arms xs : List (Arm Stmt)) (r : Bool) → s ≡ Case place how selector arms → xs ≡ arms → r ≡ list_any (λ a. assigns name a.body) xs → r ≡ assigns name s
case-form name s place how selector arms xs r is same gives =
    gives ∙ ap (list_any (λ a. assigns name a.body)) same ∙ sym (assigns-Case name place how selector arms) ∙ ap (assigns name) (sym is)
