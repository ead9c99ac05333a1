-- Which headers of each form of statement are constant.
use Rattle.std.proofs.Common.{◌≡◌, List, [], ◌∷◌, map, Option, Some, None, refl, sym, ap, ◌∙◌}
use Rattle.rdc_outside.specs.declared.source.Place.{Place}
use Rattle.vlog_tree.specs.declared.expr.Expr.{Expr}
use Rattle.vlog_tree.specs.declared.ident.Ident.{Ident}
use Rattle.vlog_tree.specs.declared.stmt.Arm.{Arm}
use Rattle.vlog_tree.specs.declared.stmt.Assigns.{Assigns}
use Rattle.vlog_tree.specs.declared.stmt.Loop.{Loop}
use Rattle.vlog_tree.specs.declared.stmt.Matching.{Matching}
use Rattle.vlog_tree.specs.declared.stmt.Stmt.{Stmt, para-roll-Stmt}
use Rattle.vlog_tree.specs.declared.stmt.Stmt.TheOpen.{Stmt-F}
use Rattle.vlog_tree.specs.declared.stmt.Stmt.TheVariants.{Empty, Block, Assign, If, Case, For, rolls-Empty, rolls-Block, rolls-Assign, rolls-If, rolls-Case, rolls-For}
use Rattle.vlog_const.specs.Names.{Values}
use Rattle.proc_loops.specs.Names.{sooner, first_among}
use Rattle.proc_loops.specs.Headers.{unknown, unknown_by_parts, unknown_in_loop}

pub map_map : {A B C : Type 0} (f : A → B) (g : B → C) (xs : List A) → map g (map f xs) ≡ map (λ x. g (f x)) xs
map_map f g [] = refl
map_map f g (x ∷ xs) = ap (λ ys. g (f x) ∷ ys) (map_map f g xs)

last : (p : Option Place) → sooner p None ≡ p
last None = refl
last (Some place) = refl

pub unknown-Empty : (place : Place) (values : Values) → unknown (Empty place) values ≡ None
unfolding unknown unknown_by_parts
unknown-Empty place values = ap (λ s. unknown s values) (sym (rolls-Empty place)) ∙ ap (λ f. f values) (para-roll-Stmt (Values → Option Place) unknown_by_parts (Stmt-F.Empty place))

pub unknown-Block : (place : Place) (label : Option Ident) (ss : List Stmt) (values : Values) → unknown (Block place label ss) values ≡ first_among (map (λ s. unknown s values) ss)
unfolding unknown unknown_by_parts
unknown-Block place label ss values =
    ap (λ s. unknown s values) (sym (rolls-Block place label ss)) ∙ ap (λ f. f values) (para-roll-Stmt (Values → Option Place) unknown_by_parts (Stmt-F.Block place label ss)) ∙ ap first_among (map_map _ (λ s. s.1 values) ss)

pub unknown-Assign : (place : Place) (target : Expr) (by : Assigns) (value : Expr) (values : Values) → unknown (Assign place target by value) values ≡ None
unfolding unknown unknown_by_parts
unknown-Assign place target by value values =
    ap (λ s. unknown s values) (sym (rolls-Assign place target by value)) ∙ ap (λ f. f values) (para-roll-Stmt (Values → Option Place) unknown_by_parts (Stmt-F.Assign place target by value))

pub unknown-If-None : (place : Place) (test : Expr) (a : Stmt) (values : Values) → unknown (If place test a None) values ≡ unknown a values
unfolding unknown unknown_by_parts
unknown-If-None place test a values =
    ap (λ s. unknown s values) (sym (rolls-If place test a None)) ∙ ap (λ f. f values) (para-roll-Stmt (Values → Option Place) unknown_by_parts (Stmt-F.If place test a None)) ∙ last (unknown a values)

pub unknown-If-Some : (place : Place) (test : Expr) (a b : Stmt) (values : Values) → unknown (If place test a (Some b)) values ≡ sooner (unknown a values) (unknown b values)
unfolding unknown unknown_by_parts
unknown-If-Some place test a b values =
    ap (λ s. unknown s values) (sym (rolls-If place test a (Some b))) ∙ ap (λ f. f values) (para-roll-Stmt (Values → Option Place) unknown_by_parts (Stmt-F.If place test a (Some b)))

pub unknown-Case : (place : Place) (how : Matching) (selector : Expr) (arms : List (Arm Stmt)) (values : Values) → unknown (Case place how selector arms) values ≡ first_among (map (λ a. unknown a.body values) arms)
unfolding unknown unknown_by_parts
unknown-Case place how selector arms values =
    ap (λ s. unknown s values) (sym (rolls-Case place how selector arms)) ∙ ap (λ f. f values) (para-roll-Stmt (Values → Option Place) unknown_by_parts (Stmt-F.Case place how selector arms))
    ∙ ap first_among (map_map _ (λ a. a.body.1 values) arms)

pub unknown-For : (place : Place) (h : Loop) (body : Stmt) (values : Values) → unknown (For place h body) values ≡ unknown_in_loop h body values
unfolding unknown unknown_by_parts
unknown-For place h body values =
    ap (λ s. unknown s values) (sym (rolls-For place h body)) ∙ ap (λ f. f values) (para-roll-Stmt (Values → Option Place) unknown_by_parts (Stmt-F.For place h body))

-- each form of statement, for tactics
pub ruleset forms = (unknown-Empty, unknown-Block, unknown-Assign, unknown-If-None, unknown-If-Some, unknown-Case, unknown-For)
