-- The parts of each form of statement.
use Rattle.std.proofs.Common.{◌≡◌, false, List, [], ◌++◌, map, Option, Some, None, sym, ap, ◌∙◌}
use Rattle.std.specs.List.{flat_map}
use Rattle.std.proofs.lemmas.List.Folds.{flat_map-map}
use Rattle.rdc_outside.specs.declared.source.Place.{Place}
use Rattle.vlog_tree.specs.declared.expr.Expr.{Expr}
use Rattle.vlog_tree.specs.declared.ident.Ident.{Ident}
use Rattle.vlog_tree.specs.declared.stmt.Arm.{Arm}
use Rattle.vlog_tree.specs.declared.stmt.Assigns.{Assigns}
use Rattle.vlog_tree.specs.declared.stmt.Loop.{Loop}
use Rattle.vlog_tree.specs.declared.stmt.Matching.{Matching}
use Rattle.vlog_tree.specs.declared.stmt.Stmt.{Stmt, fold-roll-Stmt}
use Rattle.vlog_tree.specs.declared.stmt.Stmt.TheOpen.{Stmt-F}
use Rattle.vlog_tree.specs.declared.stmt.Stmt.TheVariants.{Empty, Block, Assign, If, Case, For, rolls-Empty, rolls-Block, rolls-Assign, rolls-If, rolls-Case, rolls-For}
use Rattle.vlog_const.specs.declared.shape.Shape.{Shape}
use Rattle.design_form.specs.declared.parts.Parts.{Parts}
use Rattle.design_sizes.specs.Sizes.{Sized, sized, sized_alone, sized_assignment, case_shape, arm_sized, sized_statement, statement_by_parts}
use Rattle.design_sizes.specs.Lists.{labels_of, arm_parts}

pub parts-Empty : (d : Parts) (place : Place) → sized_statement d (Empty place) ≡ []
unfolding sized_statement statement_by_parts
parts-Empty d place = ap (sized_statement d) (sym (rolls-Empty place)) ∙ fold-roll-Stmt (List Sized) (statement_by_parts d) (Stmt-F.Empty place)

pub parts-Block : (d : Parts) (place : Place) (label : Option Ident) (ss : List Stmt) → sized_statement d (Block place label ss) ≡ flat_map (sized_statement d) ss
unfolding sized_statement statement_by_parts
parts-Block d place label ss =
    ap (sized_statement d) (sym (rolls-Block place label ss)) ∙ fold-roll-Stmt (List Sized) (statement_by_parts d) (Stmt-F.Block place label ss) ∙ flat_map-map (λ (s : List Sized). s) (sized_statement d) ss

pub parts-Assign : (d : Parts) (place : Place) (target : Expr) (by : Assigns) (value : Expr) → sized_statement d (Assign place target by value) ≡ sized_assignment d target value
unfolding sized_statement statement_by_parts
parts-Assign d place target by value = ap (sized_statement d) (sym (rolls-Assign place target by value)) ∙ fold-roll-Stmt (List Sized) (statement_by_parts d) (Stmt-F.Assign place target by value)

pub parts-If-None : (d : Parts) (place : Place) (test : Expr) (a : Stmt) → sized_statement d (If place test a None) ≡ sized_alone d test ++ sized_statement d a
unfolding sized_statement statement_by_parts
parts-If-None d place test a = ap (sized_statement d) (sym (rolls-If place test a None)) ∙ fold-roll-Stmt (List Sized) (statement_by_parts d) (Stmt-F.If place test a None)

pub parts-If-Some : (d : Parts) (place : Place) (test : Expr) (a b : Stmt) → sized_statement d (If place test a (Some b)) ≡ sized_alone d test ++ (sized_statement d a ++ sized_statement d b)
unfolding sized_statement statement_by_parts
parts-If-Some d place test a b = ap (sized_statement d) (sym (rolls-If place test a (Some b))) ∙ fold-roll-Stmt (List Sized) (statement_by_parts d) (Stmt-F.If place test a (Some b))

pub parts-Case : (d : Parts) (place : Place) (how : Matching) (selector : Expr) (arms : List (Arm Stmt)) → sized_statement d (Case place how selector arms)
    ≡ sized d (case_shape d selector (labels_of arms)) false selector ++ flat_map (arm_parts d (case_shape d selector (labels_of arms))) arms
unfolding sized_statement statement_by_parts
parts-Case d place how selector arms =
    let through : Arm Stmt → Arm (List Sized) = λ a. record { place = a.place; labels = a.labels; body = sized_statement d a.body } in
    let c : Shape = case_shape d selector (flat_map (λ (a : Arm (List Sized)). a.labels) (map through arms)) in
    let same : c ≡ case_shape d selector (labels_of arms) = ap (case_shape d selector) (flat_map-map (λ (a : Arm (List Sized)). a.labels) through arms) in
    ap (sized_statement d) (sym (rolls-Case place how selector arms)) ∙ fold-roll-Stmt (List Sized) (statement_by_parts d) (Stmt-F.Case place how selector arms)
    ∙ ap (λ (l : List Sized). sized d c false selector ++ l) (flat_map-map (arm_sized d c) through arms)
    ∙ ap (λ (s : Shape). sized d s false selector ++ flat_map (arm_parts d s) arms) same

pub parts-For : (d : Parts) (place : Place) (h : Loop) (body : Stmt) → sized_statement d (For place h body) ≡ sized_statement d body
unfolding sized_statement statement_by_parts
parts-For d place h body = ap (sized_statement d) (sym (rolls-For place h body)) ∙ fold-roll-Stmt (List Sized) (statement_by_parts d) (Stmt-F.For place h body)

-- each form of statement, for tactics
pub ruleset forms = (parts-Empty, parts-Block, parts-Assign, parts-If-None, parts-If-Some, parts-Case, parts-For)
