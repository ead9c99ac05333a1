-- What an assignment to each form of expression selects.
use Rattle.std.proofs.Common.{◌≡◌, ℕ, List, [], sym, ap, ◌∙◌}
use Rattle.std.specs.List.{flat_map}
use Rattle.std.proofs.lemmas.List.Folds.{flat_map-map}
use Rattle.rdc_outside.specs.declared.source.Place.{Place}
use Rattle.vlog_tree.specs.declared.expr.Expr.{Expr, para-roll-Expr}
use Rattle.vlog_tree.specs.declared.expr.Expr.TheOpen.{Expr-F}
use Rattle.vlog_tree.specs.declared.expr.Expr.TheVariants.{Number, Name, Index, Select, Brackets, Concat, Repeat, Unary, Binary, Conditional, rolls-Number, rolls-Name, rolls-Index, rolls-Select, rolls-Brackets, rolls-Concat, rolls-Repeat, rolls-Unary, rolls-Binary, rolls-Conditional}
use Rattle.vlog_tree.specs.declared.expr.Part.{Part}
use Rattle.vlog_tree.specs.declared.number.Number as n
use Rattle.vlog_tree.specs.declared.operator.Unary as u
use Rattle.vlog_tree.specs.declared.operator.Binary as b
use Rattle.design_form.specs.declared.parts.Parts.{Parts}
use Rattle.design_sizes.specs.Sizes.{Sized, sized_alone, sized_target, target_by_parts}

pub target-Number : (d : Parts) (place : Place) (x : n.Number) → sized_target d (Number place x) ≡ []
unfolding sized_target target_by_parts
target-Number d place x =
    ap (sized_target d) (sym (rolls-Number place x)) ∙ para-roll-Expr (List Sized) (target_by_parts d) (Expr-F.Number place x)

pub target-Name : (d : Parts) (place : Place) (name : List ℕ) → sized_target d (Name place name) ≡ []
unfolding sized_target target_by_parts
target-Name d place name =
    ap (sized_target d) (sym (rolls-Name place name)) ∙ para-roll-Expr (List Sized) (target_by_parts d) (Expr-F.Name place name)

pub target-Index : (d : Parts) (place : Place) (name : List ℕ) (i : Expr) → sized_target d (Index place name i) ≡ sized_alone d (Index place name i)
unfolding sized_target target_by_parts
target-Index d place name i =
    ap (sized_target d) (sym (rolls-Index place name i)) ∙ para-roll-Expr (List Sized) (target_by_parts d) (Expr-F.Index place name i)

pub target-Select : (d : Parts) (place : Place) (name : List ℕ) (how : Part) (i j : Expr) → sized_target d (Select how place name i j) ≡ sized_alone d (Select how place name i j)
unfolding sized_target target_by_parts
target-Select d place name how i j =
    ap (sized_target d) (sym (rolls-Select how place name i j)) ∙ para-roll-Expr (List Sized) (target_by_parts d) (Expr-F.Select how place name i j)

pub target-Brackets : (d : Parts) (place : Place) (a : Expr) → sized_target d (Brackets place a) ≡ []
unfolding sized_target target_by_parts
target-Brackets d place a =
    ap (sized_target d) (sym (rolls-Brackets place a)) ∙ para-roll-Expr (List Sized) (target_by_parts d) (Expr-F.Brackets place a)

pub target-Concat : (d : Parts) (place : Place) (es : List Expr) → sized_target d (Concat place es) ≡ flat_map (sized_target d) es
unfolding sized_target target_by_parts
target-Concat d place es =
    ap (sized_target d) (sym (rolls-Concat place es)) ∙ para-roll-Expr (List Sized) (target_by_parts d) (Expr-F.Concat place es) ∙ flat_map-map (λ (a : Expr × List Sized). a.1) (λ x. let q : Expr × List Sized = (x, sized_target d x) in q) es

pub target-Repeat : (d : Parts) (place : Place) (k : Expr) (es : List Expr) → sized_target d (Repeat place k es) ≡ []
unfolding sized_target target_by_parts
target-Repeat d place k es =
    ap (sized_target d) (sym (rolls-Repeat place k es)) ∙ para-roll-Expr (List Sized) (target_by_parts d) (Expr-F.Repeat place k es)

pub target-Unary : (d : Parts) (place : Place) (op : u.Unary) (a : Expr) → sized_target d (Unary place op a) ≡ []
unfolding sized_target target_by_parts
target-Unary d place op a =
    ap (sized_target d) (sym (rolls-Unary place op a)) ∙ para-roll-Expr (List Sized) (target_by_parts d) (Expr-F.Unary place op a)

pub target-Binary : (d : Parts) (place : Place) (op : b.Binary) (x y : Expr) → sized_target d (Binary place op x y) ≡ []
unfolding sized_target target_by_parts
target-Binary d place op x y =
    ap (sized_target d) (sym (rolls-Binary place op x y)) ∙ para-roll-Expr (List Sized) (target_by_parts d) (Expr-F.Binary place op x y)

pub target-Conditional : (d : Parts) (place : Place) (test x y : Expr) → sized_target d (Conditional place test x y) ≡ []
unfolding sized_target target_by_parts
target-Conditional d place test x y =
    ap (sized_target d) (sym (rolls-Conditional place test x y)) ∙ para-roll-Expr (List Sized) (target_by_parts d) (Expr-F.Conditional place test x y)

-- each form of expression, for tactics
pub ruleset forms = (target-Number, target-Name, target-Index, target-Select, target-Brackets, target-Concat, target-Repeat, target-Unary, target-Binary, target-Conditional)
