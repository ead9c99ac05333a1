-- What stands below each form of expression.
use Rattle.std.proofs.Common.{◌≡◌, ℕ, Bool, not, ◌||◌, List, [], ◌∷◌, ◌++◌, refl, sym, ap, ◌∙◌}
use Rattle.std.proofs.lemmas.List.Folds.{flat_map-map}
use Rattle.rdc_outside.specs.declared.source.Place.{Place}
use Rattle.vlog_tree.specs.declared.expr.Expr.{Expr, para-roll-Expr}
use Rattle.vlog_tree.specs.declared.expr.Expr.TheOpen.{Expr-F}
use Rattle.vlog_tree.specs.declared.expr.Expr.TheVariants.{Number, Name, Index, Select, Brackets, Concat, Repeat, Unary, Binary, Conditional, rolls-Number, rolls-Name, rolls-Index, rolls-Select, rolls-Brackets, rolls-Concat, rolls-Repeat, rolls-Unary, rolls-Binary, rolls-Conditional}
use Rattle.vlog_tree.specs.declared.expr.Part.{Part}
use Rattle.vlog_tree.specs.declared.number.Number as n
use Rattle.vlog_tree.specs.declared.operator.Unary as u
use Rattle.vlog_tree.specs.declared.operator.Binary as b
use Rattle.vlog_const.specs.declared.shape.Shape.{Shape}
use Rattle.vlog_const.specs.Widths.{left_context, right_context, unary_context}
use Rattle.design_form.specs.declared.parts.Parts.{Parts}
use Rattle.design_sizes.specs.Sizes.{Sized, Below, has_name, shape_of, whole, alone, below, below_by_parts, sized}
use Rattle.design_sizes.specs.Lists.{apart, are_apart}

pub sized-form : (d : Parts) (c : Shape) (inside : Bool) (e : Expr) → sized d c inside e ≡ record { expr = e; shape = c; constant = inside || not (has_name e); inside = inside } ∷ below d e c (inside || not (has_name e))
unfolding sized whole
sized-form d c inside e = refl

pub below-Number : (d : Parts) (place : Place) (x : n.Number) (c : Shape) (inside : Bool) → below d (Number place x) c inside ≡ []
unfolding below below_by_parts sized
below-Number d place x c inside =
    ap (λ e. below d e c inside) (sym (rolls-Number place x)) ∙ ap (λ (f : Below). f c inside) (para-roll-Expr Below (below_by_parts d) (Expr-F.Number place x))

pub below-Name : (d : Parts) (place : Place) (name : List ℕ) (c : Shape) (inside : Bool) → below d (Name place name) c inside ≡ []
unfolding below below_by_parts sized
below-Name d place name c inside =
    ap (λ e. below d e c inside) (sym (rolls-Name place name)) ∙ ap (λ (f : Below). f c inside) (para-roll-Expr Below (below_by_parts d) (Expr-F.Name place name))

pub below-Index : (d : Parts) (place : Place) (name : List ℕ) (i : Expr) (c : Shape) (inside : Bool) → below d (Index place name i) c inside ≡ apart d inside i
unfolding below below_by_parts sized
below-Index d place name i c inside =
    ap (λ e. below d e c inside) (sym (rolls-Index place name i)) ∙ ap (λ (f : Below). f c inside) (para-roll-Expr Below (below_by_parts d) (Expr-F.Index place name i))

pub below-Select : (d : Parts) (place : Place) (name : List ℕ) (how : Part) (i j : Expr) (c : Shape) (inside : Bool) → below d (Select how place name i j) c inside ≡ apart d inside i ++ apart d inside j
unfolding below below_by_parts sized
below-Select d place name how i j c inside =
    ap (λ e. below d e c inside) (sym (rolls-Select how place name i j)) ∙ ap (λ (f : Below). f c inside) (para-roll-Expr Below (below_by_parts d) (Expr-F.Select how place name i j))

pub below-Brackets : (d : Parts) (place : Place) (a : Expr) (c : Shape) (inside : Bool) → below d (Brackets place a) c inside ≡ sized d c inside a
unfolding below below_by_parts sized
below-Brackets d place a c inside =
    ap (λ e. below d e c inside) (sym (rolls-Brackets place a)) ∙ ap (λ (f : Below). f c inside) (para-roll-Expr Below (below_by_parts d) (Expr-F.Brackets place a))

pub below-Concat : (d : Parts) (place : Place) (es : List Expr) (c : Shape) (inside : Bool) → below d (Concat place es) c inside ≡ are_apart d inside es
unfolding below below_by_parts sized
below-Concat d place es c inside =
    ap (λ e. below d e c inside) (sym (rolls-Concat place es)) ∙ ap (λ (f : Below). f c inside) (para-roll-Expr Below (below_by_parts d) (Expr-F.Concat place es)) ∙ flat_map-map (alone d inside) (λ x. let q : Expr × Below = (x, below d x) in q) es

pub below-Repeat : (d : Parts) (place : Place) (k : Expr) (es : List Expr) (c : Shape) (inside : Bool) → below d (Repeat place k es) c inside ≡ apart d inside k ++ are_apart d inside es
unfolding below below_by_parts sized
below-Repeat d place k es c inside =
    ap (λ e. below d e c inside) (sym (rolls-Repeat place k es)) ∙ ap (λ (f : Below). f c inside) (para-roll-Expr Below (below_by_parts d) (Expr-F.Repeat place k es)) ∙ ap (λ (ys : List Sized). apart d inside k ++ ys) (flat_map-map (alone d inside) (λ x. let q : Expr × Below = (x, below d x) in q) es)

pub below-Unary : (d : Parts) (place : Place) (op : u.Unary) (a : Expr) (c : Shape) (inside : Bool) → below d (Unary place op a) c inside ≡ sized d (unary_context op (shape_of d a) c) inside a
unfolding below below_by_parts sized
below-Unary d place op a c inside =
    ap (λ e. below d e c inside) (sym (rolls-Unary place op a)) ∙ ap (λ (f : Below). f c inside) (para-roll-Expr Below (below_by_parts d) (Expr-F.Unary place op a))

pub below-Binary : (d : Parts) (place : Place) (op : b.Binary) (x y : Expr) (c : Shape) (inside : Bool) → below d (Binary place op x y) c inside ≡ sized d (left_context op (shape_of d x) (shape_of d y) c) inside x ++ sized d (right_context op (shape_of d x) (shape_of d y) c) inside y
unfolding below below_by_parts sized
below-Binary d place op x y c inside =
    ap (λ e. below d e c inside) (sym (rolls-Binary place op x y)) ∙ ap (λ (f : Below). f c inside) (para-roll-Expr Below (below_by_parts d) (Expr-F.Binary place op x y))

pub below-Conditional : (d : Parts) (place : Place) (test x y : Expr) (c : Shape) (inside : Bool) → below d (Conditional place test x y) c inside ≡ apart d inside test ++ (sized d c inside x ++ sized d c inside y)
unfolding below below_by_parts sized
below-Conditional d place test x y c inside =
    ap (λ e. below d e c inside) (sym (rolls-Conditional place test x y)) ∙ ap (λ (f : Below). f c inside) (para-roll-Expr Below (below_by_parts d) (Expr-F.Conditional place test x y))

-- each form of expression, for tactics
pub ruleset forms = (below-Number, below-Name, below-Index, below-Select, below-Brackets, below-Concat, below-Repeat, below-Unary, below-Binary, below-Conditional)
