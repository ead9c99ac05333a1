-- What stands below an expression of some form, from what was put.
use Rattle.std.proofs.Common.{◌≡◌, ℕ, Bool, ◌||◌, not, List, [], ◌∷◌, ◌++◌, sym, ap, ◌∙◌}
use Rattle.std.proofs.lemmas.List.{map-append}
use Rattle.rdc_outside.specs.declared.source.Place.{Place}
use Rattle.vlog_tree.specs.declared.expr.Expr.{Expr}
use Rattle.vlog_tree.specs.declared.expr.Expr.TheVariants.{Number, Name, Select, Repeat, Binary, Conditional}
use Rattle.vlog_tree.specs.declared.expr.Part.{Part}
use Rattle.vlog_tree.specs.declared.number.Number as n
use Rattle.vlog_tree.specs.declared.operator.Binary as b
use Rattle.vlog_const.specs.declared.shape.Shape.{Shape}
use Rattle.vlog_const.specs.Widths.{left_context, right_context}
use Rattle.design_form.specs.declared.parts.Parts.{Parts}
use Rattle.design_sizes.specs.declared.sizing.Sizing.{Sizing}
use Rattle.design_sizes.specs.Sizes.{Sized, has_name, shape_of, below, sized}
use Rattle.design_sizes.specs.Lists.{all_sized, sized_of, apart, are_apart}
use Rattle.design_sizes.proofs.Rows.{none_more, two, three}
use Rattle.design_sizes.proofs.PartForms.{sized-form, below-Number, below-Name, below-Select, below-Repeat, below-Binary, below-Conditional}

-- an expression, and then what stands below it
pub put-all : (d : Parts) (c : Shape) (inside constant : Bool) (e : Expr) (o p : List Sizing) (one : Sizing)
    → constant ≡ inside || not (has_name e) → p ≡ o ++ (one ∷ []) → sized_of one ≡ record { expr = e; shape = c; constant = constant; inside = inside }
    → all_sized p ++ below d e c constant ≡ all_sized o ++ sized d c inside e
put-all d c inside constant e o p one is pushed was =
    two (all_sized o) (all_sized p) (sized_of one ∷ []) (below d e c constant) (sized d c inside e)
    (ap all_sized pushed ∙ map-append sized_of o (one ∷ []))
    (ap (λ (s : Sized). s ∷ below d e c constant) was
    ∙ ap (λ (k : Bool). (let s : Sized = record { expr = e; shape = c; constant = k; inside = inside } in s) ∷ below d e c k) is
    ∙ sym (sized-form d c inside e))

of_form : (d : Parts) (c : Shape) (inside : Bool) (e f : Expr) (r : List Sized) → e ≡ f → below d f c inside ≡ r → r ≡ below d e c inside
of_form d c inside e f r is form = sym form ∙ ap (λ (x : Expr). below d x c inside) (sym is)

pub walk-Number : (d : Parts) (c : Shape) (inside : Bool) (e : Expr) (place : Place) (x : n.Number) (o : List Sized) → e ≡ Number place x → o ≡ o ++ below d e c inside
walk-Number d c inside e place x o is = none_more o (below d e c inside) (of_form d c inside e (Number place x) [] is (below-Number d place x c inside))

pub walk-Name : (d : Parts) (c : Shape) (inside : Bool) (e : Expr) (place : Place) (name : List ℕ) (o : List Sized) → e ≡ Name place name → o ≡ o ++ below d e c inside
walk-Name d c inside e place name o is = none_more o (below d e c inside) (of_form d c inside e (Name place name) [] is (below-Name d place name c inside))

pub walk-Select : (d : Parts) (c : Shape) (inside : Bool) (e : Expr) (place : Place) (name : List ℕ) (how : Part) (i j y z : Expr) (o p : List Sized)
    → e ≡ Select how place name i j → y ≡ i → z ≡ j → p ≡ o ++ apart d inside y → p ++ apart d inside z ≡ o ++ below d e c inside
walk-Select d c inside e place name how i j y z o p is at to first =
    two o p (apart d inside y) (apart d inside z) (below d e c inside) first
    (ap (λ (x : Expr). apart d inside x ++ apart d inside z) at ∙ ap (λ (x : Expr). apart d inside i ++ apart d inside x) to ∙ of_form d c inside e (Select how place name i j) _ is (below-Select d place name how i j c inside))

pub walk-Repeat : (d : Parts) (c : Shape) (inside : Bool) (e : Expr) (place : Place) (k y : Expr) (es zs : List Expr) (o p : List Sized)
    → e ≡ Repeat place k es → y ≡ k → zs ≡ es → p ≡ o ++ apart d inside y → p ++ are_apart d inside zs ≡ o ++ below d e c inside
walk-Repeat d c inside e place k y es zs o p is at to first =
    two o p (apart d inside y) (are_apart d inside zs) (below d e c inside) first
    (ap (λ (x : Expr). apart d inside x ++ are_apart d inside zs) at ∙ ap (λ (x : List Expr). apart d inside k ++ are_apart d inside x) to ∙ of_form d c inside e (Repeat place k es) _ is (below-Repeat d place k es c inside))

pub walk-Binary : (d : Parts) (c s t : Shape) (inside : Bool) (e : Expr) (place : Place) (op : b.Binary) (l r y z : Expr) (o p : List Sized)
    → e ≡ Binary place op l r → y ≡ l → z ≡ r → s ≡ left_context op (shape_of d y) (shape_of d z) c → t ≡ right_context op (shape_of d y) (shape_of d z) c
    → p ≡ o ++ sized d s inside y → p ++ sized d t inside z ≡ o ++ below d e c inside
walk-Binary d c s t inside e place op l r y z o p is at to before behind first =
    two o p (sized d s inside y) (sized d t inside z) (below d e c inside) first
    (ap (λ (q : Shape). sized d q inside y ++ sized d t inside z) before ∙ ap (λ (q : Shape). sized d (left_context op (shape_of d y) (shape_of d z) c) inside y ++ sized d q inside z) behind
    ∙ ap (λ (x : Expr). sized d (left_context op (shape_of d x) (shape_of d z) c) inside x ++ sized d (right_context op (shape_of d x) (shape_of d z) c) inside z) at
    ∙ ap (λ (x : Expr). sized d (left_context op (shape_of d l) (shape_of d x) c) inside l ++ sized d (right_context op (shape_of d l) (shape_of d x) c) inside x) to
    ∙ of_form d c inside e (Binary place op l r) _ is (below-Binary d place op l r c inside))

pub walk-Conditional : (d : Parts) (c : Shape) (inside : Bool) (e : Expr) (place : Place) (t l r x y z : Expr) (o p q : List Sized)
    → e ≡ Conditional place t l r → x ≡ t → y ≡ l → z ≡ r → p ≡ o ++ apart d inside x → q ≡ p ++ sized d c inside y → q ++ sized d c inside z ≡ o ++ below d e c inside
walk-Conditional d c inside e place t l r x y z o p q is one two_ more first second =
    three o p q (apart d inside x) (sized d c inside y) (sized d c inside z) (below d e c inside) first second
    (ap (λ (w : Expr). apart d inside w ++ (sized d c inside y ++ sized d c inside z)) one ∙ ap (λ (w : Expr). apart d inside t ++ (sized d c inside w ++ sized d c inside z)) two_
    ∙ ap (λ (w : Expr). apart d inside t ++ (sized d c inside l ++ sized d c inside w)) more ∙ of_form d c inside e (Conditional place t l r) _ is (below-Conditional d place t l r c inside))
