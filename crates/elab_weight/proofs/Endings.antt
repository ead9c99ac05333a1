-- Serves specs/Laws.antt: the number that a variable ends with is the one part that weighs.
use Rattle.std.proofs.Common.{◌≡◌, ℕ, max, Bool, true, false, not, ◌||◌, List, [], ◌∷◌, ◌++◌, zero-add, sym, ap, ◌∙◌}
use Rattle.rdc_outside.specs.declared.source.Place.{Place}
use Rattle.vlog_tree.specs.declared.expr.Expr.{Expr, fold-roll-Expr, para-roll-Expr}
use Rattle.vlog_tree.specs.declared.expr.Expr.TheOpen.{Expr-F}
use Rattle.vlog_tree.specs.declared.expr.Expr.TheVariants.{Number, Name, rolls-Number, rolls-Name}
use Rattle.vlog_tree.specs.declared.number.Number as n
use Rattle.vlog_tree.specs.declared.number.Base.TheVariants.{Decimal}
use Rattle.vlog_tree.specs.declared.stmt.Assigns.{Assigns}
use Rattle.vlog_tree.specs.declared.stmt.Assigns.TheVariants.{Blocking}
use Rattle.vlog_tree.specs.declared.stmt.Stmt.{fold-roll-Stmt}
use Rattle.vlog_tree.specs.declared.stmt.Stmt.TheOpen.{Stmt-F}
use Rattle.vlog_tree.specs.declared.stmt.Stmt.TheVariants.{Assign, rolls-Assign}
use Rattle.vlog_const.specs.declared.shape.Shape.{Shape}
use Rattle.vlog_const.specs.Widths.{within}
use Rattle.design_form.specs.declared.parts.Parts.{Parts}
use Rattle.design_form.specs.State.{seen_in}
use Rattle.design_form.specs.Values.{Valued}
use Rattle.design_form.proofs.ValueLemmas.{valued-Number}
use Rattle.design_sizes.specs.Sizes.{Sized, Below, below, below_by_parts, has_name, named_by_parts, shape_of, sized, sized_assignment, sized_statement, sized_target, sized_within, statement_by_parts, target_by_parts, whole}
use Rattle.elab_weight.specs.PartWeights.{part_weight, parts_weight}
use Rattle.elab_weight.specs.Laws.{EndingsCount}

statement-Assign : (d : Parts) (place : Place) (t : Expr) (by : Assigns) (v : Expr) → sized_statement d (Assign place t by v) ≡ sized_assignment d t v
unfolding sized_statement statement_by_parts
statement-Assign d place t by v = ap (sized_statement d) (sym (rolls-Assign place t by v)) ∙ fold-roll-Stmt (List Sized) (statement_by_parts d) (Stmt-F.Assign place t by v)

target-Name : (d : Parts) (place : Place) (name : List ℕ) → sized_target d (Name place name) ≡ []
unfolding sized_target target_by_parts
target-Name d place name = ap (sized_target d) (sym (rolls-Name place name)) ∙ para-roll-Expr (List Sized) (target_by_parts d) (Expr-F.Name place name)

below-Number : (d : Parts) (place : Place) (x : n.Number) (c : Shape) (inside : Bool) → below d (Number place x) c inside ≡ []
unfolding below below_by_parts
below-Number d place x c inside =
    ap (λ (e : Expr). below d e c inside) (sym (rolls-Number place x)) ∙ ap (λ (b : Below). b c inside) (para-roll-Expr Below (below_by_parts d) (Expr-F.Number place x))

has-Number : (place : Place) (x : n.Number) → has_name (Number place x) ≡ false
unfolding has_name named_by_parts
has-Number place x = ap has_name (sym (rolls-Number place x)) ∙ fold-roll-Expr Bool named_by_parts (Expr-F.Number place x)

-- a number has no parts
part : Shape → Expr → Bool → Sized
part c e named = record { expr = e; shape = c; constant = not named; inside = false }

sized-Number : (d : Parts) (place : Place) (x : n.Number) (c : Shape) → sized d c false (Number place x) ≡ part c (Number place x) false ∷ []
unfolding sized whole part
sized-Number d place x c =
    ap (λ (b : Bool). part c (Number place x) b ∷ below d (Number place x) c (false || not b)) (has-Number place x)
    ∙ ap (λ (l : List Sized). part c (Number place x) false ∷ l) (below-Number d place x c true)

one-weight : (d : Parts) (c : Shape) (e : Expr) → parts_weight d (part c e false ∷ []) ≡ c.width
unfolding part part_weight
one-weight d c e = zero-add c.width

pub endings : EndingsCount
endings d variable v =
    let x : n.Number = record { sized = true; signed = v.signed; base = Decimal; width = v.width; bits = v.bits; z = 0 } in
    let target : Expr = Name variable.place variable.name in
    let value : Expr = Number variable.place x in
    let w : ℕ = (shape_of d target).width in
    ap (parts_weight d) (statement-Assign d variable.place target Blocking value)
    ∙ ap (λ (l : List Sized). parts_weight d (l ++ sized_within d w value)) (target-Name d variable.place variable.name)
    ∙ ap (parts_weight d) (sized-Number d variable.place x (within w (shape_of d value)))
    ∙ one-weight d (within w (shape_of d value)) value
    ∙ ap (λ (s : Valued). max s.shape.width w) (valued-Number (seen_in d []) variable.place x)
