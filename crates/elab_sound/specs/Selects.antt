-- What one part of an expression must meet.
--     in_range place ok           a select in range, or the fault at its place
--     constant e                  the value of an expression by itself, as a constant
--     index_checked d place name i, part_checked d how place name i j      a select
--     count_checked place n       a number of copies, which is not negative
--     operator_checked op c e     `/`, `%` and `**` are of constants alone, in the context c
--     checked d s                 a part, in its context
use Rattle.std.specs.Prelude.{ℕ, Bool, true, false, not, if◌then◌else◌, List, Option, Some, None, Ok, Err}
use Rattle.rdc_outside.specs.declared.source.Place.{Place}
use Rattle.vlog_tree.specs.declared.expr.Expr.{Expr, out-Expr}
use Rattle.vlog_tree.specs.declared.expr.Expr.TheOpen.{Expr-F}
use Rattle.vlog_tree.specs.declared.expr.Part.{Part}
use Rattle.vlog_tree.specs.declared.expr.Part.TheVariants.{Fixed}
use Rattle.vlog_tree.specs.declared.operator.Binary.{Binary}
use Rattle.vlog_const.specs.declared.shape.Shape.{Shape}
use Rattle.vlog_const.specs.declared.answer.ConstValue.{ConstValue}
use Rattle.vlog_const.specs.declared.whole.Whole.{Whole}
use Rattle.vlog_const.specs.Names.{no_values}
use Rattle.vlog_const.specs.Selects.{whole, counted}
use Rattle.vlog_const.specs.Constants.{value_of, value_in}
use Rattle.design_form.specs.declared.parts.Parts.{Parts}
use Rattle.design_form.specs.Values.{is_computed}
use Rattle.design_sizes.specs.Sizes.{Sized, has_name}
use Rattle.elab_names.specs.declared.fault.ElabFault.TheVariants.{BadRange}
use Rattle.elab_names.specs.Answers.{Or_fault, ◌>>=◌, lifted}
use Rattle.elab_sound.specs.Ranges.{range_of, holds, spans, reaches}

-- a select in range, or the fault at its place
unfoldable pub in_range : Place → Bool → Or_fault (Unit {0})
in_range place true = Ok tt
in_range place false = Err (BadRange place)

-- the value of an expression by itself, as a constant
abbrev pub constant : Expr → Or_fault ConstValue
constant e = lifted (value_of no_values e)

-- ---- selects

-- a constant index
unfoldable pub fixed_checked : Parts → Place → List ℕ → Expr → Or_fault (Unit {0})
fixed_checked d place name i = do
  v ← constant i
  in_range place (holds (range_of d name) (whole v))

-- name [ i ]
unfoldable pub index_checked : Parts → Place → List ℕ → Expr → Or_fault (Unit {0})
index_checked d place name i = if has_name i then Ok tt else fixed_checked d place name i

-- where a part begins, if that is a constant
unfoldable pub known_start : Expr → Or_fault (Option Whole)
known_start i = do
  v ← constant i
  Ok (Some (whole v))

unfoldable pub start : Expr → Or_fault (Option Whole)
start i = if has_name i then Ok None else known_start i

-- name [ i : j ], name [ i +: j ], name [ i -: j ]
unfoldable pub part_checked : Parts → Part → Place → List ℕ → Expr → Expr → Or_fault (Unit {0})
part_checked d Fixed place name i j = do
  a ← constant i
  b ← constant j
  in_range place (spans (range_of d name) (whole a) (whole b))
part_checked d how place name i j = do
  a ← start i
  b ← constant j
  in_range place (reaches how (range_of d name) a (counted (whole b)))

-- ---- counts and operators

unfoldable pub count_checked : Place → Expr → Or_fault (Unit {0})
count_checked place n = do
  v ← constant n
  in_range place (not (whole v).negative)

-- an expression that has a value as a constant in a context
unfoldable pub computed : Shape → Expr → Or_fault (Unit {0})
computed c e = do
  v ← lifted (value_in no_values c e)
  Ok tt

unfoldable pub operator_checked : Binary → Shape → Expr → Or_fault (Unit {0})
operator_checked op c e = if is_computed op then computed c e else Ok tt

-- ---- parts

-- an expression of some form, in a context
unfoldable pub form_checked : Parts → Shape → Expr → Expr-F Expr → Or_fault (Unit {0})
form_checked d c e (Expr-F.Index place name i) = index_checked d place name i
form_checked d c e (Expr-F.Select how place name i j) = part_checked d how place name i j
form_checked d c e (Expr-F.Repeat place n members) = count_checked place n
form_checked d c e (Expr-F.Binary place op a b) = operator_checked op c e
form_checked d c e _ = Ok tt

-- a part, in its context
unfoldable pub checked : Parts → Sized → Or_fault (Unit {0})
checked d s = form_checked d s.shape s.expr (out-Expr s.expr)
