-- Declared ranges. A bound is a constant from 0 to 65,535, and a vector has at most 1,024 bits.
--     place_of e                 the place of an expression's first token
--     bound frames e             a bound
--     bounds frames r            both
--     vector frames r            the range of a vector, if it has one
use Rattle.std.specs.Prelude.{ℕ, ◌||◌, nat_lt, if◌then◌else◌, Option, Some, None, Ok, Err}
use Rattle.rdc_outside.specs.declared.source.Place.{Place}
use Rattle.vlog_tree.specs.declared.expr.Expr.{Expr, fold-Expr}
use Rattle.vlog_tree.specs.declared.expr.Expr.TheOpen.{Expr-F}
use Rattle.vlog_tree.specs.declared.port.Range.{Range}
use Rattle.vlog_const.specs.declared.whole.Whole.{Whole}
use Rattle.vlog_const.specs.Selects.{whole}
use Rattle.design_form.specs.declared.signal.Bounds.{Bounds}
use Rattle.design_form.specs.Signals.{width_of}
use Rattle.elab_names.specs.declared.fault.ElabFault.TheVariants.{BadRange, WidthLimit}
use Rattle.elab_names.specs.Answers.{Or_fault, ◌>>=◌}
use Rattle.elab_names.specs.Meanings.{Frames}
use Rattle.elab_names.specs.Expressions.{constant}

unfoldable pub place_by_parts : Expr-F Place → Place
place_by_parts (Expr-F.Number place n) = place
place_by_parts (Expr-F.Name place name) = place
place_by_parts (Expr-F.Index place name i) = place
place_by_parts (Expr-F.Select how place name i j) = place
place_by_parts (Expr-F.Brackets place inner) = place
place_by_parts (Expr-F.Concat place members) = place
place_by_parts (Expr-F.Repeat place n members) = place
place_by_parts (Expr-F.Unary place op a) = place
place_by_parts (Expr-F.Binary place op a b) = place
place_by_parts (Expr-F.Conditional place test a b) = place

-- the place of an expression's first token
unfoldable pub place_of : Expr → Place
place_of = fold-Expr Place place_by_parts

-- the greatest bound
abbrev pub most : ℕ
most = 65535

-- a bound, where it is one
unfoldable pub within_bounds : Place → Whole → Or_fault ℕ
within_bounds place n = if n.negative || nat_lt most n.magnitude then Err (BadRange place) else Ok n.magnitude

-- a bound
unfoldable pub bound : Frames → Expr → Or_fault ℕ
bound frames e = do
  v ← constant frames e
  within_bounds (place_of e) (whole v)

-- both
unfoldable pub bounds : Frames → Range → Or_fault Bounds
bounds frames r = do
  m ← bound frames r.msb
  l ← bound frames r.lsb
  Ok (record { msb = m; lsb = l })

-- a range that is no wider than w bits
unfoldable pub narrow : ℕ → Place → Bounds → Or_fault Bounds
narrow w place b = if nat_lt w (width_of b) then Err (WidthLimit place) else Ok b

-- the range of a vector, if it has one
unfoldable pub vector : Frames → Option Range → Or_fault (Option Bounds)
vector frames None = Ok None
vector frames (Some r) = do
  b ← bounds frames r
  c ← narrow 1024 (place_of r.msb) b
  Ok (Some c)
