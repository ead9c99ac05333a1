-- Contexts that an expression may stand in: as wide at least, and signed only where the expression is.
--     Covers c s, CoversAll d c es
--     beside_nothing e      the OR of an expression with a 0 of no bits: the same value, unsigned
use Rattle.std.specs.Prelude.{◌≡◌, ◌≤◌, true, false, List, [], ◌∷◌}
use Rattle.rdc_outside.specs.declared.source.Place.{Place}
use Rattle.vlog_tree.specs.declared.expr.Expr.{Expr}
use Rattle.vlog_tree.specs.declared.expr.Expr.TheVariants as expr
use Rattle.vlog_tree.specs.declared.number.Number.{Number}
use Rattle.vlog_tree.specs.declared.number.Base.TheVariants.{Decimal}
use Rattle.vlog_tree.specs.declared.operator.Binary.TheVariants.{Or}
use Rattle.vlog_const.specs.declared.shape.Shape.{Shape}
use Rattle.design_form.specs.declared.parts.Parts.{Parts}
use Rattle.design_sizes.specs.Sizes.{shape_of}

pub record Covers (c s : Shape) : Type 0 where
  pub width : s.width ≤ c.width
  pub signed : c.signed ≡ true → s.signed ≡ true

unfoldable pub CoversAll : Parts → Shape → List Expr → Type 0
CoversAll d c [] = Unit {0}
CoversAll d c (e ∷ es) = Covers c (shape_of d e) × CoversAll d c es

abbrev pub nowhere : Place
nowhere = record { file = 0; line = 0; col = 0 }

abbrev pub nothing : Number
nothing = record { sized = true; signed = false; base = Decimal; width = 0; bits = 0; z = 0 }

abbrev pub beside_nothing : Expr → Expr
beside_nothing e = expr.Binary nowhere Or e (expr.Number nowhere nothing)
