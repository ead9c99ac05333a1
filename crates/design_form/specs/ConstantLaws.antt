-- Constant expressions in a design, where a number stands in the place of each name that is a constant.
--     written values e           an expression with those numbers put in
--     AgreesWithConstants        it is worth what it is worth as a constant, whatever other names stand for
use Rattle.std.specs.Prelude.{◌≡◌, ℕ, true, List, map, Ok, Err}
use Rattle.rdc_outside.specs.declared.source.Place.{Place}
use Rattle.vlog_tree.specs.declared.expr.Expr.{Expr, para-Expr}
use Rattle.vlog_tree.specs.declared.expr.Expr.TheVariants as expr
use Rattle.vlog_tree.specs.declared.expr.Expr.TheOpen.{Expr-F}
use Rattle.vlog_tree.specs.declared.number.Base.TheVariants.{Decimal}
use Rattle.vlog_const.specs.declared.shape.Shape.{Shape}
use Rattle.vlog_const.specs.declared.answer.ConstValue.{ConstValue}
use Rattle.vlog_const.specs.Names.{Values}
use Rattle.vlog_const.specs.Worths.{Or_fault}
use Rattle.vlog_const.specs.Constants.{value_of, value_in, value_within}
use Rattle.design_form.specs.Bits.{bits}
use Rattle.design_form.specs.Selects.{Seen}
use Rattle.design_form.specs.Values.{word_of, word_in, word_within}

-- a value as a number
abbrev pub as_number : Place → ConstValue → Expr
as_number place v = expr.Number place (record { sized = true; signed = v.signed; base = Decimal; width = v.width; bits = v.bits; z = 0 })

-- a part as the number that it is, where it has a value, and else as it stands
unfoldable pub number_or : Place → Expr → Or_fault ConstValue → Expr
number_or place e (Ok v) = as_number place v
number_or place e (Err fault) = e

-- an expression from its parts, each beside itself with its numbers put in
unfoldable pub written_by_parts : Values → Expr-F (Expr × Expr) → Expr
written_by_parts values (Expr-F.Number place n) = expr.Number place n
written_by_parts values (Expr-F.Name place name) = number_or place (expr.Name place name) (value_of values (expr.Name place name))
written_by_parts values (Expr-F.Index place name i) = number_or place (expr.Index place name i.1) (value_of values (expr.Index place name i.0))
written_by_parts values (Expr-F.Select how place name i j) = number_or place (expr.Select how place name i.1 j.1) (value_of values (expr.Select how place name i.0 j.0))
written_by_parts values (Expr-F.Brackets place a) = expr.Brackets place a.1
written_by_parts values (Expr-F.Concat place members) = expr.Concat place (map (λ a. a.1) members)
written_by_parts values (Expr-F.Repeat place n members) = expr.Repeat place n.1 (map (λ a. a.1) members)
written_by_parts values (Expr-F.Unary place op a) = expr.Unary place op a.1
written_by_parts values (Expr-F.Binary place op a b) = expr.Binary place op a.1 b.1
written_by_parts values (Expr-F.Conditional place test a b) = expr.Conditional place test.1 a.1 b.1

-- an expression with a number in the place of each name and of each select that has a value
unfoldable pub written : Values → Expr → Expr
written values = para-Expr Expr (written_by_parts values)

-- where an expression has a value as a constant, its word is the bits of that value: alone, in a context, and as on the
-- right of an assignment
pub record AgreesWithConstants : Type 0 where
  pub alone : (values : Values) (names : List ℕ → Seen) (e : Expr) (v : ConstValue) → value_of values e ≡ Ok v → word_of names (written values e) ≡ bits v.width v.bits
  pub inside : (values : Values) (names : List ℕ → Seen) (c : Shape) (e : Expr) (v : ConstValue) → value_in values c e ≡ Ok v → word_in names c (written values e) ≡ bits v.width v.bits
  pub assigned : (values : Values) (names : List ℕ → Seen) (w : ℕ) (e : Expr) (v : ConstValue) → value_within values w e ≡ Ok v → word_within names w (written values e) ≡ bits v.width v.bits
