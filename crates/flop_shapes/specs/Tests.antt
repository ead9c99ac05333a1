-- What a reset event is called, and which tests ask for its level (IEEE 1364.1-2002, edge-sensitive processes with
-- asynchronous reset).
--     Bit                        a name, or a name with the value of its index
--     constant e                 the value of an index, where it is constant
--     bit_of e, event_bit e      the bit that an expression is, and that of an event
--     number_of e, level_of n    the number that an expression is, and the level that a number stands for
--     test_of e                  the bit that a test asks for, and the level at which it holds
--     same_bit a b               the same name with the same index, or both without one
--     is_one_bit d b             a bit of a signal, or a signal that is one bit
-- Brackets around any part of a test make no difference.
use Rattle.std.specs.Prelude.{ℕ, if◌then◌else◌, Bool, true, false, not, ◌&&◌, ◌||◌, ◌==◌, List, Option, Some, None, Ok, Err}
use Rattle.std.specs.Option.{option_map}
use Rattle.std.specs.Str.{bytes_eq}
use Rattle.vlog_tree.specs.declared.number.Base.{Base}
use Rattle.vlog_tree.specs.declared.number.Base.TheVariants as base
use Rattle.vlog_tree.specs.declared.number.Number.{Number}
use Rattle.vlog_tree.specs.declared.operator.Unary.{Unary}
use Rattle.vlog_tree.specs.declared.operator.Unary.TheVariants as unary
use Rattle.vlog_tree.specs.declared.operator.Binary.{Binary}
use Rattle.vlog_tree.specs.declared.operator.Binary.TheVariants as binary
use Rattle.vlog_tree.specs.declared.expr.Expr.{Expr, fold-Expr, para-Expr}
use Rattle.vlog_tree.specs.declared.expr.Expr.TheOpen.{Expr-F}
use Rattle.vlog_tree.specs.declared.stmt.Event.{Event}
use Rattle.vlog_const.specs.declared.answer.ConstValue.{ConstValue}
use Rattle.vlog_const.specs.declared.whole.Whole.{Whole}
use Rattle.vlog_const.specs.Names.{no_values}
use Rattle.vlog_const.specs.Worths as worths
use Rattle.vlog_const.specs.Selects.{whole}
use Rattle.vlog_const.specs.Constants.{value_of}
use Rattle.design_form.specs.declared.parts.Parts.{Parts}
use Rattle.design_form.specs.declared.signal.Signal.{Signal}
use Rattle.design_form.specs.Signals.{bounds_of, width_of}
use Rattle.design_form.specs.Numbers.{signal_of}

-- a name, or a name with the value of its index
pub record Bit : Type 0 where
  pub name : List ℕ
  pub index : Option Whole

-- ---- bits

unfoldable pub number_if : worths.Or_fault ConstValue → Option Whole
number_if (Ok v) = Some (whole v)
number_if (Err fault) = None

-- the value of an index, where it is constant
unfoldable pub constant : Expr → Option Whole
constant e = number_if (value_of no_values e)

abbrev pub whole_signal : List ℕ → Bit
whole_signal name = record { name = name; index = None }

abbrev pub indexed : List ℕ → Whole → Bit
indexed name i = record { name = name; index = Some i }

-- a name with an index, where that is constant
unfoldable pub at_index : List ℕ → Expr → Option Bit
at_index name i = option_map (indexed name) (constant i)

unfoldable pub bit_by_parts : Expr-F (Expr × Option Bit) → Option Bit
bit_by_parts (Expr-F.Name place name) = Some (whole_signal name)
bit_by_parts (Expr-F.Index place name i) = at_index name i.0
bit_by_parts (Expr-F.Brackets place inner) = inner.1
bit_by_parts e = None

-- the bit that an expression is
unfoldable pub bit_of : Expr → Option Bit
bit_of = para-Expr (Option Bit) bit_by_parts

unfoldable pub named_at : List ℕ → Option Expr → Option Bit
named_at name None = Some (whole_signal name)
named_at name (Some i) = at_index name i

-- the bit of an event
unfoldable pub event_bit : Event → Option Bit
event_bit e = named_at e.name.name e.index

abbrev pub same_sign : Bool → Bool → Bool
same_sign a b = if a then b else not b

unfoldable pub same_index : Option Whole → Option Whole → Bool
same_index None None = true
same_index None (Some j) = false
same_index (Some i) None = false
same_index (Some i) (Some j) = same_sign i.negative j.negative && i.magnitude == j.magnitude

-- the same name with the same index, or both without one
unfoldable pub same_bit : Bit → Bit → Bool
same_bit a b = bytes_eq a.name b.name && same_index a.index b.index

unfoldable pub is_scalar : Option Signal → Bool
is_scalar None = false
is_scalar (Some s) = width_of (bounds_of s) == 1

unfoldable pub is_one_in : Parts → List ℕ → Option Whole → Bool
is_one_in d name None = is_scalar (signal_of d.signals name)
is_one_in d name (Some i) = true

-- a bit of a signal, or a signal that is one bit
unfoldable pub is_one_bit : Parts → Bit → Bool
is_one_bit d b = is_one_in d b.name b.index

-- ---- numbers

unfoldable pub number_by_parts : Expr-F (Option Number) → Option Number
number_by_parts (Expr-F.Number place n) = Some n
number_by_parts (Expr-F.Brackets place inner) = inner
number_by_parts e = None

-- the number that an expression is
unfoldable pub number_of : Expr → Option Number
number_of = fold-Expr (Option Number) number_by_parts

unfoldable pub is_decimal : Base → Bool
is_decimal base.Decimal = true
is_decimal b = false

-- a decimal number as 1 is written, of 32 bits with a sign: a parameter's has another base
abbrev pub is_plain : Number → Bool
is_plain n = not n.sized && n.signed && is_decimal n.base && n.width == 32

-- a number of one bit as 1'b1 is written, in any base
abbrev pub is_bit : Number → Bool
is_bit n = n.sized && not n.signed && n.width == 1

-- the level that a number stands for
unfoldable pub level_of : Number → Option Bool
level_of n =
    if not ((is_plain n || is_bit n) && n.z == 0) then None
    else (if n.bits == 0 then Some false
    else (if n.bits == 1 then Some true
    else None))

unfoldable pub level_in : Option Number → Option Bool
level_in None = None
level_in (Some n) = level_of n

-- ---- tests

-- a bit, and the level at which a test of it holds
abbrev pub Test : Type 0
Test = Bit × Bool

unfoldable pub at_level : Option Bit → Option Bool → Option Test
at_level (Some b) (Some high) = Some (b, high)
at_level b high = None

-- ! and ~
unfoldable pub inverted : Unary → Option Bit → Option Test
inverted unary.Not b = at_level b (Some false)
inverted unary.Invert b = at_level b (Some false)
inverted op b = None

-- ==
unfoldable pub compared : Binary → Option Bit → Option Number → Option Test
compared binary.Equal b n = at_level b (level_in n)
compared op b n = None

unfoldable pub test_by_parts : Expr-F (Expr × Option Test) → Option Test
test_by_parts (Expr-F.Name place name) = Some (whole_signal name, true)
test_by_parts (Expr-F.Index place name i) = at_level (at_index name i.0) (Some true)
test_by_parts (Expr-F.Brackets place inner) = inner.1
test_by_parts (Expr-F.Unary place op a) = inverted op (bit_of a.0)
test_by_parts (Expr-F.Binary place op a b) = compared op (bit_of a.0) (number_of b.0)
test_by_parts e = None

-- the bit that a test asks for, and the level at which it holds
unfoldable pub test_of : Expr → Option Test
test_of = para-Expr (Option Test) test_by_parts
