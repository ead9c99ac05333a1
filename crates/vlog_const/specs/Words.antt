-- Numbers modulo 2^w as bits (IEEE 1364-2005, 5.1): what an operator gives in a context of width w and of a sign.
--     low w a, inverted w a, negated w a      the low w bits; all w bits inverted; the number of opposite sign
--     is_negative s w a, magnitude s w a      a signed number with its top bit set; how far it is from 0
--     extended w c a                          a of w bits in the context c, the top bit in each new place where it is signed
--     arithmetic op c a b                     `+ - * / % & ^ ~^ |`, the divisor not 0
--     is_less, compared op c a b              `< <= > >= == != === !==`
--     shifted op c a n                        `<< >> <<< >>> **` by n
--     reduced op w a, logical op a b          `! & ~& | ~| ^ ~^` on all bits; `&& ||`
--     sized op w a                            `+ - ~`
use Rattle.std.specs.Prelude.{ℕ, ◌+◌, ◌-◌, ◌*◌, ◌/◌, ◌%◌, ◌^◌, Bool, true, false, not, ◌&&◌, ◌||◌, ◌==◌, nat_lt, nat_le, if◌then◌else◌, bit_and, bit_or, bit_xor, count_ones}
use Rattle.vlog_tree.specs.declared.operator.Unary.{Unary}
use Rattle.vlog_tree.specs.declared.operator.Unary.TheVariants as unary
use Rattle.vlog_tree.specs.declared.operator.Binary.{Binary}
use Rattle.vlog_tree.specs.declared.operator.Binary.TheVariants as binary
use Rattle.vlog_const.specs.declared.shape.Shape.{Shape}

-- modulo 2^w
abbrev pub low : ℕ → ℕ → ℕ
low w a = a % 2 ^ w

-- ~a
abbrev pub inverted : ℕ → ℕ → ℕ
inverted w a = (2 ^ w - 1) - a

-- -a, the inverted bits and 1
abbrev pub negated : ℕ → ℕ → ℕ
negated w a = low w (inverted w a + 1)

-- the top bit of a signed number is 1
unfoldable pub is_negative : Bool → ℕ → ℕ → Bool
is_negative signed w a = signed && nat_le (2 ^ (w - 1)) a

-- exactly one of two
unfoldable pub differ : Bool → Bool → Bool
differ false b = b
differ true b = not b

-- the number without its sign
unfoldable pub magnitude : Bool → ℕ → ℕ → ℕ
magnitude signed w a = if is_negative signed w a then negated w a else a

-- a number, or the one of opposite sign
unfoldable pub with_sign : Bool → ℕ → ℕ → ℕ
with_sign negative w a = if negative then negated w a else a

-- w bits in a context: cut, or with the top bit of a signed number in each new place, else 0
unfoldable pub extended : ℕ → Shape → ℕ → ℕ
extended w c a = low c.width (if is_negative c.signed w a then a + (2 ^ c.width - 2 ^ w) else a)

-- toward zero: the magnitudes divided, negative where the signs differ
unfoldable pub quotient : Shape → ℕ → ℕ → ℕ
quotient c a b =
    with_sign (differ (is_negative c.signed c.width a) (is_negative c.signed c.width b)) c.width (magnitude c.signed c.width a / magnitude c.signed c.width b)

-- what such a division leaves, with the sign of the first operand
unfoldable pub remainder : Shape → ℕ → ℕ → ℕ
remainder c a b = with_sign (is_negative c.signed c.width a) c.width (magnitude c.signed c.width a % magnitude c.signed c.width b)

unfoldable pub arithmetic : Binary → Shape → ℕ → ℕ → ℕ
arithmetic binary.Add c a b = low c.width (a + b)
arithmetic binary.Subtract c a b = low c.width (a + negated c.width b)
arithmetic binary.Multiply c a b = low c.width (a * b)
arithmetic binary.Divide c a b = quotient c a b
arithmetic binary.Remainder c a b = remainder c a b
arithmetic binary.And c a b = bit_and a b
arithmetic binary.Or c a b = bit_or a b
arithmetic binary.Xor c a b = bit_xor a b
arithmetic binary.Xnor c a b = inverted c.width (bit_xor a b)
arithmetic _ c a b = 0

-- the order of numbers: a negative one is below the others, and numbers of one sign are in the order of their bits
unfoldable pub is_less : Shape → ℕ → ℕ → Bool
is_less c a b =
    if differ (is_negative c.signed c.width a) (is_negative c.signed c.width b) then is_negative c.signed c.width a else nat_lt a b

unfoldable pub compared : Binary → Shape → ℕ → ℕ → Bool
compared binary.Less c a b = is_less c a b
compared binary.AtMost c a b = not (is_less c b a)
compared binary.Greater c a b = is_less c b a
compared binary.AtLeast c a b = not (is_less c a b)
compared binary.Equal c a b = a == b
compared binary.NotEqual c a b = not (a == b)
compared binary.CaseEqual c a b = a == b
compared binary.CaseNotEqual c a b = not (a == b)
compared _ c a b = false

-- to the right, the places on the left filled with 1 behind a negative number
unfoldable pub shifted_right : Bool → ℕ → ℕ → ℕ → ℕ
shifted_right negative w a n = if negative then inverted w (inverted w a / 2 ^ n) else a / 2 ^ n

unfoldable pub shifted : Binary → Shape → ℕ → ℕ → ℕ
shifted binary.ShiftLeft c a n = low c.width (a * 2 ^ n)
shifted binary.ArithmeticShiftLeft c a n = low c.width (a * 2 ^ n)
shifted binary.ShiftRight c a n = a / 2 ^ n
shifted binary.ArithmeticShiftRight c a n = shifted_right (is_negative c.signed c.width a) c.width a n
shifted binary.Power c a n = low c.width (a ^ n)
shifted _ c a n = 0

unfoldable pub reduced : Unary → ℕ → ℕ → Bool
reduced unary.Not w a = a == 0
reduced unary.ReduceAnd w a = a == 2 ^ w - 1
reduced unary.ReduceNand w a = not (a == 2 ^ w - 1)
reduced unary.ReduceOr w a = not (a == 0)
reduced unary.ReduceNor w a = a == 0
reduced unary.ReduceXor w a = count_ones a % 2 == 1
reduced unary.ReduceXnor w a = not (count_ones a % 2 == 1)
reduced _ w a = false

unfoldable pub sized : Unary → ℕ → ℕ → ℕ
sized unary.Plus w a = a
sized unary.Minus w a = negated w a
sized unary.Invert w a = inverted w a
sized _ w a = 0

-- whether any bit is 1 in both, or in one
unfoldable pub logical : Binary → ℕ → ℕ → Bool
logical binary.LogicalAnd a b = not (a == 0) && not (b == 0)
logical binary.LogicalOr a b = not (a == 0) || not (b == 0)
logical _ a b = false
