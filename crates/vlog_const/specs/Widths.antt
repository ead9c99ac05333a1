-- Widths and signs of expressions (IEEE 1364-2005, 5.4 and 5.5), of constants and of signals alike.
-- By itself an expression has a shape: a width and a sign. Where it stands in another one it has a context, which is a
-- shape too. An operator hands its context down to some operands, and what hands none down extends its value to it.
--     bit, unsigned w                                 one bit, and w bits, without a sign
--     common a b                                      the shape of operands that go together
--     family_of op, operand_family op                 how an operator treats its operands
--     unary_shape op a, binary_shape op a b           by itself, from its operands
--     choice_shape a b, joined_shape a b, repeated_shape n a    the same of `?:`, of `{a, b}` and of `{n{a}}`
--     unary_context op a c, left_context op a b c, right_context op a b c           its operands' contexts
--     within w s                                      the context by an assignment to w bits, of an expression of shape s
use Rattle.std.specs.Prelude.{ℕ, ◌+◌, ◌*◌, max, false, ◌&&◌}
use Rattle.vlog_tree.specs.declared.operator.Unary.{Unary}
use Rattle.vlog_tree.specs.declared.operator.Unary.TheVariants as unary
use Rattle.vlog_tree.specs.declared.operator.Binary.{Binary}
use Rattle.vlog_tree.specs.declared.operator.Binary.TheVariants as binary
use Rattle.vlog_const.specs.declared.shape.Shape.{Shape}
use Rattle.vlog_const.specs.declared.shape.Family.{Family}
use Rattle.vlog_const.specs.declared.shape.Family.TheVariants.{Contextual, Compared, Alone, Leading}

abbrev pub unsigned : ℕ → Shape
unsigned w = record { width = w; signed = false }

abbrev pub bit : Shape
bit = unsigned 1

-- the larger width; signed where both are
abbrev pub common : Shape → Shape → Shape
common a b = record { width = max a.width b.width; signed = a.signed && b.signed }

-- `+ - ~` take the operand in the context; reductions and `!` take it by itself
unfoldable pub operand_family : Unary → Family
operand_family unary.Plus = Contextual
operand_family unary.Minus = Contextual
operand_family unary.Invert = Contextual
operand_family unary.Not = Alone
operand_family unary.ReduceAnd = Alone
operand_family unary.ReduceNand = Alone
operand_family unary.ReduceOr = Alone
operand_family unary.ReduceNor = Alone
operand_family unary.ReduceXor = Alone
operand_family unary.ReduceXnor = Alone

-- arithmetic and bitwise operators take both operands in the context, comparisons both in their common shape, `&&` and
-- `||` each by itself; of a shift or a power the left operand stands in the context and the right one by itself
unfoldable pub family_of : Binary → Family
family_of binary.Multiply = Contextual
family_of binary.Divide = Contextual
family_of binary.Remainder = Contextual
family_of binary.Add = Contextual
family_of binary.Subtract = Contextual
family_of binary.And = Contextual
family_of binary.Xor = Contextual
family_of binary.Xnor = Contextual
family_of binary.Or = Contextual
family_of binary.Less = Compared
family_of binary.AtMost = Compared
family_of binary.Greater = Compared
family_of binary.AtLeast = Compared
family_of binary.Equal = Compared
family_of binary.NotEqual = Compared
family_of binary.CaseEqual = Compared
family_of binary.CaseNotEqual = Compared
family_of binary.LogicalAnd = Alone
family_of binary.LogicalOr = Alone
family_of binary.Power = Leading
family_of binary.ShiftLeft = Leading
family_of binary.ShiftRight = Leading
family_of binary.ArithmeticShiftLeft = Leading
family_of binary.ArithmeticShiftRight = Leading

-- the shape of an expression by itself, from those of its operands
abbrev pub shape_in : Family → Shape → Shape → Shape
shape_in Contextual a b = common a b
shape_in Compared a b = bit
shape_in Alone a b = bit
shape_in Leading a b = a

unfoldable pub unary_shape : Unary → Shape → Shape
unary_shape op a = shape_in (operand_family op) a a

unfoldable pub binary_shape : Binary → Shape → Shape → Shape
binary_shape op a b = shape_in (family_of op) a b

-- c ? a : b
abbrev pub choice_shape : Shape → Shape → Shape
choice_shape a b = common a b

-- { a, b }, and { n { a } }
abbrev pub joined_shape : Shape → Shape → Shape
joined_shape a b = unsigned (a.width + b.width)

abbrev pub repeated_shape : ℕ → Shape → Shape
repeated_shape n a = unsigned (n * a.width)

-- the context of the left operand, and of the right one, where the expression stands in the context `c`
abbrev pub left_in : Family → Shape → Shape → Shape → Shape
left_in Contextual a b c = c
left_in Compared a b c = common a b
left_in Alone a b c = a
left_in Leading a b c = c

abbrev pub right_in : Family → Shape → Shape → Shape → Shape
right_in Contextual a b c = c
right_in Compared a b c = common a b
right_in Alone a b c = b
right_in Leading a b c = b

unfoldable pub unary_context : Unary → Shape → Shape → Shape
unary_context op a c = left_in (operand_family op) a a c

unfoldable pub left_context : Binary → Shape → Shape → Shape → Shape
left_context op a b c = left_in (family_of op) a b c

unfoldable pub right_context : Binary → Shape → Shape → Shape → Shape
right_context op a b c = right_in (family_of op) a b c

-- the larger of both sides of an assignment; the sign is the expression's own
abbrev pub within : ℕ → Shape → Shape
within w s = record { width = max s.width w; signed = s.signed }
