-- What each operator gives of words that stand in one context (IEEE 1364-2005, 5.1), gate by gate.
--     gate_of op                    `& | ^ ~^` on one bit
--     sized op a                    `+ - ~`
--     arithmetic op a b             `+ - * & | ^ ~^`
--     compared op signed a b        `< <= > >= == != === !==`
--     reduced op a, logical op a b  `! & ~& | ~| ^ ~^` over all bits; `&& ||`
--     shifted op signed a n         `<< >> <<< >>>` by n
--     between op signed c a b       any of them between two operands, in a context
use Rattle.std.specs.Prelude.{Bool, if◌then◌else◌, List, [], ◌∷◌}
use Rattle.vlog_tree.specs.declared.operator.Unary.{Unary}
use Rattle.vlog_tree.specs.declared.operator.Unary.TheVariants as unary
use Rattle.vlog_tree.specs.declared.operator.Binary.{Binary}
use Rattle.vlog_tree.specs.declared.operator.Binary.TheVariants as binary
use Rattle.rdc_tern.specs.declared.value.Tern.{Tern}
use Rattle.rdc_tern.specs.declared.value.Tern.TheVariants.{Zero}
use Rattle.rdc_tern.specs.Kleene.{not_of, and_of, or_of, xor_of}
use Rattle.rdc_tern.specs.Shifts.{shl_of, shr_of, sar_of}
use Rattle.rdc_tern.specs.Words.{inverted, add_of, sub_of, neg_of, mul_of, any_of, all_of, parity_of, eq_of, lt_of, lt_signed_of}
use Rattle.vlog_const.specs.declared.shape.Shape.{Shape}
use Rattle.vlog_const.specs.declared.shape.Family.{Family}
use Rattle.vlog_const.specs.declared.shape.Family.TheVariants.{Contextual, Compared, Alone, Leading}
use Rattle.vlog_const.specs.Widths.{family_of, operand_family}
use Rattle.design_form.specs.Bits.{each, extended}

-- `& | ^ ~^` on one bit
unfoldable pub gate_of : Binary → Tern → Tern → Tern
gate_of binary.And a b = and_of a b
gate_of binary.Or a b = or_of a b
gate_of binary.Xor a b = xor_of a b
gate_of binary.Xnor a b = not_of (xor_of a b)
gate_of _ a b = Zero

unfoldable pub sized : Unary → List Tern → List Tern
sized unary.Minus a = neg_of a
sized unary.Invert a = inverted a
sized _ a = a

unfoldable pub arithmetic : Binary → List Tern → List Tern → List Tern
arithmetic binary.Add a b = add_of a b
arithmetic binary.Subtract a b = sub_of a b
arithmetic binary.Multiply a b = mul_of a b
arithmetic op a b = each (gate_of op) a b

-- a < b, of signed words with their top bits inverted
unfoldable pub less : Bool → List Tern → List Tern → Tern
less signed a b = if signed then lt_signed_of a b else lt_of a b

unfoldable pub compared : Binary → Bool → List Tern → List Tern → Tern
compared binary.Less signed a b = less signed a b
compared binary.AtMost signed a b = not_of (less signed b a)
compared binary.Greater signed a b = less signed b a
compared binary.AtLeast signed a b = not_of (less signed a b)
compared binary.Equal signed a b = eq_of a b
compared binary.CaseEqual signed a b = eq_of a b
compared binary.NotEqual signed a b = not_of (eq_of a b)
compared binary.CaseNotEqual signed a b = not_of (eq_of a b)
compared _ signed a b = Zero

-- `!` and the reductions
unfoldable pub reduced : Unary → List Tern → Tern
reduced unary.Not a = not_of (any_of a)
reduced unary.ReduceAnd a = all_of a
reduced unary.ReduceNand a = not_of (all_of a)
reduced unary.ReduceOr a = any_of a
reduced unary.ReduceNor a = not_of (any_of a)
reduced unary.ReduceXor a = parity_of a
reduced unary.ReduceXnor a = not_of (parity_of a)
reduced _ a = Zero

-- over the OR of all bits of each operand
unfoldable pub logical : Binary → List Tern → List Tern → Tern
logical binary.LogicalAnd a b = and_of (any_of a) (any_of b)
logical binary.LogicalOr a b = or_of (any_of a) (any_of b)
logical _ a b = Zero

-- `>>>` fills with the top bit of the value before the shift, where that is signed
unfoldable pub shifted : Binary → Bool → List Tern → List Tern → List Tern
shifted binary.ShiftLeft signed a n = shl_of a n
shifted binary.ArithmeticShiftLeft signed a n = shl_of a n
shifted binary.ShiftRight signed a n = shr_of a n
shifted binary.ArithmeticShiftRight signed a n = if signed then sar_of a n else shr_of a n
shifted _ signed a n = a

-- one bit in a context
abbrev pub one_bit : Shape → Tern → List Tern
one_bit c t = extended c (t ∷ [])

-- an operator before its operand, which stands in its own context
unfoldable pub before_in : Family → Unary → Shape → List Tern → List Tern
before_in Contextual op c a = sized op a
before_in _ op c a = one_bit c (reduced op a)

abbrev pub before : Unary → Shape → List Tern → List Tern
before op c a = before_in (operand_family op) op c a

-- an operator between its operands, each of which stands in its own context; `common` are the width and the sign of both
unfoldable pub between_in : Family → Binary → Bool → Shape → List Tern → List Tern → List Tern
between_in Contextual op signed c a b = arithmetic op a b
between_in Compared op signed c a b = one_bit c (compared op signed a b)
between_in Alone op signed c a b = one_bit c (logical op a b)
between_in Leading op signed c a b = shifted op c.signed a b

abbrev pub between : Binary → Bool → Shape → List Tern → List Tern → List Tern
between op signed c a b = between_in (family_of op) op signed c a b
