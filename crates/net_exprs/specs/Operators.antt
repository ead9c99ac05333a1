-- The gates of each operator, over words that stand in one context (IEEE 1364-2005, 5.1).
--   not_after b                  the inverse of what is built
--   one_bit c b                  one bit in a context
--   before op c a                an operator before its operand
--   less signed a b              a < b
--   between op signed c a b      an operator between its operands; both are signed, where they are compared
use Rattle.std.specs.Prelude.{ℕ, Bool, true, false, List, [], ◌∷◌}
use Rattle.vlog_tree.specs.declared.operator.Unary.{Unary}
use Rattle.vlog_tree.specs.declared.operator.Unary.TheVariants as unary
use Rattle.vlog_tree.specs.declared.operator.Binary.{Binary}
use Rattle.vlog_tree.specs.declared.operator.Binary.TheVariants as binary
use Rattle.vlog_const.specs.declared.shape.Shape.{Shape}
use Rattle.net_view.specs.declared.gate.Gate.TheVariants.{Const, Not}
use Rattle.net_words.specs.declared.bits.Bitwise.{Bitwise}
use Rattle.net_words.specs.declared.bits.Bitwise.TheVariants as op
use Rattle.net_words.specs.Builds.{Build, ◌>>=◌, return, put}
use Rattle.net_words.specs.Bits.{bit as gate}
use Rattle.net_words.specs.Words.{inverted, each, any, all, parity}
use Rattle.net_words.specs.Sums.{add, sub, neg}
use Rattle.net_words.specs.Products.{mul}
use Rattle.net_words.specs.Comparisons.{eq, lt, lt_signed}
use Rattle.net_words.specs.Shifts.{shl, shr, sar}
use Rattle.net_exprs.specs.Extensions.{extended}

-- the inverse of what is built
unfoldable pub not_after : Build ℕ → Build ℕ
not_after b = b >>= (λ n. put (Not n))

-- one bit in a context
unfoldable pub one_bit : Shape → Build ℕ → Build (List ℕ)
one_bit c b = b >>= (λ n. extended c (n ∷ []))

-- `! & ~& | ~| ^ ~^` over all bits
unfoldable pub reduced : Unary → List ℕ → Build ℕ
reduced unary.Plus a = put (Const false)
reduced unary.Minus a = put (Const false)
reduced unary.Invert a = put (Const false)
reduced unary.Not a = not_after (any a)
reduced unary.ReduceAnd a = all a
reduced unary.ReduceNand a = not_after (all a)
reduced unary.ReduceOr a = any a
reduced unary.ReduceNor a = not_after (any a)
reduced unary.ReduceXor a = parity a
reduced unary.ReduceXnor a = not_after (parity a)

-- an operator before its operand
unfoldable pub before : Unary → Shape → List ℕ → Build (List ℕ)
before unary.Plus c a = return a
before unary.Minus c a = neg a
before unary.Invert c a = inverted a
before op c a = one_bit c (reduced op a)

-- a < b
unfoldable pub less : Bool → List ℕ → List ℕ → Build ℕ
less true a b = lt_signed a b
less false a b = lt a b

-- comparisons
unfoldable pub compared : Binary → Bool → List ℕ → List ℕ → Build ℕ
compared binary.Less signed a b = less signed a b
compared binary.AtMost signed a b = not_after (less signed b a)
compared binary.Greater signed a b = less signed b a
compared binary.AtLeast signed a b = not_after (less signed a b)
compared binary.Equal signed a b = eq a b
compared binary.CaseEqual signed a b = eq a b
compared binary.NotEqual signed a b = not_after (eq a b)
compared binary.CaseNotEqual signed a b = not_after (eq a b)
compared _ signed a b = put (Const false)

-- `&&` and `||`: of the OR of all bits of each operand
unfoldable pub logical : Bitwise → List ℕ → List ℕ → Build ℕ
logical o a b = do
  x ← any a
  y ← any b
  gate o x y

-- down, filled with the top bit where there is one
unfoldable pub filled : List ℕ → List ℕ → Build (List ℕ)
filled [] n = return []
filled (a ∷ w) n = sar (a ∷ w) n

-- `>>>` fills with the top bit where the value is signed
unfoldable pub right : Bool → List ℕ → List ℕ → Build (List ℕ)
right true a n = filled a n
right false a n = shr a n

-- an operator between its operands; `/`, `%` and `**` have no gates
unfoldable pub between : Binary → Bool → Shape → List ℕ → List ℕ → Build (List ℕ)
between binary.Power signed c a b = return []
between binary.Multiply signed c a b = mul a b
between binary.Divide signed c a b = return []
between binary.Remainder signed c a b = return []
between binary.Add signed c a b = add a b
between binary.Subtract signed c a b = sub a b
between binary.ShiftLeft signed c a b = shl a b
between binary.ShiftRight signed c a b = shr a b
between binary.ArithmeticShiftLeft signed c a b = shl a b
between binary.ArithmeticShiftRight signed c a b = right c.signed a b
between binary.Less signed c a b = one_bit c (compared binary.Less signed a b)
between binary.AtMost signed c a b = one_bit c (compared binary.AtMost signed a b)
between binary.Greater signed c a b = one_bit c (compared binary.Greater signed a b)
between binary.AtLeast signed c a b = one_bit c (compared binary.AtLeast signed a b)
between binary.Equal signed c a b = one_bit c (compared binary.Equal signed a b)
between binary.NotEqual signed c a b = one_bit c (compared binary.NotEqual signed a b)
between binary.CaseEqual signed c a b = one_bit c (compared binary.CaseEqual signed a b)
between binary.CaseNotEqual signed c a b = one_bit c (compared binary.CaseNotEqual signed a b)
between binary.And signed c a b = each op.And a b
between binary.Xor signed c a b = each op.Xor a b
between binary.Xnor signed c a b = each op.Xnor a b
between binary.Or signed c a b = each op.Or a b
between binary.LogicalAnd signed c a b = one_bit c (logical op.And a b)
between binary.LogicalOr signed c a b = one_bit c (logical op.Or a b)
