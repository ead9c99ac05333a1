-- What operators make of expressions, by how they treat their operands.
--     unary_worth, binary_worth, choice_worth
--     divided, amount              where a division or a power has no value
use Rattle.std.specs.Prelude.{if◌then◌else◌, ℕ, Bool, true, false, ◌&&◌, ◌==◌, Ok, Err}
use Rattle.rdc_outside.specs.declared.source.Place.{Place}
use Rattle.vlog_tree.specs.declared.operator.Unary.{Unary}
use Rattle.vlog_tree.specs.declared.operator.Binary.{Binary}
use Rattle.vlog_const.specs.declared.shape.Shape.{Shape}
use Rattle.vlog_const.specs.declared.shape.Family.{Family}
use Rattle.vlog_const.specs.declared.shape.Family.TheVariants.{Contextual, Compared, Alone, Leading}
use Rattle.vlog_const.specs.declared.answer.ConstValue.{ConstValue}
use Rattle.vlog_const.specs.declared.answer.ConstFault.TheVariants.{NotConstant, ZeroDivisor}
use Rattle.vlog_const.specs.Widths.{bit, common, operand_family, family_of, shape_in, left_in, right_in, choice_shape}
use Rattle.vlog_const.specs.Words.{is_negative, arithmetic, compared, shifted, reduced, sized, logical}
use Rattle.vlog_tree.specs.declared.operator.Binary.TheVariants as binary
use Rattle.vlog_const.specs.Worths.{Or_fault, ◌>>=◌, Worth, in_context, alone, truth}

-- an operator before its operand
unfoldable pub unary_in : Family → Place → Unary → Worth → Or_fault Worth
unary_in Contextual place op a = Ok (record {
  place = place;
  shape = shape_in Contextual a.shape a.shape;
  value = λ c. a.value (left_in Contextual a.shape a.shape c) >>= (λ x. Ok (sized op c.width x));
})
unary_in _ place op a = do
  v ← alone a
  Ok (truth place (reduced op v.width v.bits))

abbrev pub unary_worth : Place → Unary → Worth → Or_fault Worth
unary_worth place op a = unary_in (operand_family op) place op a

-- `/` and `%`
unfoldable pub is_division : Binary → Bool
is_division binary.Divide = true
is_division binary.Remainder = true
is_division _ = false

-- what an operator gives, if it is no division by 0
unfoldable pub divided : Binary → Place → Shape → ℕ → ℕ → Or_fault ℕ
divided op place c x y = if is_division op && y == 0 then Err (ZeroDivisor place) else Ok (arithmetic op c x y)

unfoldable pub is_power : Binary → Bool
is_power binary.Power = true
is_power _ = false

-- an amount is read without a sign, and an exponent is not negative
unfoldable pub amount : Binary → Place → ConstValue → Or_fault ℕ
amount op place n = if is_power op && is_negative n.signed n.width n.bits then Err (NotConstant place) else Ok n.bits

-- an operator between its operands
unfoldable pub binary_in : Family → Place → Binary → Worth → Worth → Or_fault Worth
binary_in Contextual place op a b = Ok (record {
  place = place;
  shape = shape_in Contextual a.shape b.shape;
  value = λ c.
      a.value (left_in Contextual a.shape b.shape c) >>= (λ x.
      b.value (right_in Contextual a.shape b.shape c) >>= (λ y.
      divided op b.place c x y));
})
binary_in Compared place op a b = do
  x ← in_context a (left_in Compared a.shape b.shape bit)
  y ← in_context b (right_in Compared a.shape b.shape bit)
  Ok (truth place (compared op (common a.shape b.shape) x.bits y.bits))
binary_in Alone place op a b = do
  x ← in_context a (left_in Alone a.shape b.shape bit)
  y ← in_context b (right_in Alone a.shape b.shape bit)
  Ok (truth place (logical op x.bits y.bits))
binary_in Leading place op a b = do
  y ← in_context b (right_in Leading a.shape b.shape a.shape)
  n ← amount op b.place y
  Ok (record {
    place = place;
    shape = shape_in Leading a.shape b.shape;
    value = λ c. a.value (left_in Leading a.shape b.shape c) >>= (λ x. Ok (shifted op c x n));
  })

abbrev pub binary_worth : Place → Binary → Worth → Worth → Or_fault Worth
binary_worth place op a b = binary_in (family_of op) place op a b

-- test ? a : b, where the first is taken or not
unfoldable pub choice_worth : Place → Bool → Worth → Worth → Worth
choice_worth place first a b = record {
  place = place;
  shape = choice_shape a.shape b.shape;
  value = λ c. a.value c >>= (λ x. b.value c >>= (λ y. Ok (if first then x else y)));
}
