-- The value of digits grows with each.
use Rattle.std.proofs.Common.{ℕ, ◌+◌, ◌*◌, ◌-◌, ◌<◌, ◌≤◌, Bool, true, false, cond, List, [], ◌∷◌, length, get_or, arith}
use Rattle.std.specs.Prelude.{◌==◌}
use Rattle.vlog_lex.specs.Numbers.{with_digit, value_from}

either : (b : Bool) (v d : ℕ) → v ≤ cond b v (10 * v + d)
either true v d = omega arith
either false v d = omega arith

with_digit_grows : (v d : ℕ) → v ≤ with_digit v d
unfolding with_digit
with_digit_grows v d = either (d == 95) v (d - 48)

-- further digits make no value smaller
pub value_grows : (v : ℕ) (ds : List ℕ) → v ≤ value_from v ds
unfolding value_from
value_grows v [] = omega arith
value_grows v (d ∷ ds) = omega (arith, with_digit_grows v d, value_grows (with_digit v d) ds)

-- a value that is past the limit with the next digit is past it with all digits
pub value_past : (v most : ℕ) (ds : List ℕ) → 1 ≤ length ds → most < with_digit v (get_or ds 0 0) → most < value_from v ds
unfolding value_from
value_past v most [] some past = absurd (omega arith)
value_past v most (d ∷ ds) some past = let grows = value_grows (with_digit v d) ds in omega arith
