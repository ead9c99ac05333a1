-- Where a select of a variable index starts, as the code keeps it: a number, or how far it stands below -1. It is the
-- difference of two numbers.
--     above below n, under below n
use Rattle.std.specs.Prelude.{ℕ, zero, suc, Bool, true, false}

unfoldable pub above : Bool → ℕ → ℕ
above false n = n
above true n = zero

unfoldable pub under : Bool → ℕ → ℕ
under false n = zero
under true n = suc n
