-- Laws that a ternary optimiser may use, and laws of 0 and 1 alone that it may not: a and not a is no 0, a xor a is no 0.
--   IsCommutative, IsIdempotent    what an operation of two inputs may be
--   Algebra                        the laws that hold, and three that fail at X
--   SelectsEquals                  a selection between equals
use Rattle.std.specs.Prelude.{◌≡◌}
use Rattle.rdc_tern.specs.declared.value.Tern.{Tern}
use Rattle.rdc_tern.specs.declared.value.Tern.TheVariants.{Zero, One, Unsettled}
use Rattle.rdc_tern.specs.Kleene.{not_of, and_of, or_of, xor_of, mux_of, join_of, IsSettled}

-- the inputs may change places and be grouped at will
pub record IsCommutative (f : Tern → Tern → Tern) : Type 0 where
  pub swap : (a b : Tern) → f a b ≡ f b a
  pub group : (a b c : Tern) → f (f a b) c ≡ f a (f b c)

-- an input with itself is itself
abbrev pub IsIdempotent : (Tern → Tern → Tern) → Type 0
IsIdempotent f = (a : Tern) → f a a ≡ a

-- what may be changed about a gate whatever its inputs are, and what may not
pub record Algebra : Type 0 where
  pub conjunction : IsCommutative and_of
  pub disjunction : IsCommutative or_of
  pub difference : IsCommutative xor_of
  pub agreement : IsCommutative join_of
  pub idempotent_and : IsIdempotent and_of
  pub idempotent_or : IsIdempotent or_of
  pub idempotent_join : IsIdempotent join_of
  pub twice : (a : Tern) → not_of (not_of a) ≡ a
  pub negated_and : (a b : Tern) → not_of (and_of a b) ≡ or_of (not_of a) (not_of b)
  pub negated_or : (a b : Tern) → not_of (or_of a b) ≡ and_of (not_of a) (not_of b)
  pub one_and : (a : Tern) → and_of One a ≡ a
  pub zero_and : (a : Tern) → and_of Zero a ≡ Zero
  pub one_or : (a : Tern) → or_of One a ≡ One
  pub zero_or : (a : Tern) → or_of Zero a ≡ a
  pub zero_xor : (a : Tern) → xor_of Zero a ≡ a
  pub one_xor : (a : Tern) → xor_of One a ≡ not_of a
  -- what holds of 0 and 1 and fails at X
  pub no_contradiction : and_of Unsettled (not_of Unsettled) ≡ Unsettled
  pub no_excluded_middle : or_of Unsettled (not_of Unsettled) ≡ Unsettled
  pub no_cancelling : xor_of Unsettled Unsettled ≡ Unsettled

-- a selection between equals is theirs where it is settled, and between ones it is X where it isn't
pub record SelectsEquals : Type 0 where
  pub settled : (s a : Tern) → IsSettled s → mux_of s a a ≡ a
  pub between_ones : mux_of Unsettled One One ≡ Unsettled
