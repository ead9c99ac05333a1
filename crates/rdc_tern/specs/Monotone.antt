-- Inputs that tell less give an output that tells no more, for every operation, in every argument.
use Rattle.std.specs.Prelude.{◌≡◌}
use Rattle.rdc_tern.specs.declared.value.Tern.{Tern}
use Rattle.rdc_tern.specs.Kleene.{not_of, and_of, or_of, xor_of, mux_of, join_of, IsBelow}

-- the order is one: each value is below itself, and below what is below it is below that
pub record IsOrder : Type 0 where
  pub self : (a : Tern) → IsBelow a a
  pub through : (a b c : Tern) → IsBelow a b → IsBelow b c → IsBelow a c
  pub both : (a b : Tern) → IsBelow a b → IsBelow b a → a ≡ b

-- an operation of two inputs keeps the order
abbrev pub KeepsOrder : (Tern → Tern → Tern) → Type 0
KeepsOrder f = (a a' b b' : Tern) → IsBelow a a' → IsBelow b b' → IsBelow (f a b) (f a' b')

-- inputs that are raised raise the output, or leave it
pub record Monotone : Type 0 where
  pub order : IsOrder
  pub inverter : (a a' : Tern) → IsBelow a a' → IsBelow (not_of a) (not_of a')
  pub conjunction : KeepsOrder and_of
  pub disjunction : KeepsOrder or_of
  pub difference : KeepsOrder xor_of
  pub agreement : KeepsOrder join_of
  pub selection : (s s' a a' b b' : Tern) → IsBelow s s' → IsBelow a a' → IsBelow b b' → IsBelow (mux_of s a b) (mux_of s' a' b')

-- both sides are below their join, which is below whatever both are below
pub record JoinIsLeast : Type 0 where
  pub left : (a b : Tern) → IsBelow a (join_of a b)
  pub right : (a b : Tern) → IsBelow b (join_of a b)
  pub least : (a b c : Tern) → IsBelow a c → IsBelow b c → IsBelow (join_of a b) c
