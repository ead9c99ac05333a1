-- Gates of sums and differences of words, least significant bit first.
--   carry_from, carry_if, full_adder     one bit, and the carry into the next, if there is one
--   follows, sum                         the adder, bit by bit, from one carry on
--   add, sub, neg                        a + b, a - b, -a
use Rattle.std.specs.Prelude.{ℕ, Bool, true, false, List, [], ◌∷◌, length, replicate}
use Rattle.net_view.specs.declared.gate.Gate.TheVariants.{Const, And, Or, Xor}
use Rattle.net_words.specs.Builds.{Build, ◌>>=◌, return, put}
use Rattle.net_words.specs.Words.{inverted}

-- (a and b) or (c and (a xor b)), where the difference is there
unfoldable pub carry_from : ℕ → ℕ → ℕ → ℕ → Build ℕ
carry_from c a b differs = do
  both ← put (And a b)
  passed ← put (And c differs)
  put (Or both passed)

-- the carry of the last bit isn't built
unfoldable pub carry_if : Bool → ℕ → ℕ → ℕ → ℕ → Build ℕ
carry_if true c a b differs = carry_from c a b differs
carry_if false c a b differs = return c

-- a bit of a sum, and the carry into the next, if there is one
unfoldable pub full_adder : Bool → ℕ → ℕ → ℕ → Build (ℕ × ℕ)
full_adder more c a b = do
  differs ← put (Xor a b)
  bit ← put (Xor differs c)
  carry ← carry_if more c a b differs
  return (bit, carry)

-- whether another bit of both follows
abbrev pub follows : List ℕ → List ℕ → Bool
follows [] y = false
follows (a ∷ x) [] = false
follows (a ∷ x) (b ∷ y) = true

-- the bits of a sum from one carry on, cut to the narrower word
unfoldable pub sum : ℕ → List ℕ → List ℕ → Build (List ℕ)
sum c [] y = return []
sum c (a ∷ x) [] = return []
sum c (a ∷ x) (b ∷ y) = do
  made ← full_adder (follows x y) c a b
  rest ← sum made.1 x y
  return (made.0 ∷ rest)

-- a + b
unfoldable pub add : List ℕ → List ℕ → Build (List ℕ)
add a b = do
  carry ← put (Const false)
  sum carry a b

-- a - b, which is a + ~b with a first carry of 1
unfoldable pub sub : List ℕ → List ℕ → Build (List ℕ)
sub a b = do
  other ← inverted b
  carry ← put (Const true)
  sum carry a other

-- -a, which is 0 - a
unfoldable pub neg : List ℕ → Build (List ℕ)
neg a = do
  zero ← put (Const false)
  sub (replicate (length a) zero) a
