-- Gates of comparisons of words, least significant bit first.
--   eq                            a == b
--   lt_bit, lt_from, lt           a < b of unsigned words
--   top_inverted, lt_signed       a < b of signed words
use Rattle.std.specs.Prelude.{ℕ, false, List, [], ◌∷◌}
use Rattle.net_view.specs.declared.gate.Gate.TheVariants.{Const, Not, And, Or}
use Rattle.net_words.specs.declared.bits.Bitwise.TheVariants as op
use Rattle.net_words.specs.Builds.{Build, ◌>>=◌, return, put}
use Rattle.net_words.specs.Bits.{xnor}
use Rattle.net_words.specs.Words.{each, all}

-- the AND over the bits of not (a xor b)
unfoldable pub eq : List ℕ → List ℕ → Build ℕ
eq a b = do
  same ← each op.Xnor a b
  all same

-- less by this bit, or equal in it and less by those below it
unfoldable pub lt_bit : ℕ → ℕ → ℕ → Build ℕ
lt_bit so_far a b = do
  other ← put (Not a)
  less ← put (And other b)
  same ← xnor a b
  kept ← put (And same so_far)
  put (Or less kept)

-- bit by bit upward, from what the bits below gave
unfoldable pub lt_from : ℕ → List ℕ → List ℕ → Build ℕ
lt_from so_far [] y = return so_far
lt_from so_far (a ∷ x) [] = return so_far
lt_from so_far (a ∷ x) (b ∷ y) = do
  n ← lt_bit so_far a b
  lt_from n x y

-- a < b
unfoldable pub lt : List ℕ → List ℕ → Build ℕ
lt a b = do
  zero ← put (Const false)
  lt_from zero a b

-- the word with its top bit inverted
unfoldable pub top_inverted : List ℕ → Build (List ℕ)
top_inverted [] = return []
top_inverted (a ∷ []) = do
  n ← put (Not a)
  return (n ∷ [])
top_inverted (a ∷ b ∷ w) = do
  rest ← top_inverted (b ∷ w)
  return (a ∷ rest)

-- a < b of signed words
unfoldable pub lt_signed : List ℕ → List ℕ → Build ℕ
lt_signed a b = do
  left ← top_inverted a
  right ← top_inverted b
  lt left right
