-- Gates of products of words, least significant bit first.
--   row, rows    the rows that are added, each moved up by its bit's number
--   mul          a * b
use Rattle.std.specs.Prelude.{ℕ, ◌+◌, false, List, [], ◌∷◌, length, replicate}
use Rattle.net_view.specs.declared.gate.Gate.TheVariants.{Const}
use Rattle.net_words.specs.declared.bits.Bitwise.TheVariants as op
use Rattle.net_words.specs.Builds.{Build, ◌>>=◌, return, put}
use Rattle.net_words.specs.Words.{each}
use Rattle.net_words.specs.Shifts.{raised}
use Rattle.net_words.specs.Sums.{sum}

-- what is added so far, and a moved up by i, each bit AND one bit
unfoldable pub row : ℕ → ℕ → ℕ → List ℕ → List ℕ → Build (List ℕ)
row low i bit so_far a = do
  part ← each op.And (raised low i a) (replicate (length a) bit)
  sum low so_far part

-- the same for each bit of b, from bit i on
unfoldable pub rows : ℕ → List ℕ → List ℕ → ℕ → List ℕ → Build (List ℕ)
rows low so_far a i [] = return so_far
rows low so_far a i (bit ∷ b) = do
  next ← row low i bit so_far a
  rows low next a (i + 1) b

-- a * b
unfoldable pub mul : List ℕ → List ℕ → Build (List ℕ)
mul a b = do
  low ← put (Const false)
  rows low (replicate (length a) low) a 0 b
