-- Gates over single nodes.
--   bit op a b       and, or, exclusive or, its inverse
--   mux s a b        the selection
use Rattle.std.specs.Prelude.{ℕ}
use Rattle.net_view.specs.declared.gate.Gate.TheVariants.{Not, And, Or, Xor}
use Rattle.net_words.specs.declared.bits.Bitwise.{Bitwise}
use Rattle.net_words.specs.declared.bits.Bitwise.TheVariants as op
use Rattle.net_words.specs.Builds.{Build, ◌>>=◌, put}

-- not (a xor b)
unfoldable pub xnor : ℕ → ℕ → Build ℕ
xnor a b = do
  differs ← put (Xor a b)
  put (Not differs)

-- an operation of two bits
unfoldable pub bit : Bitwise → ℕ → ℕ → Build ℕ
bit op.And a b = put (And a b)
bit op.Or a b = put (Or a b)
bit op.Xor a b = put (Xor a b)
bit op.Xnor a b = xnor a b

-- (s and a) or (not s and b)
unfoldable pub mux : ℕ → ℕ → ℕ → Build ℕ
mux s a b = do
  first ← put (And s a)
  other ← put (Not s)
  second ← put (And other b)
  put (Or first second)
