-- Gates of words, least significant bit first.
--   inverted, each, select           bit by bit
--   reduced, any, all, parity        over all bits of a word
--   bit_of, each_of                  what an operation is worth
use Rattle.std.specs.Prelude.{ℕ, Bool, true, false, List, [], ◌∷◌}
use Rattle.rdc_tern.specs.declared.value.Tern.{Tern}
use Rattle.rdc_tern.specs.Kleene.{not_of, and_of, or_of, xor_of}
use Rattle.net_view.specs.declared.gate.Gate.TheVariants.{Const, Not}
use Rattle.net_words.specs.declared.bits.Bitwise.{Bitwise}
use Rattle.net_words.specs.declared.bits.Bitwise.TheVariants as op
use Rattle.net_words.specs.Builds.{Build, ◌>>=◌, return, put}
use Rattle.net_words.specs.Bits.{bit, mux}

-- each bit's inverse
unfoldable pub inverted : List ℕ → Build (List ℕ)
inverted [] = return []
inverted (a ∷ w) = do
  n ← put (Not a)
  rest ← inverted w
  return (n ∷ rest)

-- the operation of each two bits, cut to the narrower word
unfoldable pub each : Bitwise → List ℕ → List ℕ → Build (List ℕ)
each op [] y = return []
each op (a ∷ x) [] = return []
each op (a ∷ x) (b ∷ y) = do
  n ← bit op a b
  rest ← each op x y
  return (n ∷ rest)

-- bit by bit the first word where s is 1, the second where it is 0
unfoldable pub select : ℕ → List ℕ → List ℕ → Build (List ℕ)
select s [] y = return []
select s (a ∷ x) [] = return []
select s (a ∷ x) (b ∷ y) = do
  n ← mux s a b
  rest ← select s x y
  return (n ∷ rest)

-- the operation of what is found so far and of each further bit
unfoldable pub reduced_from : Bitwise → ℕ → List ℕ → Build ℕ
reduced_from op so_far [] = return so_far
reduced_from op so_far (a ∷ w) = do
  n ← bit op so_far a
  reduced_from op n w

-- the operation of all bits, from the first on; of none a constant
unfoldable pub reduced : Bitwise → Bool → List ℕ → Build ℕ
reduced op none [] = put (Const none)
reduced op none (a ∷ w) = reduced_from op a w

-- the OR of the bits, of none 0
unfoldable pub any : List ℕ → Build ℕ
any w = reduced op.Or false w

-- the AND of the bits, of none 1
unfoldable pub all : List ℕ → Build ℕ
all w = reduced op.And true w

-- the XOR of the bits, of none 0
unfoldable pub parity : List ℕ → Build ℕ
parity w = reduced op.Xor false w

-- what an operation of two bits gives
abbrev pub bit_of : Bitwise → Tern → Tern → Tern
bit_of op.And a b = and_of a b
bit_of op.Or a b = or_of a b
bit_of op.Xor a b = xor_of a b
bit_of op.Xnor a b = not_of (xor_of a b)

-- the same of each two bits, cut to the narrower word
abbrev pub each_of : Bitwise → List Tern → List Tern → List Tern
each_of op [] y = []
each_of op (a ∷ x) [] = []
each_of op (a ∷ x) (b ∷ y) = bit_of op a b ∷ each_of op x y
