-- Gates of shifts of words, least significant bit first, by amounts that may be X.
--   raised, lowered, moved    a word moved by places: no gates
--   shift_from                a shift by the bits of an amount, from one bit on
--   shl, shr, sar             the shifts
use Rattle.std.specs.Prelude.{ℕ, ◌+◌, ◌-◌, ◌^◌, false, List, [], ◌∷◌, ◌++◌, length, take, replicate, slice_index_or}
use Rattle.net_view.specs.declared.gate.Gate.TheVariants.{Const}
use Rattle.net_words.specs.declared.shifts.Toward.{Toward}
use Rattle.net_words.specs.declared.shifts.Toward.TheVariants.{Top, Bottom}
use Rattle.net_words.specs.Builds.{Build, ◌>>=◌, return, put}
use Rattle.net_words.specs.Words.{select}

-- the word moved up by n places: below come n fills, and what passes the top is lost
abbrev pub raised : ℕ → ℕ → List ℕ → List ℕ
raised fill n w = take (length w) (replicate n fill ++ w)

-- the word moved down by n places: each place has what stood n above it, or the fill
abbrev pub lowered : ℕ → ℕ → List ℕ → List ℕ
lowered fill n [] = []
lowered fill n (a ∷ w) = slice_index_or (a ∷ w) n fill ∷ lowered fill n w

abbrev pub moved : Toward → ℕ → ℕ → List ℕ → List ℕ
moved Top fill n w = raised fill n w
moved Bottom fill n w = lowered fill n w

-- for each bit of the amount, from bit i on: the word moved by 2^i where it is 1, the word so far where it is 0
unfoldable pub shift_from : Toward → ℕ → ℕ → List ℕ → List ℕ → Build (List ℕ)
shift_from toward fill i w [] = return w
shift_from toward fill i w (b ∷ amount) = do
  next ← select b (moved toward fill (2 ^ i) w) w
  shift_from toward fill (i + 1) next amount

-- the last bit, which is the sign of a signed word
abbrev pub top_of : List ℕ → ℕ
top_of w = slice_index_or w (length w - 1) 0

-- up, filled with 0
unfoldable pub shl : List ℕ → List ℕ → Build (List ℕ)
shl w amount = do
  low ← put (Const false)
  shift_from Top low 0 w amount

-- down, filled with 0
unfoldable pub shr : List ℕ → List ℕ → Build (List ℕ)
shr w amount = do
  low ← put (Const false)
  shift_from Bottom low 0 w amount

-- down, filled with the top bit that the word had before the shift
unfoldable pub sar : List ℕ → List ℕ → Build (List ℕ)
sar w amount = shift_from Bottom (top_of w) 0 w amount
