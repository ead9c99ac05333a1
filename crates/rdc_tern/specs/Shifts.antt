-- Words, least significant bit first, moved by places. A word keeps its width.
--   raised, lowered           a word moved up or down by places
--   select_of, shift_of       a choice between two words, and a shift by the bits of an amount
--   top_of                    the sign
--   shl_of, shr_of, sar_of    the shifts
use Rattle.std.specs.Prelude.{ℕ, ◌+◌, ◌-◌, ◌^◌, List, [], ◌∷◌, ◌++◌, length, take, replicate, slice_index_or}
use Rattle.rdc_tern.specs.declared.value.Tern.{Tern}
use Rattle.rdc_tern.specs.declared.value.Tern.TheVariants.{Zero, Unsettled}
use Rattle.rdc_tern.specs.Kleene.{mux_of}

-- the word moved up by n places: below come n fills, and what passes the top is lost
abbrev pub raised : Tern → ℕ → List Tern → List Tern
raised fill n w = take (length w) (replicate n fill ++ w)

-- the word moved down by n places: each place has what stood n above it, or the fill
abbrev pub lowered : Tern → ℕ → List Tern → List Tern
lowered fill n [] = []
lowered fill n (a ∷ w) = slice_index_or (a ∷ w) n fill ∷ lowered fill n w

-- bit by bit the first word where s is 1, the second where it is 0
abbrev pub select_of : Tern → List Tern → List Tern → List Tern
select_of s [] y = []
select_of s (a ∷ x) [] = []
select_of s (a ∷ x) (b ∷ y) = mux_of s a b ∷ select_of s x y

-- for each bit of the amount, from bit i on: the word moved by 2^i where it is 1, the word so far where it is 0
abbrev pub shift_of : (ℕ → List Tern → List Tern) → ℕ → List Tern → List Tern → List Tern
shift_of moved i w [] = w
shift_of moved i w (b ∷ amount) = shift_of moved (i + 1) (select_of b (moved (2 ^ i) w) w) amount

-- the last bit, which is the sign of a signed word
abbrev pub top_of : List Tern → Tern
top_of w = slice_index_or w (length w - 1) Unsettled

-- up, filled with 0
abbrev pub shl_of : List Tern → List Tern → List Tern
shl_of w amount = shift_of (raised Zero) 0 w amount

-- down, filled with 0
abbrev pub shr_of : List Tern → List Tern → List Tern
shr_of w amount = shift_of (lowered Zero) 0 w amount

-- down, filled with the top bit that the word had before the shift
abbrev pub sar_of : List Tern → List Tern → List Tern
sar_of w amount = shift_of (lowered (top_of w)) 0 w amount
