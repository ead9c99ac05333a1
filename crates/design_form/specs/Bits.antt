-- Words, least significant bit first: numbers as words, and a word in a context.
--     bits w n                       the low w bits of a number
--     fill_of signed w               what stands above a word: its top bit where it is signed, else 0
--     extended c w                   a word in a context: cut, or filled
--     each f a b                     a gate, bit by bit
--     copies n w                     n copies, side by side
--     fits n w                       a number of no more than w bits
--     start_word, can_be             the number at which a select starts as an index, and whether an index can be it
--     start_bit, start_rest          its lowest bit, and what stands above it
use Rattle.std.specs.Prelude.{ℕ, zero, suc, ◌-◌, ◌/◌, ◌%◌, ◌^◌, Bool, ◌&&◌, ◌==◌, nat_lt, if◌then◌else◌, List, [], ◌∷◌, ◌++◌, length, take, replicate, slice_index_or}
use Rattle.rdc_tern.specs.declared.value.Tern.{Tern}
use Rattle.rdc_tern.specs.declared.value.Tern.TheVariants.{Zero, One}
use Rattle.rdc_tern.specs.Kleene.{not_of}
use Rattle.rdc_tern.specs.Words.{inverted}
use Rattle.vlog_const.specs.declared.shape.Shape.{Shape}
use Rattle.design_form.specs.declared.start.Start.{Start}
use Rattle.design_form.specs.declared.start.Start.TheVariants.{From, Below}

-- the lowest bit of a number
abbrev pub low_bit : ℕ → Tern
low_bit n = if n % 2 == 1 then One else Zero

-- the low w bits of a number
unfoldable pub bits : ℕ → ℕ → List Tern
bits zero n = []
bits (suc w) n = low_bit n ∷ bits w (n / 2)

-- what stands above a word
unfoldable pub fill_of : Bool → List Tern → Tern
fill_of signed w = if signed then slice_index_or w (length w - 1) Zero else Zero

-- a word in a context: cut, or with its top bit in each new place where that is signed, else 0
unfoldable pub extended : Shape → List Tern → List Tern
extended c w = take c.width w ++ replicate (c.width - length w) (fill_of c.signed w)

-- a gate, bit by bit
unfoldable pub each : (Tern → Tern → Tern) → List Tern → List Tern → List Tern
each f [] y = []
each f (a ∷ x) [] = []
each f (a ∷ x) (b ∷ y) = f a b ∷ each f x y

-- n copies, side by side
unfoldable pub copies : ℕ → List Tern → List Tern
copies zero w = []
copies (suc n) w = w ++ copies n w

-- a number of no more than w bits
abbrev pub fits : ℕ → ℕ → Bool
fits n w = nat_lt n (2 ^ w)

-- a start as a word of w bits: of one below 0 each bit of its distance from -1 is inverted
unfoldable pub start_word : ℕ → Start → List Tern
start_word w (From n) = bits w n
start_word w (Below n) = inverted (bits w n)

-- the lowest bit of a start as a word, and the start whose word stands above it
unfoldable pub start_bit : Start → Tern
start_bit (From n) = low_bit n
start_bit (Below n) = not_of (low_bit n)

unfoldable pub start_rest : Start → Start
start_rest (From n) = From (n / 2)
start_rest (Below n) = Below (n / 2)

-- whether an index of that shape can be the start
unfoldable pub can_be : Shape → Start → Bool
can_be s (From n) = fits n (if s.signed then s.width - 1 else s.width)
can_be s (Below n) = s.signed && fits n (s.width - 1)
