-- Settled words as numbers.
--   AreSettled, AreBelow       words without X, and a word that tells no more than another
--   bit_of, number, ones       a bit, a word, and how many of its bits are 1
--   signed, quotient_down      a word in two's complement, and the quotient toward minus infinity
use Rattle.std.specs.Prelude.{ℕ, ◌+◌, ◌*◌, ◌/◌, ◌^◌, ℤ, pos, negsuc, ◌-ℤ◌, List, [], ◌∷◌, length}
use Rattle.std.specs.List.{All, AllZip}
use Rattle.rdc_tern.specs.declared.value.Tern.{Tern}
use Rattle.rdc_tern.specs.declared.value.Tern.TheVariants.{Zero, One, Unsettled}
use Rattle.rdc_tern.specs.Kleene.{IsBelow, IsSettled}
use Rattle.rdc_tern.specs.Shifts.{top_of}

-- no bit is X
abbrev pub AreSettled : List Tern → Type 0
AreSettled w = All IsSettled w

-- as wide, and each bit tells no more
abbrev pub AreBelow : List Tern → List Tern → Type 0
AreBelow a b = AllZip IsBelow a b

-- 1 at 1, else 0
abbrev pub bit_of : Tern → ℕ
bit_of Zero = 0
bit_of One = 1
bit_of Unsettled = 0

-- the sum of 2^i over the places i that are 1
abbrev pub number : List Tern → ℕ
number [] = 0
number (a ∷ w) = bit_of a + 2 * number w

-- how many bits are 1
abbrev pub ones : List Tern → ℕ
ones [] = 0
ones (a ∷ w) = bit_of a + ones w

-- the number in two's complement: less by 2^width where the top bit is 1
abbrev pub signed : List Tern → ℤ
signed w = pos (number w) -ℤ pos (bit_of (top_of w) * 2 ^ length w)

-- the quotient toward minus infinity
abbrev pub quotient_down : ℤ → ℕ → ℤ
quotient_down (pos n) d = pos (n / d)
quotient_down (negsuc n) d = negsuc (n / d)
