-- Signals, and the printed names of their bits.
--     is_down r, lowest r, width_of r      a range: whether it counts down, its lowest index, and how many bits it has
--     index_at r o                         the index of the bit that stands o places above the least significant one
--     bounds_of s, is_single s             the range of a signal, and whether it is one bit without an index
--     bit_name s o, bit_names s            the printed name of a bit, and those of all bits, least significant first
use Rattle.std.specs.Prelude.{ℕ, zero, suc, ◌+◌, ◌-◌, min, max, Bool, ◌&&◌, ◌==◌, nat_le, if◌then◌else◌, List, [], ◌∷◌, ◌++◌, Option, Some, None, codes}
use Rattle.std.specs.Fmt.{decimal}
use Rattle.design_form.specs.declared.signal.Bounds.{Bounds}
use Rattle.design_form.specs.declared.signal.Signal.{Signal}

-- [msb:lsb] counts down to its least significant bit; else it counts up
abbrev pub is_down : Bounds → Bool
is_down r = nat_le r.lsb r.msb

abbrev pub lowest : Bounds → ℕ
lowest r = min r.msb r.lsb

abbrev pub width_of : Bounds → ℕ
width_of r = (max r.msb r.lsb - min r.msb r.lsb) + 1

-- the index of the bit that stands o places above the least significant one
unfoldable pub index_at : Bounds → ℕ → ℕ
index_at r o = if is_down r then r.lsb + o else r.lsb - o

-- a signal without a range has the one of [0:0]
abbrev pub bounds_in : Option Bounds → Bounds
bounds_in None = record { msb = 0; lsb = 0 }
bounds_in (Some r) = r

abbrev pub bounds_of : Signal → Bounds
bounds_of s = bounds_in s.range

-- of the range [0:0] no index is printed
abbrev pub is_single : Signal → Bool
is_single s = (bounds_of s).msb == 0 && (bounds_of s).lsb == 0

-- name, or name[index]
unfoldable pub bit_name : Signal → ℕ → List ℕ
bit_name s o = if is_single s then s.name else s.name ++ (codes "[" ++ (decimal (index_at (bounds_of s) o) ++ codes "]"))

-- the names of n bits, from the one that stands o places above the least significant one
unfoldable pub names_from : Signal → ℕ → ℕ → List (List ℕ)
names_from s o zero = []
names_from s o (suc n) = bit_name s o ∷ names_from s (o + 1) n

-- the names of all bits, least significant first
abbrev pub bit_names : Signal → List (List ℕ)
bit_names s = names_from s 0 (width_of (bounds_of s))
