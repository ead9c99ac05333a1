-- The bits of a design, numbered from 0 in the byte order of their printed names.
--     printed ss                  the names of all bits, signal by signal
--     entered so_far ns           names put in one by one, each at its place in byte order
--     bits_of ss                  the names of all bits, in byte order: the number of a bit is where its name stands
--     index_of ns name            where a name stands, if it does
--     number_in ns name           the same of a name that does
--     numbers_of ss s             the numbers of a signal's bits, least significant first
--     signal_of ss name           the first signal with that name
use Rattle.std.specs.Prelude.{ℕ, ◌+◌, if◌then◌else◌, List, [], ◌∷◌, map, Option, Some, None}
use Rattle.std.specs.List.{flat_map}
use Rattle.std.specs.Option.{unwrap_or}
use Rattle.std.specs.Str.{bytes_eq}
use Rattle.std.specs.Ordering.{nat_cmp}
use Rattle.std.specs.Cmp.Lexicographic.{slice_cmp}
use Rattle.std.specs.BTreeSet.{insert_key}
use Rattle.design_form.specs.declared.signal.Signal.{Signal}
use Rattle.design_form.specs.Signals.{bit_names}

-- the names of all bits, signal by signal
abbrev pub printed : List Signal → List (List ℕ)
printed ss = flat_map bit_names ss

-- names put in one by one, each at its place in byte order, unless it is there
unfoldable pub entered : List (List ℕ) → List (List ℕ) → List (List ℕ)
entered so_far [] = so_far
entered so_far (n ∷ ns) = entered (insert_key (slice_cmp nat_cmp) so_far n) ns

-- the names of all bits in byte order
abbrev pub bits_of : List Signal → List (List ℕ)
bits_of ss = entered [] (printed ss)

-- where a name stands among names that are counted from k
unfoldable pub index_from : ℕ → List (List ℕ) → List ℕ → Option ℕ
index_from k [] name = None
index_from k (n ∷ ns) name = if bytes_eq name n then Some k else index_from (k + 1) ns name

abbrev pub index_of : List (List ℕ) → List ℕ → Option ℕ
index_of ns name = index_from 0 ns name

-- where a name stands that is one of them
abbrev pub number_in : List (List ℕ) → List ℕ → ℕ
number_in ns name = unwrap_or (index_of ns name) 0

-- the numbers of a signal's bits, least significant first
abbrev pub numbers_of : List Signal → Signal → List ℕ
numbers_of ss s = map (number_in (bits_of ss)) (bit_names s)

-- the first signal with that name
unfoldable pub signal_of : List Signal → List ℕ → Option Signal
signal_of [] name = None
signal_of (s ∷ ss) name = if bytes_eq name s.name then Some s else signal_of ss name
