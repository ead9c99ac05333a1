-- Which bits of a signal a name and its selects stand for, least significant bit first.
--     all_bits ss name, range_of ss name       all bits of a signal, and its range; a name that is no signal has no bits
--     constant e                               an index as a number, where it is constant
--     first_of i, behind i n                   the indices from i up, n of them: the first, and the one behind the last
--     starts how r i j, ends how r i j         the same of [i : j], [i +: j] and [i -: j]
--     between r ns first end                   the bits with these indices; an index out of the range has none
--     indexed ss name i                        [i]
--     selected ss how name i j                 [i : j], [i +: j], [i -: j]
-- A select by an index that isn't constant is of all bits of the signal.
use Rattle.std.specs.Prelude.{ℕ, ◌+◌, ◌-◌, ◌^◌, min, if◌then◌else◌, List, [], take, drop, Option, Some, None, Ok, Err}
use Rattle.std.specs.Option.{option_map}
use Rattle.vlog_tree.specs.declared.expr.Expr.{Expr}
use Rattle.vlog_tree.specs.declared.expr.Part.{Part}
use Rattle.vlog_tree.specs.declared.expr.Part.TheVariants.{Fixed, Up, Down}
use Rattle.vlog_const.specs.declared.answer.ConstValue.{ConstValue}
use Rattle.vlog_const.specs.declared.whole.Whole.{Whole}
use Rattle.vlog_const.specs.Names.{no_values}
use Rattle.vlog_const.specs.Worths as worths
use Rattle.vlog_const.specs.Selects.{whole, counted}
use Rattle.vlog_const.specs.Constants.{value_of}
use Rattle.design_form.specs.declared.signal.Bounds.{Bounds}
use Rattle.design_form.specs.declared.signal.Signal.{Signal}
use Rattle.design_form.specs.Signals.{bounds_of, is_down}
use Rattle.design_form.specs.Numbers.{numbers_of, signal_of}

-- ---- signals

unfoldable pub listed : Option (List ℕ) → List ℕ
listed None = []
listed (Some ns) = ns

-- all bits of a signal
unfoldable pub all_bits : List Signal → List ℕ → List ℕ
all_bits ss name = listed (option_map (numbers_of ss) (signal_of ss name))

unfoldable pub ranged : Option Signal → Bounds
ranged None = record { msb = 0; lsb = 0 }
ranged (Some s) = bounds_of s

unfoldable pub range_of : List Signal → List ℕ → Bounds
range_of ss name = ranged (signal_of ss name)

-- ---- indices

unfoldable pub number_if : worths.Or_fault ConstValue → Option Whole
number_if (Ok v) = Some (whole v)
number_if (Err fault) = None

-- an index as a number, where it is constant
unfoldable pub constant : Expr → Option Whole
constant e = number_if (value_of no_values e)

-- the first index from i up; none is below 0
unfoldable pub first_of : Whole → ℕ
first_of i = if i.negative then 0 else i.magnitude

-- the index behind n of them, as far as 128 bits go
unfoldable pub behind : Whole → ℕ → ℕ
behind i n = if i.negative then n - i.magnitude else min (i.magnitude + n) (2 ^ 128 - 1)

-- the first index of a select
unfoldable pub starts : Part → Bounds → Whole → Whole → ℕ
starts Fixed r i j = if is_down r then first_of j else first_of i
starts Up r i j = first_of i
starts Down r i j = behind i 1 - counted j

-- the index behind its last one
unfoldable pub ends : Part → Bounds → Whole → Whole → ℕ
ends Fixed r i j = if is_down r then behind i 1 else behind j 1
ends Up r i j = behind i (counted j)
ends Down r i j = behind i 1

-- ---- bits

-- those from place a up to that before place b
unfoldable pub stretch : List ℕ → ℕ → ℕ → List ℕ
stretch ns a b = take (b - a) (drop a ns)

-- the bits with the indices from `first` up to that before `end`
unfoldable pub between : Bounds → List ℕ → ℕ → ℕ → List ℕ
between r ns first end =
    if is_down r then stretch ns (first - r.lsb) (end - r.lsb)
    else stretch ns ((r.lsb + 1) - end) ((r.lsb + 1) - first)

-- the bit at an index, if that is constant
unfoldable pub bit_at : Bounds → List ℕ → Option Whole → List ℕ
bit_at r ns None = ns
bit_at r ns (Some i) = between r ns (first_of i) (behind i 1)

-- name [ i ]
unfoldable pub indexed : List Signal → List ℕ → Expr → List ℕ
indexed ss name i = bit_at (range_of ss name) (all_bits ss name) (constant i)

-- the bits of a select, if it is constant
unfoldable pub part_at : Part → Bounds → List ℕ → Option Whole → Option Whole → List ℕ
part_at how r ns (Some i) (Some j) = between r ns (starts how r i j) (ends how r i j)
part_at how r ns i j = ns

-- name [ i : j ], name [ i +: j ], name [ i -: j ]
unfoldable pub selected : List Signal → Part → List ℕ → Expr → Expr → List ℕ
selected ss how name i j = part_at how (range_of ss name) (all_bits ss name) (constant i) (constant j)
