-- Which selects lie in the range of their signal, which may count down or up (IEEE 1364-2005, 5.2.1).
--     range_of d name        the range of a name; without a range it is [0:0]
--     holds r i              an index
--     spans r i j            [i:j], which goes in the direction of the range
--     reaches how r i n      [i +: n] and [i -: n]; of an index that is no constant only n is looked at
use Rattle.std.specs.Prelude.{ℕ, ◌+◌, Bool, true, not, ◌&&◌, nat_le, max, if◌then◌else◌, List, [], Option, Some, None}
use Rattle.vlog_tree.specs.declared.expr.Part.{Part}
use Rattle.vlog_tree.specs.declared.expr.Part.TheVariants.{Up}
use Rattle.vlog_const.specs.declared.whole.Whole.{Whole}
use Rattle.design_form.specs.declared.parts.Parts.{Parts}
use Rattle.design_form.specs.declared.signal.Bounds.{Bounds}
use Rattle.design_form.specs.Signals.{is_down, lowest}
use Rattle.design_form.specs.State.{seen_in}

-- the range of a name; of a name without one, and of one that is not declared, it is [0:0]
abbrev pub range_of : Parts → List ℕ → Bounds
range_of d name = (seen_in d [] name).range

abbrev pub highest : Bounds → ℕ
highest r = max r.msb r.lsb

-- an index
unfoldable pub holds : Bounds → Whole → Bool
holds r i = not i.negative && (nat_le (lowest r) i.magnitude && nat_le i.magnitude (highest r))

-- whether j stands from i on in the direction of the range
unfoldable pub in_order : Bounds → Whole → Whole → Bool
in_order r i j = if is_down r then nat_le j.magnitude i.magnitude else nat_le i.magnitude j.magnitude

-- [i:j]
unfoldable pub spans : Bounds → Whole → Whole → Bool
spans r i j = (holds r i && holds r j) && in_order r i j

-- [i +: n] has the n indices from i up, and [i -: n] those from i down
unfoldable pub begins : Part → Bounds → Whole → ℕ → Bool
begins Up r i n = nat_le (i.magnitude + n) (highest r + 1)
begins how r i n = nat_le (lowest r + n) (i.magnitude + 1)

unfoldable pub starts : Part → Bounds → Option Whole → ℕ → Bool
starts how r None n = true
starts how r (Some i) n = holds r i && begins how r i n

-- [i +: n], [i -: n]
unfoldable pub reaches : Part → Bounds → Option Whole → ℕ → Bool
reaches how r i n = nat_le 1 n && starts how r i n
