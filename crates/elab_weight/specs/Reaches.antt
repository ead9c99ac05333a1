-- The indices that a select by constants covers, and the bits of a signal that have them.
--     Reach                       indices from `low` up to, and without, `high`
--     reach_of_one i, reach how r i j        those that a select by constants covers
--     between a b ns              from one position up to another
--     reached r x ns              the bits of a signal whose indices are covered, from the numbers of all its bits
use Rattle.std.specs.Prelude.{ℕ, ◌+◌, ◌-◌, if◌then◌else◌, List, take, drop}
use Rattle.vlog_tree.specs.declared.expr.Part.{Part}
use Rattle.vlog_tree.specs.declared.expr.Part.TheVariants.{Fixed, Up, Down}
use Rattle.vlog_const.specs.declared.whole.Whole.{Whole}
use Rattle.vlog_const.specs.Selects.{counted}
use Rattle.design_form.specs.declared.signal.Bounds.{Bounds}
use Rattle.design_form.specs.Signals.{is_down}

-- ---- indices

pub record Reach : Type 0 where
  pub low : ℕ
  pub high : ℕ

-- a number and the one above it, where they are indices; below 0 there are none
unfoldable pub at_least : Whole → ℕ
at_least i = if i.negative then 0 else i.magnitude

unfoldable pub above : Whole → ℕ
above i = if i.negative then 0 else i.magnitude + 1

-- a number and n more
unfoldable pub further : Whole → ℕ → ℕ
further i n = if i.negative then n - i.magnitude else i.magnitude + n

-- name [ i ]
abbrev pub reach_of_one : Whole → Reach
reach_of_one i = record { low = at_least i; high = above i }

-- name [ i : j ], name [ i +: j ], name [ i -: j ]
unfoldable pub reach : Part → Bounds → Whole → Whole → Reach
reach Fixed r i j = if is_down r then record { low = at_least j; high = above i } else record { low = at_least i; high = above j }
reach Up r i j = record { low = at_least i; high = further i (counted j) }
reach Down r i j = record { low = above i - counted j; high = above i }

-- ---- bits

-- from one position up to another
unfoldable pub between : {A : Type 0} → ℕ → ℕ → List A → List A
between a b ns = drop a (take b ns)

-- the least significant bit stands first, and has the index `lsb`
unfoldable pub reached : Bounds → Reach → List ℕ → List ℕ
reached r x ns =
    if is_down r then between (x.low - r.lsb) (x.high - r.lsb) ns
    else between ((r.lsb + 1) - x.high) ((r.lsb + 1) - x.low) ns
