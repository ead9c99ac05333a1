-- Where an assignment writes, as strokes in order: each bit, its value, and what has to hold for it.
--     place_less ns a b            the bit that stands a less b places up, where there is one
--     reached r ns n i j           bit j of a select of n bits from the start number i, counted from below
--     from_start h r ns n i j w    a word onto the select from one start
--     from_starts hits r ns n i w  the same onto each start from number i up, if it is hit
--     fixed_start how r n e        the start number of a constant index
--     strokes d now target w       a word onto a target
-- A constant index is one fixed place: its strokes are hit. Another one is compared with each start that has a bit in range,
-- in ascending order. What is out of range is not written.
use Rattle.std.specs.Prelude.{ℕ, ◌+◌, ◌-◌, nat_le, if◌then◌else◌, List, [], ◌∷◌, ◌++◌, take, drop, slice_get, Option, Some, None}
use Rattle.vlog_tree.specs.declared.expr.Expr.{Expr, para-Expr}
use Rattle.vlog_tree.specs.declared.expr.Expr.TheOpen.{Expr-F}
use Rattle.vlog_tree.specs.declared.expr.Part.{Part}
use Rattle.vlog_tree.specs.declared.expr.Part.TheVariants.{Fixed, Up, Down}
use Rattle.rdc_tern.specs.declared.value.Tern.{Tern}
use Rattle.rdc_tern.specs.declared.value.Tern.TheVariants.{One}
use Rattle.vlog_const.specs.declared.whole.Whole.{Whole}
use Rattle.design_form.specs.declared.signal.Bounds.{Bounds}
use Rattle.design_form.specs.declared.parts.Parts.{Parts}
use Rattle.design_form.specs.Signals.{is_down, lowest, width_of}
use Rattle.design_form.specs.Selects.{starts, hits_from, part_width}
use Rattle.design_form.specs.Values.{number_alone, count_alone, word_of}
use Rattle.design_form.specs.State.{seen_in}
use Rattle.design_sizes.specs.Sizes.{shape_of}
use Rattle.elab_bits.specs.Selects.{all_bits, range_of, constant}
use Rattle.proc_values.specs.declared.stroke.Stroke.{Stroke}

-- ---- selects

-- the bit that stands a less b places above the least significant one
unfoldable pub place_less : List ℕ → ℕ → ℕ → Option ℕ
place_less ns a b = if nat_le b a then slice_get ns (a - b) else None

-- bit j of the select from the start number i
unfoldable pub reached : Bounds → List ℕ → ℕ → ℕ → ℕ → Option ℕ
reached r ns n i j = if is_down r then place_less ns (i + j) (n - 1) else place_less ns (width_of r + j) (i + 1)

-- one bit of a word, where it has a place
unfoldable pub onto : Tern → Option ℕ → Tern → List Stroke
onto h None v = []
onto h (Some b) v = record { hit = h; bit = b; value = v } ∷ []

-- a word onto the select from one start, from its bit j on
unfoldable pub from_start : Tern → Bounds → List ℕ → ℕ → ℕ → ℕ → List Tern → List Stroke
from_start h r ns n i j [] = []
from_start h r ns n i j (v ∷ w) = onto h (reached r ns n i j) v ++ from_start h r ns n i (j + 1) w

-- the same onto each start from number i up, if it is hit
unfoldable pub from_starts : List Tern → Bounds → List ℕ → ℕ → ℕ → List Tern → List Stroke
from_starts [] r ns n i w = []
from_starts (h ∷ hits) r ns n i w = from_start h r ns n i 0 w ++ from_starts hits r ns n (i + 1) w

-- ---- constant indices

unfoldable pub less : ℕ → ℕ → Option ℕ
less a b = if nat_le b a then Some (a - b) else None

-- the start number of a constant index: the lowest one of the select for `+:`, the highest one for `-:`
unfoldable pub fixed_start : Part → Bounds → ℕ → Whole → Option ℕ
fixed_start Up r n e = if e.negative then less (n - 1) (lowest r + e.magnitude) else less (e.magnitude + (n - 1)) (lowest r)
fixed_start _ r n e = if e.negative then None else less e.magnitude (lowest r)

unfoldable pub at_start : Option ℕ → Bounds → List ℕ → ℕ → List Tern → List Stroke
at_start None r ns n w = []
at_start (Some i) r ns n w = from_start One r ns n i 0 (take n w)

-- ---- targets

-- a word onto all bits of a name
unfoldable pub onto_all : List ℕ → List Tern → List Stroke
onto_all [] w = []
onto_all (b ∷ ns) [] = []
onto_all (b ∷ ns) (v ∷ w) = record { hit = One; bit = b; value = v } ∷ onto_all ns w

-- name [ e ], name [ e +: n ], name [ e -: n ], by the index where it is constant
unfoldable pub onto_select : Parts → List Tern → Part → List ℕ → Option Whole → Expr → ℕ → List Tern → List Stroke
onto_select d now how name (Some i) e n w = at_start (fixed_start how (range_of d.signals name) n i) (range_of d.signals name) (all_bits d.signals name) n w
onto_select d now how name None e n w =
    from_starts (hits_from how (range_of d.signals name) n (shape_of d e) (word_of (seen_in d now) e) 0 (starts (range_of d.signals name) n))
    (range_of d.signals name) (all_bits d.signals name) n 0 (take n w)

-- the lowest index of [i : j]
unfoldable pub low_end : Bounds → Whole → Whole → Whole
low_end r i j = if is_down r then j else i

-- name [ i : j ]
unfoldable pub onto_part : Bounds → List ℕ → Whole → Whole → List Tern → List Stroke
onto_part r ns i j w = at_start (fixed_start Up r (part_width r i j) (low_end r i j)) r ns (part_width r i j) w

unfoldable pub select_strokes : Parts → List Tern → Part → List ℕ → Expr → Expr → List Tern → List Stroke
select_strokes d now Fixed name i j w = onto_part (range_of d.signals name) (all_bits d.signals name) (number_alone i) (number_alone j) w
select_strokes d now how name i j w = onto_select d now how name (constant i) i (count_alone j) w

abbrev pub Written : Type 0
Written = List Tern → List Stroke

-- how wide some members are
unfoldable pub widths : Parts → List (Expr × Written) → ℕ
widths d [] = 0
widths d (m ∷ ms) = (shape_of d m.0).width + widths d ms

-- a word onto members: the last one takes the lowest bits
unfoldable pub onto_members : Parts → List (Expr × Written) → Written
onto_members d [] w = []
onto_members d (m ∷ ms) w = onto_members d ms w ++ m.1 (drop (widths d ms) w)

-- by the parts of a target, each beside how it is written
unfoldable pub strokes_by_parts : Parts → List Tern → Expr-F (Expr × Written) → Written
strokes_by_parts d now (Expr-F.Name place name) w = onto_all (all_bits d.signals name) w
strokes_by_parts d now (Expr-F.Index place name i) w = onto_select d now Down name (constant i.0) i.0 1 w
strokes_by_parts d now (Expr-F.Select how place name i j) w = select_strokes d now how name i.0 j.0 w
strokes_by_parts d now (Expr-F.Concat place members) w = onto_members d members w
strokes_by_parts d now _ w = []

unfoldable pub strokes : Parts → List Tern → Expr → Written
strokes d now = para-Expr Written (strokes_by_parts d now)
