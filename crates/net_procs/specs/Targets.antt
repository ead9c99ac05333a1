-- Where an assignment writes, as strokes in order: each bit, its node, and the node of what has to hold for it, if anything.
--   onto h b v                   one bit of a word, where it has a place
--   from_start h r ns n i j w    a word onto the select from one start
--   from_starts hits r ns n i w  the same onto each start from number i up; onto one that the index can't be nothing
--   strokes d nodes target w     a word onto a target
-- A constant index is one fixed place: nothing has to hold, and no gate is drawn. Another one is drawn once, and compared with
-- each start that has a bit in range, in ascending order. What is out of range is not written.
use Rattle.std.specs.Prelude.{ℕ, ◌+◌, List, [], ◌∷◌, ◌++◌, take, drop, Option, Some, None}
use Rattle.vlog_tree.specs.declared.expr.Expr.{Expr, para-Expr}
use Rattle.vlog_tree.specs.declared.expr.Expr.TheOpen.{Expr-F}
use Rattle.vlog_tree.specs.declared.expr.Part.{Part}
use Rattle.vlog_tree.specs.declared.expr.Part.TheVariants.{Fixed, Up, Down}
use Rattle.vlog_const.specs.declared.whole.Whole.{Whole}
use Rattle.design_form.specs.declared.signal.Bounds.{Bounds}
use Rattle.design_form.specs.declared.parts.Parts.{Parts}
use Rattle.design_form.specs.Selects.{starts, part_width}
use Rattle.design_form.specs.Values.{number_alone, count_alone}
use Rattle.design_sizes.specs.Sizes.{shape_of}
use Rattle.elab_bits.specs.Selects.{all_bits, range_of, constant}
use Rattle.net_words.specs.Builds.{Build, ◌>>=◌, return}
use Rattle.net_exprs.specs.Names.{wired_in}
use Rattle.net_exprs.specs.Selects.{hits_from}
use Rattle.net_exprs.specs.Lowered.{built_of}
use Rattle.proc_values.specs.Targets.{reached, fixed_start, low_end}
use Rattle.net_procs.specs.declared.stroke.Stroke.{Stroke}

-- ---- selects

-- one bit of a word, where it has a place
unfoldable pub onto : Option ℕ → Option ℕ → ℕ → List Stroke
onto h None v = []
onto h (Some b) v = record { hit = h; bit = b; value = v } ∷ []

-- a word onto the select from one start, from its bit j on
unfoldable pub from_start : Option ℕ → Bounds → List ℕ → ℕ → ℕ → ℕ → List ℕ → List Stroke
from_start h r ns n i j [] = []
from_start h r ns n i j (v ∷ w) = onto h (reached r ns n i j) v ++ from_start h r ns n i (j + 1) w

-- the same where the index can be the start
unfoldable pub from_hit : Option ℕ → Bounds → List ℕ → ℕ → ℕ → List ℕ → List Stroke
from_hit None r ns n i w = []
from_hit (Some h) r ns n i w = from_start (Some h) r ns n i 0 w

-- the same onto each start from number i up
unfoldable pub from_starts : List (Option ℕ) → Bounds → List ℕ → ℕ → ℕ → List ℕ → List Stroke
from_starts [] r ns n i w = []
from_starts (h ∷ hits) r ns n i w = from_hit h r ns n i w ++ from_starts hits r ns n (i + 1) w

-- a word onto the select at a constant index, where nothing has to hold
unfoldable pub at_start : Option ℕ → Bounds → List ℕ → ℕ → List ℕ → List Stroke
at_start None r ns n w = []
at_start (Some i) r ns n w = from_start None r ns n i 0 (take n w)

-- ---- targets

-- a word onto all bits of a name
unfoldable pub onto_all : List ℕ → List ℕ → List Stroke
onto_all [] w = []
onto_all (b ∷ ns) [] = []
onto_all (b ∷ ns) (v ∷ w) = record { hit = None; bit = b; value = v } ∷ onto_all ns w

-- name [ e ], name [ e +: n ], name [ e -: n ], where the index isn't constant: the index, then whether it is each start
unfoldable pub onto_starts : Parts → List ℕ → Part → List ℕ → Expr → ℕ → List ℕ → Build (List Stroke)
onto_starts d nodes how name e n w = do
  index ← built_of (wired_in d nodes) e
  hits ← hits_from how (range_of d.signals name) n (shape_of d e) index 0 (starts (range_of d.signals name) n)
  return (from_starts hits (range_of d.signals name) (all_bits d.signals name) n 0 (take n w))

-- the same by the index where it is constant
unfoldable pub onto_select : Parts → List ℕ → Part → List ℕ → Option Whole → Expr → ℕ → List ℕ → Build (List Stroke)
onto_select d nodes how name (Some i) e n w = return (at_start (fixed_start how (range_of d.signals name) n i) (range_of d.signals name) (all_bits d.signals name) n w)
onto_select d nodes how name None e n w = onto_starts d nodes how name e n w

-- name [ i : j ]
unfoldable pub onto_part : Bounds → List ℕ → Whole → Whole → List ℕ → List Stroke
onto_part r ns i j w = at_start (fixed_start Up r (part_width r i j) (low_end r i j)) r ns (part_width r i j) w

unfoldable pub select_strokes : Parts → List ℕ → Part → List ℕ → Expr → Expr → List ℕ → Build (List Stroke)
select_strokes d nodes Fixed name i j w = return (onto_part (range_of d.signals name) (all_bits d.signals name) (number_alone i) (number_alone j) w)
select_strokes d nodes how name i j w = onto_select d nodes how name (constant i) i (count_alone j) w

abbrev pub Written : Type 0
Written = List ℕ → Build (List Stroke)

-- how wide some members are
unfoldable pub widths : Parts → List (Expr × Written) → ℕ
widths d [] = 0
widths d (m ∷ ms) = (shape_of d m.0).width + widths d ms

-- a word onto members: the last one takes the lowest bits, and is drawn first
unfoldable pub onto_members : Parts → List (Expr × Written) → Written
onto_members d [] w = return []
onto_members d (m ∷ ms) w = do
  low ← onto_members d ms w
  top ← m.1 (drop (widths d ms) w)
  return (low ++ top)

-- by the parts of a target, each beside how it is written
unfoldable pub strokes_by_parts : Parts → List ℕ → Expr-F (Expr × Written) → Written
strokes_by_parts d nodes (Expr-F.Name place name) w = return (onto_all (all_bits d.signals name) w)
strokes_by_parts d nodes (Expr-F.Index place name i) w = onto_select d nodes Down name (constant i.0) i.0 1 w
strokes_by_parts d nodes (Expr-F.Select how place name i j) w = select_strokes d nodes how name i.0 j.0 w
strokes_by_parts d nodes (Expr-F.Concat place members) w = onto_members d members w
strokes_by_parts d nodes _ w = return []

unfoldable pub strokes : Parts → List ℕ → Expr → Written
strokes d nodes = para-Expr Written (strokes_by_parts d nodes)
