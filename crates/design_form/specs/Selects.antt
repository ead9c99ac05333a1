-- Selects of a signal's bits by its range, which may count down or up.
--     Seen                           what a name stands for: its range, its sign and its bits
--     bit_less w a b                 the bit that stands a less b places up, where there is one
--     part_width r i j, part_bit r w j t, part r w i j        [i:j]
--     starts r n                     how many starts of n bits have a bit in range
--     start_of part r n i            the index at the start number i from below
--     reached r w n i j              bit j of the select from there
--     picked part r w n s e          the select by an index e of shape s
use Rattle.std.specs.Prelude.{ℕ, zero, suc, ◌+◌, ◌-◌, Bool, nat_le, if◌then◌else◌, List, [], ◌∷◌, slice_index_or}
use Rattle.vlog_tree.specs.declared.expr.Part.{Part}
use Rattle.vlog_tree.specs.declared.expr.Part.TheVariants.{Up}
use Rattle.rdc_tern.specs.declared.value.Tern.{Tern}
use Rattle.rdc_tern.specs.declared.value.Tern.TheVariants.{Zero}
use Rattle.rdc_tern.specs.Kleene.{and_of, or_of}
use Rattle.rdc_tern.specs.Words.{eq_of}
use Rattle.vlog_const.specs.declared.shape.Shape.{Shape}
use Rattle.vlog_const.specs.declared.whole.Whole.{Whole}
use Rattle.vlog_const.specs.Selects.{span}
use Rattle.design_form.specs.declared.signal.Bounds.{Bounds}
use Rattle.design_form.specs.declared.start.Start.{Start}
use Rattle.design_form.specs.declared.start.Start.TheVariants.{From, Below}
use Rattle.design_form.specs.Signals.{is_down, lowest, width_of}
use Rattle.design_form.specs.Bits.{start_word, can_be}

-- what a name stands for; its bits are least significant first
pub record Seen : Type 0 where
  pub range : Bounds
  pub signed : Bool
  pub word : List Tern

-- the bit that stands a less b places above the least significant one; out of range it is 0
unfoldable pub bit_less : List Tern → ℕ → ℕ → Tern
bit_less w a b = if nat_le b a then slice_index_or w (a - b) Zero else Zero

-- ---- [i:j]

-- how many indices stand from i to j in the direction of the range
unfoldable pub part_width : Bounds → Whole → Whole → ℕ
part_width r i j = if is_down r then span i j else span j i

-- bit t of the part whose least significant bit has the index j
unfoldable pub part_bit : Bounds → List Tern → Whole → ℕ → Tern
part_bit r w j t =
    if is_down r then (if j.negative then bit_less w t (r.lsb + j.magnitude) else bit_less w (j.magnitude + t) r.lsb)
    else (if j.negative then bit_less w (r.lsb + t + j.magnitude) 0 else bit_less w (r.lsb + t) j.magnitude)

-- n bits of the part, from bit t on
unfoldable pub part_from : Bounds → List Tern → Whole → ℕ → ℕ → List Tern
part_from r w j t zero = []
part_from r w j t (suc n) = part_bit r w j t ∷ part_from r w j (t + 1) n

-- ---- [e], [e +: n], [e -: n]

-- how many starts of a select of n bits have a bit in range
abbrev pub starts : Bounds → ℕ → ℕ
starts r n = (width_of r + n) - 1

-- a number less another one
unfoldable pub difference : ℕ → ℕ → Start
difference a b = if nat_le b a then From (a - b) else Below ((b - a) - 1)

-- the index at the start number i from below: the lowest one of the select for `+:`, the highest one for `-:`
unfoldable pub start_of : Part → Bounds → ℕ → ℕ → Start
start_of Up r n i = difference (lowest r + i) (n - 1)
start_of _ r n i = From (lowest r + i)

-- whether an index e of shape s is the start number i; 0 where it can't be
unfoldable pub hit : Part → Bounds → ℕ → Shape → List Tern → ℕ → Tern
hit part r n s e i = if can_be s (start_of part r n i) then eq_of e (start_word s.width (start_of part r n i)) else Zero

-- bit j of the select from the start number i
unfoldable pub reached : Bounds → List Tern → ℕ → ℕ → ℕ → Tern
reached r w n i j = if is_down r then bit_less w (i + j) (n - 1) else bit_less w (width_of r + j) (i + 1)

-- over the starts from number i up: the OR of whether it is the start AND the bit from there
unfoldable pub picked_bit : List Tern → Bounds → List Tern → ℕ → ℕ → ℕ → Tern
picked_bit [] r w n i j = Zero
picked_bit (h ∷ hits) r w n i j = or_of (and_of h (reached r w n i j)) (picked_bit hits r w n (i + 1) j)

-- k of these from the start number i up
unfoldable pub hits_from : Part → Bounds → ℕ → Shape → List Tern → ℕ → ℕ → List Tern
hits_from part r n s e i zero = []
hits_from part r n s e i (suc k) = hit part r n s e i ∷ hits_from part r n s e (i + 1) k

-- m bits from bit j up
unfoldable pub picked_from : List Tern → Bounds → List Tern → ℕ → ℕ → ℕ → List Tern
picked_from hits r w n j zero = []
picked_from hits r w n j (suc m) = picked_bit hits r w n 0 j ∷ picked_from hits r w n (j + 1) m

-- the select of n bits by an index e of shape s
abbrev pub picked : Part → Seen → ℕ → Shape → List Tern → List Tern
picked part v n s e = picked_from (hits_from part v.range n s e 0 (starts v.range n)) v.range v.word n 0 n

-- the part from i to j
abbrev pub part : Seen → Whole → Whole → List Tern
part v i j = part_from v.range v.word j 0 (part_width v.range i j)
