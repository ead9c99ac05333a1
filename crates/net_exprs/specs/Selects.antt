-- Selects of a name's nodes by its range.
--   bit_at w a b             the node that stands a less b places up, if there is one
--   node_or_0                that node, or a constant 0
--   part v i j               [i:j]
--   hit, hits_from           whether an index is a start; of a start that it can't be nothing is built
--   reached r w n i j        the node of bit j of the select from the start number i, if it is in range
--   term, terms              the AND of both for each start
--   picked part v n s e      the select of n bits by an index e of shape s
use Rattle.std.specs.Prelude.{ℕ, zero, suc, ◌+◌, ◌-◌, Bool, true, false, nat_le, if◌then◌else◌, List, [], ◌∷◌, ◌++◌, Option, Some, None, slice_get}
use Rattle.vlog_tree.specs.declared.expr.Part.{Part}
use Rattle.vlog_const.specs.declared.shape.Shape.{Shape}
use Rattle.rdc_tern.specs.declared.value.Tern.{Tern}
use Rattle.vlog_const.specs.declared.whole.Whole.{Whole}
use Rattle.design_form.specs.declared.signal.Bounds.{Bounds}
use Rattle.design_form.specs.Signals.{is_down, width_of}
use Rattle.design_form.specs.Bits.{start_word, can_be}
use Rattle.design_form.specs.Selects.{part_width, starts, start_of}
use Rattle.net_view.specs.declared.gate.Gate.TheVariants.{Const, And}
use Rattle.net_words.specs.Builds.{Build, ◌>>=◌, return, put}
use Rattle.net_words.specs.Words.{any}
use Rattle.net_words.specs.Comparisons.{eq}
use Rattle.net_exprs.specs.Wired.{Wired}
use Rattle.net_exprs.specs.Constants.{constants}

-- the node that stands a less b places above the least significant one, if there is one
abbrev pub bit_at : List ℕ → ℕ → ℕ → Option ℕ
bit_at w a b = if nat_le b a then slice_get w (a - b) else None

-- out of range stands a constant 0
unfoldable pub node_or_0 : Option ℕ → Build ℕ
node_or_0 (Some n) = return n
node_or_0 None = put (Const false)

-- ---- [i:j]

-- bit t of the part whose least significant bit has the index j
abbrev pub part_bit : Bounds → List ℕ → Whole → ℕ → Option ℕ
part_bit r w j t =
    if is_down r then (if j.negative then bit_at w t (r.lsb + j.magnitude) else bit_at w (j.magnitude + t) r.lsb)
    else (if j.negative then bit_at w (r.lsb + t + j.magnitude) 0 else bit_at w (r.lsb + t) j.magnitude)

-- n bits of the part, from bit t on
unfoldable pub part_from : Bounds → List ℕ → Whole → ℕ → ℕ → Build (List ℕ)
part_from r w j t zero = return []
part_from r w j t (suc n) = do
  b ← node_or_0 (part_bit r w j t)
  rest ← part_from r w j (t + 1) n
  return (b ∷ rest)

-- the part from i to j
abbrev pub part : Wired → Whole → Whole → Build (List ℕ)
part v i j = part_from v.range v.nodes j 0 (part_width v.range i j)

-- ---- [e], [e +: n], [e -: n]

-- whether an index is a number
unfoldable pub equals : List ℕ → List Tern → Build ℕ
equals e w = do
  number ← constants w
  eq e number

-- whether an index is a number that it can be; nothing where it can't be
unfoldable pub hit_if : Bool → List ℕ → List Tern → Build (Option ℕ)
hit_if true e w = do
  n ← equals e w
  return (Some n)
hit_if false e w = return None

-- whether an index of shape s is the start number i
abbrev pub hit : Part → Bounds → ℕ → Shape → List ℕ → ℕ → Build (Option ℕ)
hit part r n s e i = hit_if (can_be s (start_of part r n i)) e (start_word s.width (start_of part r n i))

-- k of these from the start number i up
unfoldable pub hits_from : Part → Bounds → ℕ → Shape → List ℕ → ℕ → ℕ → Build (List (Option ℕ))
hits_from part r n s e i zero = return []
hits_from part r n s e i (suc k) = do
  h ← hit part r n s e i
  rest ← hits_from part r n s e (i + 1) k
  return (h ∷ rest)

-- bit j of the select from the start number i, if it is in range
abbrev pub reached : Bounds → List ℕ → ℕ → ℕ → ℕ → Option ℕ
reached r w n i j = if is_down r then bit_at w (i + j) (n - 1) else bit_at w (width_of r + j) (i + 1)

-- whether it is the start AND the bit from there; no gate where it can't be, or where there is no bit
unfoldable pub term : Option ℕ → Option ℕ → Build (List ℕ)
term (Some h) (Some b) = do
  n ← put (And h b)
  return (n ∷ [])
term (Some h) None = return []
term None b = return []

-- a term behind those that are there
unfoldable pub with_term : List ℕ → Option ℕ → Option ℕ → Build (List ℕ)
with_term found h b = do
  first ← term h b
  return (found ++ first)

-- the terms of bit j over the starts from number i up
unfoldable pub terms : List (Option ℕ) → Bounds → List ℕ → ℕ → ℕ → ℕ → Build (List ℕ)
terms [] r w n i j = return []
terms (h ∷ hits) r w n i j = do
  first ← term h (reached r w n i j)
  rest ← terms hits r w n (i + 1) j
  return (first ++ rest)

-- the OR of the terms, from the lowest start up; of none 0
unfoldable pub picked_bit : List (Option ℕ) → Bounds → List ℕ → ℕ → ℕ → Build ℕ
picked_bit hits r w n j = do
  found ← terms hits r w n 0 j
  any found

-- m bits from bit j up
unfoldable pub picked_from : List (Option ℕ) → Bounds → List ℕ → ℕ → ℕ → ℕ → Build (List ℕ)
picked_from hits r w n j zero = return []
picked_from hits r w n j (suc m) = do
  b ← picked_bit hits r w n j
  rest ← picked_from hits r w n (j + 1) m
  return (b ∷ rest)

-- the select of n bits by an index e of shape s
unfoldable pub picked_of : Part → Bounds → List ℕ → ℕ → Shape → List ℕ → Build (List ℕ)
picked_of part r w n s e = do
  hits ← hits_from part r n s e 0 (starts r n)
  picked_from hits r w n 0 n

abbrev pub picked : Part → Wired → ℕ → Shape → List ℕ → Build (List ℕ)
picked part v n s e = picked_of part v.range v.nodes n s e
