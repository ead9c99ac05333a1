-- Attributes: `(* name [= number or string] , .. *)`, with blanks and comments anywhere between (IEEE 1364-2005, 3.8).
use Rattle.std.specs.Prelude.{◌≡◌, ℕ, ◌+◌, Bool, true, false, ◌&&◌, ◌==◌, if◌then◌else◌, IsTrue, List, drop, slice_index, Option, Some, None}
use Rattle.vlog_lex.specs.declared.tokens.Kind.TheVariants.{Identifier, Number, Str, Mark}
use Rattle.vlog_lex.specs.declared.piece.Piece.{Piece}
use Rattle.vlog_lex.specs.declared.piece.Piece.TheVariants.{Gap, One}
use Rattle.vlog_lex.specs.declared.piece.Part.{Part}
use Rattle.vlog_lex.specs.declared.piece.Part.TheVariants.{BeforeName, AfterName, BeforeValue, AfterValue}
use Rattle.vlog_lex.specs.Pieces.{IsSimple, len_of}

-- where in the attribute one is behind a token with such a first byte: a name, but no system name, `=`, a value, `,`
unfoldable pub part_after : Part → Piece → ℕ → Option Part
part_after part (Gap n) b = Some part
part_after BeforeName (One Identifier n) b = if b == 36 then None else Some AfterName
part_after AfterName (One Mark n) b = if b == 61 && n == 1 then Some BeforeValue else (if b == 44 && n == 1 then Some BeforeName else None)
part_after BeforeValue (One Number n) b = Some AfterValue
part_after BeforeValue (One Str n) b = Some AfterValue
part_after AfterValue (One Mark n) b = if b == 44 && n == 1 then Some BeforeName else None
part_after part p b = None

-- the attribute may end here
unfoldable pub may_end : Part → Bool
may_end BeforeName = false
may_end AfterName = true
may_end BeforeValue = false
may_end AfterValue = true

-- a blank, a comment or a token of the attribute stands in front, and leads from one part to the next
pub record GoesOn (part : Part) (bs : List ℕ) (next : Part) (count : ℕ) : Type 0 where
  pub piece : Piece
  pub stands : IsSimple bs piece
  pub leads : part_after part piece (slice_index bs 0) ≡ Some next
  pub size : count ≡ len_of piece

-- the attribute ends in front, with `*)`
unfoldable pub ends_at : Part → List ℕ → Bool
ends_at part bs = may_end part && slice_index bs 0 == 42 && slice_index bs 1 == 41

-- from this part on, the first n bytes complete an attribute
pub data IsAttributeFrom : Part → List ℕ → ℕ → Type 0 where
  ends : {part : Part} {bs : List ℕ} {n : ℕ} → IsTrue (ends_at part bs) → n ≡ 2 → IsAttributeFrom part bs n
  goes : {part : Part} {bs : List ℕ} {n : ℕ} (next : Part) (count m : ℕ) → GoesOn part bs next count → IsAttributeFrom next (drop count bs) m → n ≡ count + m → IsAttributeFrom part bs n
