-- The tokens of a text, and why a text has none.
--     Stands bs p              the piece stands in front of the text
--     tokens_of p at           the tokens that a piece is
--     AreTokens at bs ts       the text, which begins at such a byte, is pieces in a row, and these are their tokens
--     IsStuckAt at bs place f  the pieces reach a byte at which nothing stands, for the cause f
--     fault_of f place         the fault for a cause
--     IsFault bs places fault  the fault's condition stands at its place
--     AreWithin count ts       each token's bytes stand in a text of so many
--     OneList                  a text has at most one list of tokens
use Rattle.std.specs.Prelude.{◌≡◌, ◌≢◌, ℕ, ◌+◌, ◌<◌, ◌≤◌, Bool, ◌&&◌, ◌==◌, ◌⊎◌, MatchBool, List, [], ◌∷◌, ◌++◌, drop, slice_index, slice_get, Some, All}
use Rattle.rdc_outside.specs.declared.source.Place.{Place}
use Rattle.vlog_lex.specs.declared.fault.LexFault.{LexFault}
use Rattle.vlog_lex.specs.declared.fault.LexFault.TheVariants.{Memory, BadByte, BadNumber, OpenComment, OpenString}
use Rattle.vlog_lex.specs.declared.tokens.Kind.{Kind}
use Rattle.vlog_lex.specs.declared.tokens.Kind.TheVariants.{Mark}
use Rattle.vlog_lex.specs.declared.tokens.Token.{Token}
use Rattle.vlog_lex.specs.declared.piece.Piece.{Piece}
use Rattle.vlog_lex.specs.declared.piece.Piece.TheVariants.{Gap, One, OpenMarks}
use Rattle.vlog_lex.specs.declared.piece.Broken.{Broken}
use Rattle.vlog_lex.specs.declared.piece.Broken.TheVariants.{AtByte, AtNumber, AtComment, AtString}
use Rattle.vlog_lex.specs.declared.piece.Part.TheVariants.{BeforeName}
use Rattle.vlog_lex.specs.Pieces.{IsSimple, Breaks, len_of, offset_of}
use Rattle.vlog_lex.specs.Attributes.{IsAttributeFrom}

-- the text begins with `(*`
unfoldable pub opens : List ℕ → Bool
opens bs = slice_index bs 0 == 40 && slice_index bs 1 == 42

-- an attribute stands in front
pub record IsAttribute (bs : List ℕ) (p : Piece) : Type 0 where
  pub count : ℕ
  pub whole : IsAttributeFrom BeforeName (drop 2 bs) count
  pub piece : p ≡ Gap (2 + count)

-- no attribute stands in front, so that its `(*` is two marks
pub record AreOpenMarks (bs : List ℕ) (p : Piece) : Type 0 where
  pub none : (n : ℕ) → IsAttributeFrom BeforeName (drop 2 bs) n → ⊥
  pub piece : p ≡ OpenMarks

-- the piece stands in front of the text
abbrev pub Stands : List ℕ → Piece → Type 0
Stands bs p = MatchBool (opens bs) (IsAttribute bs p ⊎ AreOpenMarks bs p) (IsSimple bs p)

-- no piece does, for the cause f
abbrev pub Fails : List ℕ → Broken → Type 0
Fails bs f = MatchBool (opens bs) ⊥ (Breaks bs f)

-- a token of so many bytes
abbrev pub token_at : Kind → ℕ → ℕ → Token
token_at kind at n = record { kind = kind; from = at; to = at + n }

-- the tokens that a piece is
abbrev pub tokens_of : Piece → ℕ → List Token
tokens_of (Gap n) at = []
tokens_of (One kind n) at = token_at kind at n ∷ []
tokens_of OpenMarks at = token_at Mark at 1 ∷ token_at Mark (at + 1) 1 ∷ []

-- the text, which begins at the byte `at`, is pieces in a row, and these are their tokens
pub data AreTokens : ℕ → List ℕ → List Token → Type 0 where
  none : {at : ℕ} {bs : List ℕ} {ts : List Token} → bs ≡ [] → ts ≡ [] → AreTokens at bs ts
  more : {at : ℕ} {bs : List ℕ} {ts : List Token} (p : Piece) (us : List Token) → Stands bs p → AreTokens (at + len_of p) (drop (len_of p) bs) us → ts ≡ tokens_of p at ++ us → AreTokens at bs ts

-- after pieces in a row nothing stands at the byte `place`, for the cause f
pub data IsStuckAt : ℕ → List ℕ → ℕ → Broken → Type 0 where
  here : {at : ℕ} {bs : List ℕ} {place : ℕ} {f : Broken} → bs ≢ [] → Fails bs f → place ≡ at → IsStuckAt at bs place f
  later : {at : ℕ} {bs : List ℕ} {place : ℕ} {f : Broken} (p : Piece) → Stands bs p → IsStuckAt (at + len_of p) (drop (len_of p) bs) place f → IsStuckAt at bs place f

-- the fault that a cause gives at a place
abbrev pub fault_of : Broken → Place → LexFault
fault_of (AtByte n) place = BadByte place
fault_of AtNumber place = BadNumber place
fault_of AtComment place = OpenComment place
fault_of AtString place = OpenString place

-- nothing stands at a byte that the pieces reach, and the fault names the place of that byte, or of the one in it that can't stand
pub record Refuses (bs : List ℕ) (places : List Place) (fault : LexFault) : Type 0 where
  pub at : ℕ
  pub cause : Broken
  pub place : Place
  pub stuck : IsStuckAt 0 bs at cause
  pub place_is : slice_get places (at + offset_of cause) ≡ Some place
  pub fault_is : fault ≡ fault_of cause place

-- the fault's condition stands at its place; want of memory has none
abbrev pub IsFault : List ℕ → List Place → LexFault → Type 0
IsFault bs places fault = (fault ≡ Memory) ⊎ Refuses bs places fault

-- each token has bytes, and all of them stand in a text of so many
abbrev pub AreWithin : ℕ → List Token → Type 0
AreWithin count ts = All (λ t. (t.from < t.to) × (t.to ≤ count)) ts

-- the text's one list of tokens
abbrev pub OneList : Type 0
OneList = (bs : List ℕ) (ts us : List Token) → AreTokens 0 bs ts → AreTokens 0 bs us → ts ≡ us
