-- What may stand at a place of a text, and why nothing does; `Attributes` adds what begins with `(*`.
--     lead_of b                what a first byte begins
--     len_of p, offset_of f    how many bytes a piece takes, and how many stand before a byte that can't stand
--     IsOne, IsOneOfAscii      the longest front of a kind, as a token
--     slash_at bs              what begins with a slash
--     IsSimple bs p            p stands in front of the text
--     Breaks bs f              nothing does, for the cause f
use Rattle.std.specs.Prelude.{◌≡◌, ℕ, ◌+◌, ◌<◌, ◌||◌, ◌==◌, if◌then◌else◌, ◌⊎◌, List, take, drop, slice_index, Some, None, Result, Ok, Err}
use Rattle.std.specs.List.{prefix_len}
use Rattle.vlog_lex.specs.declared.tokens.Kind.{Kind}
use Rattle.vlog_lex.specs.declared.tokens.Kind.TheVariants.{Identifier, Number, Str, Mark}
use Rattle.vlog_lex.specs.declared.piece.Piece.{Piece}
use Rattle.vlog_lex.specs.declared.piece.Piece.TheVariants.{Gap, One, OpenMarks}
use Rattle.vlog_lex.specs.declared.piece.Broken.{Broken}
use Rattle.vlog_lex.specs.declared.piece.Broken.TheVariants.{AtByte, AtNumber, AtComment, AtString}
use Rattle.vlog_lex.specs.declared.piece.Lead.{Lead}
use Rattle.vlog_lex.specs.declared.piece.Lead.TheVariants.{Blank, Slash, Letter, Dollar, Backslash, Digit, Quote, Sign, Other}
use Rattle.vlog_lex.specs.Bytes.{is_blank, is_letter, is_digit, is_ascii, is_in_line}
use Rattle.vlog_lex.specs.Longest.{IsLongest}
use Rattle.vlog_lex.specs.Marks.{is_single, IsMark}
use Rattle.vlog_lex.specs.Words.{IsName, IsSystemName, IsEscapedName, IsQuoted}
use Rattle.vlog_lex.specs.Numbers.{number_at}
use Rattle.vlog_lex.specs.Comments.{close_of}

-- what a first byte begins
unfoldable pub lead_of : ℕ → Lead
lead_of b =
    if is_letter b then Letter
    else (if is_blank b then Blank
    else (if is_digit b || b == 39 then Digit
    else (if b == 47 then Slash
    else (if is_single b then Sign
    else (if b == 36 then Dollar
    else (if b == 92 then Backslash
    else (if b == 34 then Quote
    else Other)))))))

-- how many bytes a piece takes
abbrev pub len_of : Piece → ℕ
len_of (Gap n) = n
len_of (One kind n) = n
len_of OpenMarks = 2

-- how many bytes stand before the one that can't stand there
abbrev pub offset_of : Broken → ℕ
offset_of (AtByte n) = n
offset_of AtNumber = 0
offset_of AtComment = 0
offset_of AtString = 0

-- what begins with a slash: a comment to the end of the line, one to the first `*/`, or the mark
unfoldable pub slash_at : List ℕ → Result Piece Broken
slash_at bs =
    if slice_index bs 1 == 47 then Ok (Gap (2 + prefix_len is_in_line (drop 2 bs)))
    else (if slice_index bs 1 == 42 then (elim (close_of (drop 2 bs)) [ None ↦ Err AtComment | Some n ↦ Ok (Gap (2 + n)) ])
    else Ok (One Mark 1))

-- a number, or a broken one
unfoldable pub digit_at : List ℕ → Result Piece Broken
digit_at bs = elim (number_at bs) [ None ↦ Err AtNumber | Some n ↦ Ok (One Number n) ]

-- the piece is the longest front that is a P
pub record IsOne (P : List ℕ → Type 0) (kind : Kind) (bs : List ℕ) (p : Piece) : Type 0 where
  pub count : ℕ
  pub longest : IsLongest P bs count
  pub piece : p ≡ One kind count

-- how many of the first n bytes stand before one that is not ASCII
abbrev pub ascii_in : ℕ → List ℕ → ℕ
ascii_in n bs = prefix_len is_ascii (take n bs)

-- the longest front that is a P has a byte that is not ASCII, and this is the first
pub record HasOtherByte (P : List ℕ → Type 0) (bs : List ℕ) (f : Broken) : Type 0 where
  pub count : ℕ
  pub longest : IsLongest P bs count
  pub early : ascii_in count bs < count
  pub cause : f ≡ AtByte (ascii_in count bs)

-- no front is a P
pub record HasNone (P : List ℕ → Type 0) (why : Broken) (bs : List ℕ) (f : Broken) : Type 0 where
  pub none : (n : ℕ) → IsLongest P bs n → ⊥
  pub cause : f ≡ why

-- the piece is the longest front that is a P, and all of it is ASCII
pub record IsOneOfAscii (P : List ℕ → Type 0) (kind : Kind) (bs : List ℕ) (p : Piece) : Type 0 where
  pub count : ℕ
  pub longest : IsLongest P bs count
  pub ascii : ascii_in count bs ≡ count
  pub piece : p ≡ One kind count

-- what stands in front of a text with such a first byte
unfoldable pub IsAfterLead : Lead → List ℕ → Piece → Type 0
IsAfterLead Blank bs p = p ≡ Gap 1
IsAfterLead Slash bs p = slash_at bs ≡ Ok p
IsAfterLead Letter bs p = IsOne IsName Identifier bs p
IsAfterLead Dollar bs p = IsOne IsSystemName Identifier bs p
IsAfterLead Backslash bs p = IsOneOfAscii IsEscapedName Identifier bs p
IsAfterLead Digit bs p = digit_at bs ≡ Ok p
IsAfterLead Quote bs p = IsOneOfAscii IsQuoted Str bs p
IsAfterLead Sign bs p = IsOne IsMark Mark bs p
IsAfterLead Other bs p = ⊥

-- why nothing stands there
unfoldable pub BreaksAfterLead : Lead → List ℕ → Broken → Type 0
BreaksAfterLead Blank bs f = ⊥
BreaksAfterLead Slash bs f = slash_at bs ≡ Err f
BreaksAfterLead Letter bs f = ⊥
BreaksAfterLead Dollar bs f = HasNone IsSystemName (AtByte 0) bs f
BreaksAfterLead Backslash bs f = HasNone IsEscapedName (AtByte 0) bs f ⊎ HasOtherByte IsEscapedName bs f
BreaksAfterLead Digit bs f = digit_at bs ≡ Err f
BreaksAfterLead Quote bs f = HasNone IsQuoted AtString bs f ⊎ HasOtherByte IsQuoted bs f
BreaksAfterLead Sign bs f = ⊥
BreaksAfterLead Other bs f = f ≡ AtByte 0

-- a blank, a comment or a token stands in front
abbrev pub IsSimple : List ℕ → Piece → Type 0
IsSimple bs p = IsAfterLead (lead_of (slice_index bs 0)) bs p

-- none of them does
abbrev pub Breaks : List ℕ → Broken → Type 0
Breaks bs f = BreaksAfterLead (lead_of (slice_index bs 0)) bs f
