-- The lines of a constraint file, and the words of each.
--     is_line_feed b, is_hash b, is_blank b      what a byte is
--     has_items xs              the list isn't empty
--     is_at_line_feed bytes     a line feed comes next
--     plain bytes               the bytes with LF for CR LF
--     lines_of bytes            the lines
--     without_comment line      a line up to its comment
--     words_in text             the words of a line
--     Row, rows_from, rows_of   the lines that aren't blank, with their numbers
use Rattle.std.specs.Prelude.{ℕ, ◌+◌, Bool, true, false, ◌&&◌, ◌||◌, ◌==◌, if◌then◌else◌, List, [], ◌∷◌, filter}
use Rattle.std.specs.List.{slice_split, before_first, list_all}

-- a line feed
abbrev pub is_line_feed : ℕ → Bool
is_line_feed b = b == 10

-- a number sign, which begins a comment
abbrev pub is_hash : ℕ → Bool
is_hash b = b == 35

-- a space or a tab
abbrev pub is_blank : ℕ → Bool
is_blank b = (b == 32) || (b == 9)

-- some item stands in the list
abbrev pub has_items : {X : Type 0} → List X → Bool
has_items [] = false
has_items (x ∷ xs) = true

-- a line feed comes next
abbrev pub is_at_line_feed : List ℕ → Bool
is_at_line_feed [] = false
is_at_line_feed (b ∷ bytes) = is_line_feed b

-- the bytes, with each carriage return before a line feed left out
abbrev pub plain : List ℕ → List ℕ
plain [] = []
plain (b ∷ bytes) = if (b == 13) && is_at_line_feed bytes then plain bytes else b ∷ plain bytes

-- the lines: what stands before, between and after the line feeds
abbrev pub lines_of : List ℕ → List (List ℕ)
lines_of bytes = slice_split is_line_feed (plain bytes)

-- a line up to its comment
abbrev pub without_comment : List ℕ → List ℕ
without_comment line = before_first is_hash line

-- the words of a line, parted by blanks
abbrev pub words_in : List ℕ → List (List ℕ)
words_in text = filter has_items (slice_split is_blank text)

-- a line that isn't blank: its number, and its text without a comment
pub record Row : Type 0 where
  pub number : ℕ
  pub text : List ℕ

-- the row of a line, in front of others, unless the line is blank
abbrev pub with_row : ℕ → List ℕ → List Row → List Row
with_row n text rows = if list_all is_blank text then rows else record { number = n; text = text } ∷ rows

-- the lines that aren't blank, the first line being line n
abbrev pub rows_from : ℕ → List (List ℕ) → List Row
rows_from n [] = []
rows_from n (line ∷ lines) = with_row n (without_comment line) (rows_from (n + 1) lines)

-- the lines of a file that aren't blank; every line counts
abbrev pub rows_of : List ℕ → List Row
rows_of bytes = rows_from 1 (lines_of bytes)
