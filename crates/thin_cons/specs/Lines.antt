-- The lines of a constraint file, and the words of each.
--     is_line_feed b, is_hash b, is_blank b      what a byte is
--     has_items xs              the list isn't empty
--     is_at_line_feed bytes     a line feed comes next
--     plain bytes               the bytes with LF for CR LF
--     lines_of bytes            the lines
--     without_comment line      a line up to its comment
--     words_in line             the words of a line
--     rows_of bytes             the words of each line that isn't blank
use Rattle.std.specs.Prelude.{ℕ, Bool, true, false, ◌&&◌, ◌||◌, ◌==◌, if◌then◌else◌, List, [], ◌∷◌, map, filter}
use Rattle.std.specs.List.{slice_split, before_first}

-- a line feed
abbrev pub is_line_feed : ℕ → Bool
is_line_feed b = b == 10

-- a number sign, which begins a comment
abbrev pub is_hash : ℕ → Bool
is_hash b = b == 35

-- a space or a tab
abbrev pub is_blank : ℕ → Bool
is_blank b = (b == 32) || (b == 9)

-- some item stands in the list
abbrev pub has_items : {X : Type 0} → List X → Bool
has_items [] = false
has_items (x ∷ xs) = true

-- a line feed comes next
abbrev pub is_at_line_feed : List ℕ → Bool
is_at_line_feed [] = false
is_at_line_feed (b ∷ bytes) = is_line_feed b

-- the bytes, with each carriage return before a line feed left out
abbrev pub plain : List ℕ → List ℕ
plain [] = []
plain (b ∷ bytes) = if (b == 13) && is_at_line_feed bytes then plain bytes else b ∷ plain bytes

-- the lines: what stands before, between and after the line feeds
abbrev pub lines_of : List ℕ → List (List ℕ)
lines_of bytes = slice_split is_line_feed (plain bytes)

-- a line up to its comment
abbrev pub without_comment : List ℕ → List ℕ
without_comment line = before_first is_hash line

-- the words of a line, parted by blanks
abbrev pub words_in : List ℕ → List (List ℕ)
words_in line = filter has_items (slice_split is_blank line)

-- the words of each line that isn't blank
abbrev pub rows_of : List ℕ → List (List (List ℕ))
rows_of bytes = filter has_items (map (λ line. words_in (without_comment line)) (lines_of bytes))
