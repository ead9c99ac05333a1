-- What a directive reads on its line: a name, or a string.
use Rattle.std.specs.Prelude.{◌≡◌, ℕ, Bool, false, ◌&&◌, ◌==◌, List, [], ◌∷◌, drop, slice_index, Option, Some, None}
use Rattle.std.specs.List.{list_all}
use Rattle.std.specs.Char.{is_ascii}
use Rattle.vlog_items.specs.declared.classes.Class.TheVariants.{NameByte, LineBlank, Quotable}
use Rattle.vlog_items.specs.Bytes.{is_letter, is_in}
use Rattle.vlog_items.specs.Items.{Item, Byte, End, Given, run_of, after_run}

-- the word in front
abbrev pub word_of : List Item → List ℕ
word_of items = run_of (is_in NameByte) items

-- what follows it
abbrev pub after_word : List Item → List Item
after_word items = after_run (is_in NameByte) items

-- what follows the blanks on the line
abbrev pub after_blanks : List Item → List Item
after_blanks items = after_run (is_in LineBlank) items

-- a word is a name: it begins with a letter or `_`
abbrev pub is_name : List ℕ → Bool
is_name word = is_letter (slice_index word 0)

-- such a byte stands first
abbrev pub begins_with : ℕ → List Item → Bool
begins_with byte [] = false
begins_with byte (Byte b place within ∷ items) = b == byte
begins_with byte (End place ∷ items) = false
begins_with byte (Given name ∷ items) = false

-- the bytes of a string whose first quote stands first
abbrev pub quoted_of : List Item → List ℕ
quoted_of items = run_of (is_in Quotable) (drop 1 items)

-- what follows these bytes: the last quote, where the string has one
abbrev pub after_quoted : List Item → List Item
after_quoted items = after_run (is_in Quotable) (drop 1 items)

-- a string of ASCII stands first
abbrev pub has_string : List Item → Bool
has_string items = begins_with 34 items && begins_with 34 (after_quoted items) && list_all is_ascii (quoted_of items)

-- what was read and what follows it, or that nothing can be read
abbrev pub IsRead : {X : Type 0} → Option X → List Item → Option (X × List Item) → Type 0
IsRead None items answer = answer ≡ None
IsRead (Some found) items answer = answer ≡ Some (found, items)
