-- Classes of bytes that are read in runs.
use Rattle.std.specs.Prelude.{ℕ, Bool, not, ◌&&◌, ◌||◌, ◌==◌, nat_le}
use Rattle.vlog_items.specs.declared.classes.Class.{Class}
use Rattle.vlog_items.specs.declared.classes.Class.TheVariants.{NameByte, LineBlank, Blank, InLine, Quotable}

-- a byte from the first to the last of a range
abbrev pub is_within : ℕ → ℕ → ℕ → Bool
is_within first last b = nat_le first b && nat_le b last

-- a letter or `_`
unfoldable pub is_letter : ℕ → Bool
is_letter b = is_within 97 122 b || is_within 65 90 b || b == 95

-- a letter, `_`, a digit or `$`
unfoldable pub is_name_byte : ℕ → Bool
is_name_byte b = is_letter b || is_within 48 57 b || b == 36

-- space, tab, form feed, carriage return
unfoldable pub is_line_blank : ℕ → Bool
is_line_blank b = b == 32 || b == 9 || b == 12 || b == 13

-- a blank on its line, or a line feed
unfoldable pub is_blank : ℕ → Bool
is_blank b = is_line_blank b || b == 10

-- the byte is of the class
unfoldable pub is_in : Class → ℕ → Bool
is_in NameByte b = is_name_byte b
is_in LineBlank b = is_line_blank b
is_in Blank b = is_blank b
is_in InLine b = not (b == 10)
is_in Quotable b = not (b == 34) && not (b == 10)
