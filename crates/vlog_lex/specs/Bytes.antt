-- Classes of bytes, and the byte at a place.
--     is_blank, is_letter, is_digit, is_ascii          as in IEEE 1364-2005, 3.2 and 3.7
--     is_name_byte, is_visible, is_quotable, is_in_line      what goes on with a name, an escaped name, a string, a line
--     is_size_digit                a digit, or `_` inside a number
use Rattle.std.specs.Prelude.{ℕ, Bool, not, ◌&&◌, ◌||◌, ◌==◌, nat_le, nat_lt}

-- a byte from the first to the last of a range
abbrev pub is_within : ℕ → ℕ → ℕ → Bool
is_within first last b = nat_le first b && nat_le b last

-- space, tab, line feed, form feed, carriage return
unfoldable pub is_blank : ℕ → Bool
is_blank b = b == 32 || b == 9 || b == 10 || b == 12 || b == 13

-- a letter or `_`
unfoldable pub is_letter : ℕ → Bool
is_letter b = is_within 97 122 b || is_within 65 90 b || b == 95

unfoldable pub is_digit : ℕ → Bool
is_digit b = is_within 48 57 b

-- a digit or `_`
unfoldable pub is_size_digit : ℕ → Bool
is_size_digit b = is_digit b || b == 95

-- a letter, `_`, a digit or `$`
unfoldable pub is_name_byte : ℕ → Bool
is_name_byte b = is_letter b || is_digit b || b == 36

-- no blank
unfoldable pub is_visible : ℕ → Bool
is_visible b = not (is_blank b)

-- neither a quote nor the end of a line
unfoldable pub is_quotable : ℕ → Bool
is_quotable b = not (b == 34) && not (b == 10)

-- not the end of a line
unfoldable pub is_in_line : ℕ → Bool
is_in_line b = not (b == 10)

unfoldable pub is_ascii : ℕ → Bool
is_ascii b = nat_lt b 128

-- exactly the `$` of a system name
abbrev pub is_dollar : ℕ → Bool
is_dollar b = b == 36

-- exactly the `\` of an escaped name
abbrev pub is_backslash : ℕ → Bool
is_backslash b = b == 92
