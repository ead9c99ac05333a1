-- What a text is in the middle of: a comment, a string, an escaped name, or nothing.
use Rattle.std.specs.Prelude.{ℕ, Bool, true, false, ◌||◌, ◌==◌, if◌then◌else◌}
use Rattle.vlog_items.specs.declared.modes.Mode.{Mode}
use Rattle.vlog_items.specs.declared.modes.Mode.TheVariants.{Plain, Slash, LineComment, BlockComment, Star, Quoted, Escaped}
use Rattle.vlog_items.specs.Bytes.{is_blank}

-- after a byte where nothing is open
unfoldable pub after_plain : ℕ → Mode
after_plain b = if b == 47 then Slash else (if b == 34 then Quoted else (if b == 92 then Escaped else Plain))

-- after one byte more
unfoldable pub mode_after : Mode → ℕ → Mode
mode_after Plain b = after_plain b
mode_after Slash b = if b == 47 then LineComment else (if b == 42 then BlockComment else after_plain b)
mode_after LineComment b = if b == 10 then Plain else LineComment
mode_after BlockComment b = if b == 42 then Star else BlockComment
mode_after Star b = if b == 47 then Plain else (if b == 42 then Star else BlockComment)
mode_after Quoted b = if b == 34 || b == 10 then Plain else Quoted
mode_after Escaped b = if is_blank b then Plain else Escaped

-- nothing is open: no comment, no string and no escaped name
unfoldable pub is_plain : Mode → Bool
is_plain Plain = true
is_plain Slash = true
is_plain LineComment = false
is_plain BlockComment = false
is_plain Star = false
is_plain Quoted = false
is_plain Escaped = false
