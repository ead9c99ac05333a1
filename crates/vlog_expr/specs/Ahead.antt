-- What a cursor shows: the lexemes from its next token on.
use Rattle.std.specs.Prelude.{◌≡◌, ◌+◌, List, length}
use Rattle.vlog_lex.specs.Tokens.{AreWithin}
use Rattle.vlog_tree.specs.Lexemes.{Lexeme, lexemes}
use Rattle.vlog_expr.specs.Plain.{seen}
use Rattle.vlog_expr.specs.declared.cursor.Cursor.TheInside.{Inside}

abbrev pub ahead_of : Inside → List Lexeme
ahead_of c = seen c.wild (lexemes c.bytes.now c.places.now c.rest.now)

-- each token has its bytes in the text, and each byte its place
abbrev pub IsInText : Inside → Type 0
IsInText c = (length c.places.now ≡ length c.bytes.now + 1) × AreWithin (length c.bytes.now) c.rest.now
