-- The lexemes of the text to which the sources expand.
use Rattle.std.specs.Prelude.{List, [], ◌∷◌, ◌++◌, length}
use Rattle.rdc_outside.specs.declared.source.Place.{Place}
use Rattle.vlog_pre.specs.Known.{State}
use Rattle.vlog_lex.specs.declared.tokens.Token.{Token}
use Rattle.vlog_tree.specs.Lexemes.{Lexeme, lexemes, place_at}

-- the place of each byte, and of the end
abbrev pub places_of : State → List Place
places_of known = known.places ++ known.end ∷ []

-- the place of the end
abbrev pub end_of : State → Place
end_of known = place_at (places_of known) (length known.bytes)

abbrev pub lexemes_of : State → List Token → List Lexeme
lexemes_of known tokens = lexemes known.bytes (places_of known) tokens
