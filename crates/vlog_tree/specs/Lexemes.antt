-- Lexemes: what a grammar sees of a text. A lexeme is a token with its bytes and its place.
use Rattle.std.specs.Prelude.{ℕ, ◌-◌, Bool, IsTrue, List, [], ◌∷◌, map, take, drop, slice_index_or}
use Rattle.std.specs.Str.{bytes_eq}
use Rattle.rdc_outside.specs.declared.source.Place.{Place}
use Rattle.vlog_lex.specs.declared.tokens.Kind.{Kind}
use Rattle.vlog_lex.specs.declared.tokens.Kind.TheVariants.{Identifier, Number, Str, Mark}
use Rattle.vlog_lex.specs.declared.tokens.Token.{Token}

-- a token with its bytes and the place of its first byte
pub record Lexeme : Type 0 where
  pub kind : Kind
  pub bytes : List ℕ
  pub place : Place

-- the place of a byte; past the last place none is meant
unfoldable pub place_at : List Place → ℕ → Place
place_at places at = slice_index_or places at (record { file = 0; line = 0; col = 0 })

-- the lexeme of a token
unfoldable pub lexeme : List ℕ → List Place → Token → Lexeme
lexeme bytes places t = record { kind = t.kind; bytes = take (t.to - t.from) (drop t.from bytes); place = place_at places t.from }

-- the lexemes of a text's tokens
abbrev pub lexemes : List ℕ → List Place → List Token → List Lexeme
lexemes bytes places ts = map (lexeme bytes places) ts

-- the bytes of a lexeme, if it is of that kind, or none
unfoldable pub word_in : Kind → List ℕ → List ℕ
word_in Identifier bytes = bytes
word_in Number bytes = []
word_in Str bytes = []
word_in Mark bytes = []

unfoldable pub mark_in : Kind → List ℕ → List ℕ
mark_in Identifier bytes = []
mark_in Number bytes = []
mark_in Str bytes = []
mark_in Mark bytes = bytes

unfoldable pub digits_in : Kind → List ℕ → List ℕ
digits_in Identifier bytes = []
digits_in Number bytes = bytes
digits_in Str bytes = []
digits_in Mark bytes = []

-- a word's bytes, or none of another lexeme; the same of a mark and of a number
abbrev pub word_of : Lexeme → List ℕ
word_of l = word_in l.kind l.bytes

abbrev pub mark_of : Lexeme → List ℕ
mark_of l = mark_in l.kind l.bytes

abbrev pub digits_of : Lexeme → List ℕ
digits_of l = digits_in l.kind l.bytes

-- the lexeme is that mark, that word
unfoldable pub is_mark : List ℕ → Lexeme → Bool
is_mark mark l = bytes_eq (mark_of l) mark

unfoldable pub is_word : List ℕ → Lexeme → Bool
is_word word l = bytes_eq (word_of l) word

abbrev pub IsMark : List ℕ → Lexeme → Type 0
IsMark mark l = IsTrue (is_mark mark l)

abbrev pub IsWord : List ℕ → Lexeme → Type 0
IsWord word l = IsTrue (is_word word l)

-- the place of the first lexeme
unfoldable pub start : List Lexeme → Place
start [] = record { file = 0; line = 0; col = 0 }
start (l ∷ ls) = l.place
