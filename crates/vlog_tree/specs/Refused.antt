-- Which lexemes are refused by name, where one is refused: what the standard has and this profile does not.
use Rattle.std.specs.Prelude.{ℕ, Bool, false, not, ◌&&◌, ◌||◌, ◌==◌, List, [], ◌∷◌, slice_index, Option, Some, None, codes}
use Rattle.std.specs.List.{list_any}
use Rattle.std.specs.Str.{bytes_eq}
use Rattle.vlog_tree.specs.Lexemes.{Lexeme, word_of, is_mark}
use Rattle.vlog_tree.specs.Reserved.{is_reserved, is_foreign_word}
use Rattle.vlog_tree.specs.Numbers.{has_x, has_z}

-- a word that is not reserved
unfoldable pub is_free_word : List ℕ → Bool
is_free_word [] = false
is_free_word (b ∷ bs) = not (is_reserved (b ∷ bs))

-- a system name, or a reserved word that no production names
unfoldable pub is_refused_word : List ℕ → Bool
is_refused_word word = slice_index word 0 == 36 || is_foreign_word word

-- such a word, a number with an x or z digit, or `#`
unfoldable pub is_refused_alone : Lexeme → Bool
is_refused_alone l = is_refused_word (word_of l) || has_x l || has_z l || is_mark (codes "#") l

-- `[` or `=`, where it stands directly behind an identifier that is no reserved word
unfoldable pub is_refused_behind : Lexeme → Lexeme → Bool
is_refused_behind before l = is_free_word (word_of before) && (is_mark (codes "[") l || is_mark (codes "=") l)

-- the lexeme is refused by name, behind the one before it, if there is one
unfoldable pub is_refused : Option Lexeme → Lexeme → Bool
is_refused None l = is_refused_alone l
is_refused (Some before) l = is_refused_alone l || is_refused_behind before l
