-- Where lexemes are cut: at each word `module`.
use Rattle.std.specs.Prelude.{Bool, false, not, if◌then◌else◌, List, [], ◌∷◌, drop, Option, Some, None, codes}
use Rattle.vlog_tree.specs.Lexemes.{Lexeme, is_word}

-- there is a lexeme, and it is not the word `module`
unfoldable pub is_inside : Option Lexeme → Bool
is_inside None = false
is_inside (Some l) = not (is_word (codes "module") l)

-- the lexemes from the first word `module` on
unfoldable pub from_module : List Lexeme → List Lexeme
from_module [] = []
from_module (l ∷ ls) = if is_word (codes "module") l then l ∷ ls else from_module ls

-- the same, the first lexeme not looked at
unfoldable pub next_module : List Lexeme → List Lexeme
next_module ls = from_module (drop 1 ls)
