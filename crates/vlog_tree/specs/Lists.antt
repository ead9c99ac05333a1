-- Lists with commas between, and what may be left out.
use Rattle.std.specs.Prelude.{◌≡◌, ℕ, List, [], ◌∷◌, ◌++◌, Option, Some, None, codes}
use Rattle.vlog_tree.specs.declared.ident.Ident.{Ident}
use Rattle.vlog_tree.specs.Lexemes.{Lexeme, IsMark}
use Rattle.vlog_tree.specs.Names.{IsIdent}

-- at least one piece, with commas between
pub data SpellsCommas {X : Type 0} (Piece : List Lexeme → X → Type 0) : List Lexeme → List X → Type 0 where
  one : {ls : List Lexeme} {xs : List X} (x : X)
      → Piece ls x → xs ≡ x ∷ [] → SpellsCommas Piece ls xs
  more : {ls : List Lexeme} {xs : List X} (comma : Lexeme) (is js : List Lexeme) (x : X) (ys : List X)
      → Piece is x → IsMark (codes ",") comma → SpellsCommas Piece js ys
      → ls ≡ is ++ comma ∷ js → xs ≡ x ∷ ys → SpellsCommas Piece ls xs

-- a piece, or nothing
pub data SpellsOptional {X : Type 0} (Piece : List Lexeme → X → Type 0) : List Lexeme → Option X → Type 0 where
  absent : {ls : List Lexeme} {o : Option X} → ls ≡ [] → o ≡ None → SpellsOptional Piece ls o
  present : {ls : List Lexeme} {o : Option X} (x : X) → Piece ls x → o ≡ Some x → SpellsOptional Piece ls o

-- id
pub data SpellsIdent : List Lexeme → Ident → Type 0 where
  ident : {ls : List Lexeme} {i : Ident} (l : Lexeme) → IsIdent l i → ls ≡ l ∷ [] → SpellsIdent ls i

-- ":" id
pub data SpellsLabel : List Lexeme → Ident → Type 0 where
  label : {ls : List Lexeme} {i : Ident} (colon l : Lexeme) → IsMark (codes ":") colon → IsIdent l i → ls ≡ colon ∷ l ∷ [] → SpellsLabel ls i
