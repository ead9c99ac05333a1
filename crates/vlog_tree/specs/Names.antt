-- Names (IEEE 1364-2005, 3.7): which words are one.
use Rattle.std.specs.Prelude.{◌≡◌, ℕ, ◌||◌, ◌==◌, if◌then◌else◌, List, [], ◌∷◌, drop, slice_index, Option, Some, None}
use Rattle.rdc_outside.specs.declared.source.Place.{Place}
use Rattle.vlog_tree.specs.declared.ident.Ident.{Ident}
use Rattle.vlog_tree.specs.Lexemes.{Lexeme, word_of}
use Rattle.vlog_tree.specs.Reserved.{is_reserved}

-- an escaped name, without its `\`, or a plain one; neither a system name nor a reserved word
unfoldable pub name_in : List ℕ → Option (List ℕ)
name_in [] = None
name_in (b ∷ bs) = if b == 92 then Some bs else (if b == 36 || is_reserved (b ∷ bs) then None else Some (b ∷ bs))

-- the name that a lexeme is, if it is one
unfoldable pub name_of : Lexeme → Option (List ℕ)
name_of l = name_in (word_of l)

-- the lexeme is this name, where it stands
pub record IsIdent (l : Lexeme) (i : Ident) : Type 0 where
  pub name : name_of l ≡ Some i.name
  pub place : i.place ≡ l.place
