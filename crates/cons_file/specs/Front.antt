-- What is taken from the front of bytes.
use Rattle.std.specs.Prelude.{ℕ, ◌==◌, ◌&&◌, not, if◌then◌else◌, List, [], ◌∷◌}
use Rattle.cons_file.specs.Lines as lines
use Rattle.cons_file.specs.Lines.{has_items}
use Rattle.cons_file.specs.declared.scanner.Row.{Row}

-- the list x, unless it is empty, and then the others
abbrev pub with_front : {X : Type 0} → List X → List (List X) → List (List X)
with_front [] others = others
with_front (x ∷ xs) others = (x ∷ xs) ∷ others

-- the line without a carriage return at its end
abbrev pub without_return : List ℕ → List ℕ
without_return [] = []
without_return (b ∷ bytes) = if (b == 13) && not (has_items bytes) then [] else b ∷ without_return bytes

-- a row that was read
abbrev pub row_read : Row → lines.Row
row_read row = record { number = row.number; text = row.text.now }
