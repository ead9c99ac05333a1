-- What is taken from the front of bytes.
use Rattle.std.specs.Prelude.{ℕ, ◌==◌, ◌&&◌, not, if◌then◌else◌, List, [], ◌∷◌}
use Rattle.thin_cons.specs.Lines.{has_items}

-- the list x, unless it is empty, and then the others
abbrev pub with_front : {X : Type 0} → List X → List (List X) → List (List X)
with_front [] others = others
with_front (x ∷ xs) others = (x ∷ xs) ∷ others

-- the line without a carriage return at its end
abbrev pub without_return : List ℕ → List ℕ
without_return [] = []
without_return (b ∷ bytes) = if (b == 13) && not (has_items bytes) then [] else b ∷ without_return bytes
