-- What a table of names holds.
--     places_at t           where each name stands
use Rattle.std.specs.Prelude.{ℕ, List, Option}
use Rattle.std.specs.Str.{bytes_eq}
use Rattle.std.specs.HashMap as hash
use Rattle.thin_tree.specs.declared.places.Places.{Places}

-- where each name stands
abbrev pub places_at : Places → List ℕ → Option ℕ
places_at t = λ name. hash.get_by (λ key. bytes_eq name key.items) t.table
