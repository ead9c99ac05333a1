-- What the name of a module means, by the places where it stands.
--     places_of name k names        the places of a name in a list, the first of which is k
--     meaning_of ms bs              what a name means that stands at these places among modules, and at those among boxes
--     MeansByPlaces                 a library says so of each name
use Rattle.std.specs.Prelude.{◌≡◌, ℕ, suc, if◌then◌else◌, List, [], ◌∷◌, map, Option, Some, None}
use Rattle.std.specs.Str.{bytes_eq}
use Rattle.vlog_tree.specs.declared.module.Module.{Module}
use Rattle.elab_binds.specs.declared.boxes.BoxPorts.{BoxPorts}
use Rattle.elab_binds.specs.declared.index.Found.TheVariants as found
use Rattle.elab_binds.specs.declared.index.Listed.{Listed}
use Rattle.elab_binds.specs.declared.index.Listed.TheVariants.{Once, Twice}
use Rattle.elab_binds.specs.Books.{library}

-- the places of a name in a list, the first of which is k
unfoldable pub places_of : List ℕ → ℕ → List (List ℕ) → List ℕ
places_of name k [] = []
places_of name k (n ∷ ns) = if bytes_eq n name then k ∷ places_of name (suc k) ns else places_of name (suc k) ns

-- the one module that has it, where no box does; the first of the boxes that have it, where no module does
unfoldable pub meaning_of : List ℕ → List ℕ → Option Listed
meaning_of [] [] = None
meaning_of [] (b ∷ bs) = Some (Once (found.Box b))
meaning_of (m ∷ []) [] = Some (Once (found.Module m))
meaning_of (m ∷ []) (b ∷ bs) = Some Twice
meaning_of (m ∷ n ∷ ms) bs = Some Twice

abbrev pub module_name : Module → List ℕ
module_name m = m.name.name

abbrev pub box_name : BoxPorts → List ℕ
box_name b = b.module

-- a library says so of each name
abbrev pub MeansByPlaces : Type 0
MeansByPlaces = (ms : List Module) (bs : List BoxPorts) (name : List ℕ) → library ms bs name ≡ meaning_of (places_of name 0 (map module_name ms)) (places_of name 0 (map box_name bs))
