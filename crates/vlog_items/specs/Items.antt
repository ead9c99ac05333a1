-- What is left to be read: one list of items, whatever files and replacements they come from.
--     Item                           a byte, the end of a file, or a file that is still to come
--     items_of_file, items_of_use    the items of a file's bytes, and of a replacement's
--     ahead_of                       what stands first
--     run_of, after_run              the bytes in front that are of a class, and what follows them
use Rattle.std.specs.Prelude.{◌≡◌, ℕ, ◌+◌, Bool, ◌==◌, if◌then◌else◌, List, [], ◌∷◌, map, ⊤}
use Rattle.rdc_outside.specs.declared.source.Place.{Place}
use Rattle.vlog_items.specs.declared.looking.Ahead.{Ahead}
use Rattle.vlog_items.specs.declared.looking.Ahead.TheVariants.{Read, Ended, Coming, Nothing}

-- one item of what is left
pub data Item : Type 0 where
  -- a byte with its place, and the names of the macros within whose replacement it stands
  Byte : (byte : ℕ) (place : Place) (within : List (List ℕ)) → Item
  -- the end of a file, at the place after its last byte
  End : (place : Place) → Item
  -- a file that is still to come
  Given : (name : List ℕ) → Item

-- the place after a byte
abbrev pub place_after : Place → ℕ → Place
place_after place b =
    if b == 10 then record { file = place.file; line = place.line + 1; col = 1 } else record { file = place.file; line = place.line; col = place.col + 1 }

-- a file's bytes from a place on, and its end
abbrev pub items_of_file : List (List ℕ) → Place → List ℕ → List Item
items_of_file within place [] = End place ∷ []
items_of_file within place (b ∷ bs) = Byte b place within ∷ items_of_file within (place_after place b) bs

-- a replacement's bytes, each at the place of the use
abbrev pub items_of_use : List (List ℕ) → Place → List ℕ → List Item
items_of_use within place bs = map (λ b. Byte b place within) bs

-- what stands first
abbrev pub ahead_of : List Item → Ahead
ahead_of [] = Nothing
ahead_of (Byte b place within ∷ items) = Read b place
ahead_of (End place ∷ items) = Ended place
ahead_of (Given name ∷ items) = Coming

-- the bytes in front that pass
abbrev pub run_of : (ℕ → Bool) → List Item → List ℕ
run_of passes [] = []
run_of passes (Byte b place within ∷ items) = if passes b then b ∷ run_of passes items else []
run_of passes (End place ∷ items) = []
run_of passes (Given name ∷ items) = []

-- what follows the bytes in front that pass
abbrev pub after_run : (ℕ → Bool) → List Item → List Item
after_run passes [] = []
after_run passes (Byte b place within ∷ items) = if passes b then after_run passes items else Byte b place within ∷ items
after_run passes (End place ∷ items) = End place ∷ items
after_run passes (Given name ∷ items) = Given name ∷ items

-- a byte that stands first is within these macros' replacements
abbrev pub FirstIsWithin : List (List ℕ) → List Item → Type 0
FirstIsWithin names [] = ⊤
FirstIsWithin names (Byte b place within ∷ items) = within ≡ names
FirstIsWithin names (End place ∷ items) = ⊤
FirstIsWithin names (Given name ∷ items) = ⊤
