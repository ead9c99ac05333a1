-- How the items of frames change as a frame goes on.
use Rattle.std.proofs.Common.{◌≡◌, ℕ, ◌+◌, ◌<◌, Bool, true, false, if◌then◌else◌, List, [], ◌∷◌, ◌++◌, length, drop, refl, ap, ◌∙◌, arith, add-one, drop-cons, length-drop, map, String, Global}
use Rattle.std.specs.String.{string_bytes}
use Rattle.std.proofs.lemmas.List.{nil_from_length}
use Rattle.rdc_outside.specs.declared.source.Place.{Place}
use Rattle.vlog_items.specs.declared.frames.Origin.{Origin}
use Rattle.vlog_items.specs.declared.frames.Origin.TheVariants.{OfFile, OfUse}
use Rattle.vlog_items.specs.declared.frames.Frame.{Frame}
use Rattle.vlog_items.specs.declared.looking.Ahead.TheVariants.{Coming}
use Rattle.vlog_items.specs.Items.{Item, Given, ahead_of, FirstIsWithin, items_of_use, items_of_file, place_after}
use Rattle.vlog_items.specs.Stack.{items_left, named, names_of, items_of}

-- a replacement of which a byte is left
pub use_steps : (within : List (List ℕ)) (place : Place) (bs : List ℕ) (at : ℕ) (items : List Item) → at < length bs → drop 1 (items_of_use within place (drop at bs) ++ items) ≡ items_of_use within place (drop (at + 1) bs) ++ items
use_steps within place bs at items more = rw (add-one, drop-cons bs at 0) refl

-- the last byte of a replacement
pub use_ends : (within : List (List ℕ)) (place : Place) (bs : List ℕ) (at : ℕ) (items : List Item) → at + 1 ≡ length bs → drop 1 (items_of_use within place (drop at bs) ++ items) ≡ items
use_ends within place bs at items last =
    let none : drop (at + 1) bs ≡ [] = nil_from_length (drop (at + 1) bs) (omega (arith, length-drop (at + 1) bs)) in
    use_steps within place bs at items (omega arith) ∙ ap (λ (rest : List ℕ). items_of_use within place rest ++ items) none

-- what stands first in a frame stands within the frame's macros
first_within : (origin : Origin) (within : List (List ℕ)) (place : Place) (bs : List ℕ) (items : List Item) → (origin ≡ OfUse → 0 < length bs) → FirstIsWithin within (items_left origin within place bs ++ items)
first_within OfFile within place [] items some = tt
first_within OfFile within place (b ∷ bs) items some = refl
first_within OfUse within place [] items some = let here : 0 < length {A = ℕ} [] = some refl in absurd (omega (arith, here))
first_within OfUse within place (b ∷ bs) items some = refl

-- and so does what stands first in all frames
pub settled : (done : Bool) (origin : Origin) (within : List (List ℕ)) (place : Place) (bs : List ℕ) (later : List Item) (below : List Frame) → FirstIsWithin within later → (done ≡ true → below ≡ []) → (origin ≡ OfUse → done ≡ false → 0 < length bs) → FirstIsWithin within ((if done then [] else items_left origin within place bs) ++ items_of later below)
settled true origin within place bs later below after none some = rw (none refl) after
settled false origin within place bs later below after none some = first_within origin within place bs (items_of later below) (λ is. some is refl)

-- names of files that are still to come stand within nothing
pub names_within : (within : List (List ℕ)) (names : List (String Global)) → FirstIsWithin within (map named names)
names_within within [] = tt
names_within within (name ∷ names) = tt

-- where nothing is open, a name that is to come stands first
pub ahead_coming : (frame : Frame) (below : List Frame) (names : List (String Global)) → frame.done ≡ true → below ≡ [] → 0 < length names → ahead_of (items_of (map named names) (frame ∷ below)) ≡ Coming
ahead_coming frame below [] done none some = absurd (omega (arith, some))
ahead_coming frame below (name ∷ names) done none some = rw (done, none) refl

-- no name that is to come stands first in a frame
never_coming : (origin : Origin) (within : List (List ℕ)) (place : Place) (bs : List ℕ) (items : List Item) → (origin ≡ OfUse → 0 < length bs) → ahead_of (items_left origin within place bs ++ items) ≡ Coming → ⊥
never_coming OfFile within place [] items some is = absurd cc
never_coming OfFile within place (b ∷ bs) items some is = absurd cc
never_coming OfUse within place [] items some is = let here : 0 < length {A = ℕ} [] = some refl in absurd (omega (arith, here))
never_coming OfUse within place (b ∷ bs) items some is = absurd cc

pub open_ahead : (frame : Frame) (below : List Frame) (later : List Item) → frame.done ≡ false → ahead_of (items_of later (frame ∷ below)) ≡ Coming → ⊥
open_ahead frame below later undone is =
    never_coming frame.origin (names_of (frame ∷ below)) frame.place (drop frame.at frame.bytes.items) (items_of later below) (λ replaced. omega (arith, frame.open replaced undone, length-drop frame.at frame.bytes.items)) (rw undone at is)

-- names of files that are still to come, by their bytes
pub named_given : (names : List (String Global)) → map named names ≡ map Given (map string_bytes names)
named_given [] = refl
named_given (name ∷ names) = ap (λ (items : List Item). named name ∷ items) (named_given names)

-- a file's items are its bytes and its end
pub file_length : (within : List (List ℕ)) (place : Place) (bs : List ℕ) → length (items_of_file within place bs) ≡ length bs + 1
file_length within place [] = refl
file_length within place (b ∷ bs) = omega (arith, file_length within (place_after place b) bs)
