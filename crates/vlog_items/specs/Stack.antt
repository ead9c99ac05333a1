-- What a reader shows: the items that are left, and the macros within whose replacement it stands.
use Rattle.std.specs.Prelude.{ℕ, if◌then◌else◌, List, [], ◌∷◌, ◌++◌, drop, String, string_bytes}
use Rattle.std.specs.declared.alloc.Global.{Global}
use Rattle.rdc_outside.specs.declared.source.Place.{Place}
use Rattle.vlog_items.specs.declared.frames.Origin.{Origin}
use Rattle.vlog_items.specs.declared.frames.Origin.TheVariants.{OfFile, OfUse}
use Rattle.vlog_items.specs.declared.frames.Frame.{Frame}
use Rattle.vlog_items.specs.Items.{Item, Given, items_of_file, items_of_use}

-- what is left of one open file or replacement
abbrev pub items_left : Origin → List (List ℕ) → Place → List ℕ → List Item
items_left OfFile within place bytes = items_of_file within place bytes
items_left OfUse within place bytes = items_of_use within place bytes

-- the items of a frame, within such macros
abbrev pub frame_items : List (List ℕ) → Frame → List Item
frame_items within frame = if frame.done then [] else items_left frame.origin within frame.place (drop frame.at frame.bytes.items)

-- the macros within which the topmost of these frames stands
abbrev pub names_of : List Frame → List (List ℕ)
names_of [] = []
names_of (frame ∷ frames) = frame.names.items ++ names_of frames

-- a file that is still to come, by its name
abbrev pub named : String Global → Item
named name = Given (string_bytes name)

-- the items of frames, the topmost first, and what follows them
abbrev pub items_of : List Item → List Frame → List Item
items_of later [] = later
items_of later (frame ∷ frames) = frame_items (names_of (frame ∷ frames)) frame ++ items_of later frames

-- what a reader shows
pub record Reading : Type 0 where
  -- what is left
  pub items : List Item
  -- the macros within whose replacement the item stands that was first when the reader settled
  pub names : List (List ℕ)
