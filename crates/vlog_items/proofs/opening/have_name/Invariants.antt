-- A name that no frame so far has is one of the frames that are left.
use Rattle.std.proofs.Common.{◌≡◌, ◌-◌, drop, length}
use Rattle.std.specs.List.{list_any}
use Rattle.std.specs.Str.{bytes_eq}
use Rattle.vlog_items.specs.Stack.{names_of}
use Rattle.vlog_items.proofs.opening.have_name.Given as goal

abbrev pub invariant-frames : goal.invariant-frames
invariant-frames l = list_any (bytes_eq l.name) (names_of (drop l.at l.frames.items)) ≡ list_any (bytes_eq l.name) (names_of l.frames.items)

abbrev pub decreases-frames : goal.decreases-frames
decreases-frames l = length l.frames.items - l.at
