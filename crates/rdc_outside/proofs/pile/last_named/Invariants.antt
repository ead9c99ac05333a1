-- What is left decides all, once what was found so far stands behind it.
use Rattle.std.proofs.Common.{◌≡◌, ◌≤◌, length, map}
use Rattle.std.specs.Option.{option_or, option_copied}
use Rattle.rdc_outside.specs.MemoryShelf.{file_in, file_of}
use Rattle.rdc_outside.specs.Pile.{entries_of, total_length}
use Rattle.rdc_outside.proofs.pile.last_named.Given as goal

abbrev pub invariant-loop-left : goal.invariant-loop-left
invariant-loop-left l =
    (total_length l.left ≤ length l.rest)
    × (option_or (file_in (map file_of (entries_of l.left l.rest)) l.name) (option_copied l.found)
    ≡ file_in (map file_of (entries_of l.initial.left l.initial.rest)) l.name)

abbrev pub decreases-loop-left : goal.decreases-loop-left
decreases-loop-left l = length l.left
