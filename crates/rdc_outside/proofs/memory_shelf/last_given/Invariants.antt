-- What is left decides all, once what was found so far stands behind it.
use Rattle.std.proofs.Common.{◌≡◌, length, map}
use Rattle.std.specs.Option.{option_or, option_copied}
use Rattle.rdc_outside.specs.MemoryShelf.{file_in, given_file}
use Rattle.rdc_outside.proofs.memory_shelf.last_given.Given as goal

abbrev pub invariant-loop-left : goal.invariant-loop-left
invariant-loop-left l =
    option_or (file_in (map given_file l.left) l.name) (option_copied l.found) ≡ file_in (map given_file l.initial.left) l.name

abbrev pub decreases-loop-left : goal.decreases-loop-left
decreases-loop-left l = length l.left
