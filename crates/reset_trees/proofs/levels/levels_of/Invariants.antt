-- The lines that were looked at have their levels.
use Rattle.std.proofs.Common.{◌≡◌, length, take}
use Rattle.cons_bind.specs.Binding.{forms_of}
use Rattle.reset_trees.specs.Marking.{AreLevels}
use Rattle.reset_trees.proofs.levels.levels_of.Given as goal

abbrev pub invariant-lines : goal.invariant-lines
invariant-lines l = record { levels : AreLevels (forms_of (take l.line-index l.lines)) l.levels.items; len : length l.levels.items ≡ l.count }
