-- What was looked at may be read.
use Rattle.std.proofs.Common.{take, Contains}
use Rattle.reset_trees.specs.Marking.{ReadsSame}
use Rattle.reset_trees.proofs.same.is_same.Given as goal

abbrev pub invariant-read : goal.invariant-read
invariant-read l = ReadsSame l.kinds l.levels l.flop (Contains (take l.s-index l.read))
