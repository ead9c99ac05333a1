-- The copies so far.
use Rattle.std.proofs.Common.{◌≡◌}
use Rattle.vlog_const.specs.Words.{low}
use Rattle.vlog_const.specs.Selects.{copies}
use Rattle.vlog_const.proofs.selects.copies.Given as goal

abbrev pub invariant-loop-done : goal.invariant-loop-done
invariant-loop-done l = l.so_far ≡ low l.all (copies l.done l.width l.bits)
