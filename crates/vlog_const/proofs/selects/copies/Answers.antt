-- No copies are nothing.
use Rattle.std.proofs.Common.{arith}
use Rattle.vlog_const.specs.Selects.{copies}
use Rattle.vlog_const.proofs.selects.copies.Goals as goal

pub loop-done-init : goal.loop-done-init
unfolding copies
loop-done-init c = omega arith
