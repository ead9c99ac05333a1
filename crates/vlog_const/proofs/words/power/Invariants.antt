-- What is left of the power.
use Rattle.std.proofs.Common.{◌≡◌, ◌*◌, ◌%◌, ◌^◌}
use Rattle.vlog_const.proofs.words.power.Given as goal

abbrev pub invariant-squares : goal.invariant-squares
invariant-squares l = (l.power * l.base ^ l.left) % 2 ^ 128 ≡ (l.a ^ l.n) % 2 ^ 128

abbrev pub decreases-squares : goal.decreases-squares
decreases-squares l = l.left
