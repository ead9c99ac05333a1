use Rattle.net_words.proofs.ShiftSteps.{raised_more}
use Rattle.std.proofs.Common.{◌∙◌}
use Rattle.net_words.proofs.shifts.raise.Goals as goal

pub loop-i-preserved : goal.loop-i-preserved
loop-i-preserved c = c.in_ok-push.ensures.items ∙ raised_more c.args.fill c.args.distance c.args.word.now c.loop-i.moved.items c.loop-i.i c.below.result c.loop-i-test.true c.below.ensures c.loop-i.invariant
