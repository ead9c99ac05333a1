use Rattle.std.proofs.Common.{◌∙◌, ◌++◌, ◌+◌, drop, ap}
use Rattle.net_words.specs.Shifts.{lowered}
use Rattle.net_words.proofs.ShiftSteps.{lowered_more, lowered_whole}
use Rattle.net_words.proofs.shifts.lower.Goals as goal

pub loop-i-preserved : goal.loop-i-preserved
loop-i-preserved c =
    let word = c.args.word.now in
    let whole = lowered c.args.fill c.args.distance word in
    ap (λ made. made ++ lowered c.args.fill c.args.distance (drop (c.loop-i.i + 1) word)) c.in_ok-push.ensures.items
    ∙ lowered_more c.args.fill c.args.distance word c.loop-i.moved.items whole c.loop-i.i c.above.result c.loop-i-test.true c.above.ensures c.loop-i.invariant

pub returns-clause-items : goal.returns-clause-items
returns-clause-items c =
    let whole = lowered c.args.fill c.args.distance c.args.word.now in
    lowered_whole c.args.fill c.args.distance c.args.word.now c.loop-i.moved.items whole c.loop-i.i c.loop-i-test.false c.loop-i.invariant
