use Rattle.std.proofs.Common.{arith, ap, length, ◌∙◌, ◌≡◌, ◌<◌}
use Rattle.proc_values.proofs.RunLemmas.{default_here, default_next, default_none}
use Rattle.proc_values.proofs.cases.default_of.Goals as goal

pub returns-then-is_empty : goal.returns-then-is_empty
returns-then-is_empty c =
    let none : length c.index-arms-i.result.labels ≡ 0 = grind (arith, c.as_slice.ensures, c.is_empty.ensures, c.if-is_empty.true) in
    default_here c.args.arms.now c.loop-i.i c.index-arms-i.result _ c.loop-i-test.true c.index-arms-i.is none c.loop-i.invariant

pub loop-i-preserved : goal.loop-i-preserved
loop-i-preserved c =
    let some : 0 < length c.index-arms-i.result.labels = grind (arith, c.as_slice.ensures, c.is_empty.ensures, c.if-is_empty.false) in
    default_next c.args.arms.now c.loop-i.i c.index-arms-i.result _ c.loop-i-test.true c.index-arms-i.is some c.loop-i.invariant

pub returns : goal.returns
returns c = default_none c.args.arms.now c.loop-i.i _ c.loop-i-test.false c.loop-i.invariant
