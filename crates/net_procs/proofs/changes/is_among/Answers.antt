use Rattle.net_procs.proofs.NodeSteps.{among_here, among_later, among_end}
use Rattle.net_procs.proofs.changes.is_among.Goals as goal

pub returns-then-bits-i-clause-among : goal.returns-then-bits-i-clause-among
returns-then-bits-i-clause-among c = among_here c.args.bits.now c.args.bit c.loop-i.i _ c.loop-i-test.true c.if-bits-i.true c.loop-i.invariant

pub loop-i-preserved : goal.loop-i-preserved
loop-i-preserved c = among_later c.args.bits.now c.args.bit c.loop-i.i _ c.loop-i-test.true c.if-bits-i.false c.loop-i.invariant

pub returns-clause-among : goal.returns-clause-among
returns-clause-among c = among_end c.args.bits.now c.args.bit c.loop-i.i c.loop-i-test.false c.loop-i.invariant
