use Rattle.std.proofs.Common.{arith}
use Rattle.elab_sound.specs.Sound.{gate_checked}
use Rattle.elab_sound.proofs.Chains.{one_more, one_stops, all_done}
use Rattle.elab_sound.proofs.designs.gates.Goals as goal

pub loop-one-preserved : goal.loop-one-preserved
loop-one-preserved c = one_more (gate_checked c.args.design.now) _ _ c.args.gates.now c.loop-one.one-index c.one-item.result (omega arith) c.one-item.is c.loop-one.invariant c.in-Ok.ensures

pub returns-in-Err : goal.returns-in-Err
returns-in-Err c = one_stops (gate_checked c.args.design.now) _ _ c.args.gates.now c.loop-one.one-index c.one-item.result (omega arith) c.one-item.is c.loop-one.invariant c.in-Err.ensures

pub returns : goal.returns
returns c = all_done (gate_checked c.args.design.now) _ c.args.gates.now c.loop-one.one-index (omega arith) c.loop-one.invariant
