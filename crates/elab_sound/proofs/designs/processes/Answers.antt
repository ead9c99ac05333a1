use Rattle.std.proofs.Common.{arith}
use Rattle.elab_sound.specs.Sound.{process_checked}
use Rattle.elab_sound.proofs.Chains.{one_more, one_stops, all_done}
use Rattle.elab_sound.proofs.designs.processes.Goals as goal

pub loop-one-preserved : goal.loop-one-preserved
loop-one-preserved c = one_more (process_checked c.args.design.now) _ _ c.args.processes.now c.loop-one.one-index c.one-item.result (omega arith) c.one-item.is c.loop-one.invariant c.in-Ok.ensures

pub returns-in-Err : goal.returns-in-Err
returns-in-Err c = one_stops (process_checked c.args.design.now) _ _ c.args.processes.now c.loop-one.one-index c.one-item.result (omega arith) c.one-item.is c.loop-one.invariant c.in-Err.ensures

pub returns : goal.returns
returns c = all_done (process_checked c.args.design.now) _ c.args.processes.now c.loop-one.one-index (omega arith) c.loop-one.invariant
