use Rattle.std.proofs.Common.{arith}
use Rattle.std.proofs.lemmas.List.{get_or_default}
use Rattle.vlog_proc.specs.Lists.{listed}
use Rattle.vlog_proc.proofs.Chains.{one_more, one_stops, all_done}
use Rattle.vlog_proc.proofs.events.all_listed.Goals as goal

pub loop-touch-preserved : goal.loop-touch-preserved
loop-touch-preserved c = one_more (listed c.args.design.now.signals c.args.bits.now.keys c.args.cover.now.keys) _ _ c.args.touches.now c.loop-touch.touch-index _ (omega arith) (get_or_default _ _ _ _ c.loop-touch-test.true) c.loop-touch.invariant c.in-Ok.ensures

pub returns-in-Err : goal.returns-in-Err
returns-in-Err c = one_stops (listed c.args.design.now.signals c.args.bits.now.keys c.args.cover.now.keys) _ _ c.args.touches.now c.loop-touch.touch-index _ (omega arith) (get_or_default _ _ _ _ c.loop-touch-test.true) c.loop-touch.invariant c.in-Err.ensures

pub returns : goal.returns
returns c = all_done (listed c.args.design.now.signals c.args.bits.now.keys c.args.cover.now.keys) _ c.args.touches.now c.loop-touch.touch-index (omega arith) c.loop-touch.invariant
