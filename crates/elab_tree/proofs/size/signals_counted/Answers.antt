use Rattle.std.proofs.Common.{arith}
use Rattle.elab_scopes.proofs.ThreadLemmas.{one_more, one_stops, all_done}
use Rattle.elab_tree.specs.Sizes.{signal_counted}
use Rattle.elab_tree.proofs.size.signals_counted.Goals as goal

pub loop-one-preserved : goal.loop-one-preserved
loop-one-preserved c = one_more (signal_counted c.args.place) c.loop-one.size c.in-Ok.now c.args.size c.args.more.now c.loop-one.one-index c.one-item.result (omega arith) c.one-item.is c.loop-one.invariant c.in-Ok.ensures

pub returns-in-Err : goal.returns-in-Err
returns-in-Err c = one_stops (signal_counted c.args.place) c.loop-one.size c.args.size c.in-Err.fault c.args.more.now c.loop-one.one-index c.one-item.result (omega arith) c.one-item.is c.loop-one.invariant c.in-Err.ensures

pub returns : goal.returns
returns c = all_done (signal_counted c.args.place) c.loop-one.size c.args.size c.args.more.now c.loop-one.one-index (omega arith) c.loop-one.invariant
