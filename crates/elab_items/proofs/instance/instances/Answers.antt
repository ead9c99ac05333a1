use Rattle.std.proofs.Common.{arith}
use Rattle.elab_items.specs.Instances.{instanced}
use Rattle.elab_items.specs.Tables.{lib_of, plan_of}
use Rattle.elab_scopes.proofs.ThreadLemmas.{one_more, one_stops, all_done}
use Rattle.elab_items.proofs.instance.instances.Goals as goal

pub loop-one-preserved : goal.loop-one-preserved
loop-one-preserved c = one_more (instanced (lib_of c.args.library.now) c.args.said.prefix.now c.args.said.called.now c.args.said.passed.now) (plan_of c.loop-one.p) (plan_of c.instance.new.p) (plan_of c.args.p.now) c.args.all.now c.loop-one.one-index c.one-item.result (omega arith) c.one-item.is c.loop-one.invariant c.in-Ok.ensures

pub returns-in-Err : goal.returns-in-Err
returns-in-Err c = one_stops (instanced (lib_of c.args.library.now) c.args.said.prefix.now c.args.said.called.now c.args.said.passed.now) (plan_of c.loop-one.p) (plan_of c.args.p.now) c.in-Err.fault c.args.all.now c.loop-one.one-index c.one-item.result (omega arith) c.one-item.is c.loop-one.invariant c.in-Err.ensures

pub returns : goal.returns
returns c = all_done (instanced (lib_of c.args.library.now) c.args.said.prefix.now c.args.said.called.now c.args.said.passed.now) (plan_of c.loop-one.p) (plan_of c.args.p.now) c.args.all.now c.loop-one.one-index (omega arith) c.loop-one.invariant
