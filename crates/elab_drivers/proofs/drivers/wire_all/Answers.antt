use Rattle.std.proofs.Common.{arith}
use Rattle.elab_drivers.specs.Drafts.{draft_of}
use Rattle.elab_drivers.specs.Drivers.{wired}
use Rattle.elab_scopes.proofs.ThreadLemmas.{one_more, one_stops, all_done}
use Rattle.elab_drivers.proofs.drivers.wire_all.Goals as goal

pub loop-net-preserved : goal.loop-net-preserved
loop-net-preserved c = one_more (wired) (draft_of c.loop-net.d) (draft_of c.wire.new.d) (draft_of c.args.d.now) c.args.nets.now c.loop-net.net-index c.net-item.result (omega arith) c.net-item.is c.loop-net.invariant c.in-Ok.ensures

pub returns-in-Err : goal.returns-in-Err
returns-in-Err c = one_stops (wired) (draft_of c.loop-net.d) (draft_of c.args.d.now) c.in-Err.fault c.args.nets.now c.loop-net.net-index c.net-item.result (omega arith) c.net-item.is c.loop-net.invariant c.in-Err.ensures

pub returns : goal.returns
returns c = all_done (wired) (draft_of c.loop-net.d) (draft_of c.args.d.now) c.args.nets.now c.loop-net.net-index (omega arith) c.loop-net.invariant
