use Rattle.std.proofs.Common.{arith}
use Rattle.elab_drivers.specs.Drafts.{draft_of}
use Rattle.elab_drivers.specs.Drivers.{gated}
use Rattle.elab_scopes.proofs.ThreadLemmas.{one_more, one_stops, all_done}
use Rattle.elab_drivers.proofs.gates.gate_all.Goals as goal

pub loop-one-preserved : goal.loop-one-preserved
loop-one-preserved c = one_more (gated c.args.kind) (draft_of c.loop-one.d) (draft_of c.gate.new.d) (draft_of c.args.d.now) c.args.gates.now c.loop-one.one-index c.one-item.result (omega arith) c.one-item.is c.loop-one.invariant c.in-Ok.ensures

pub returns-in-Err : goal.returns-in-Err
returns-in-Err c = one_stops (gated c.args.kind) (draft_of c.loop-one.d) (draft_of c.args.d.now) c.in-Err.fault c.args.gates.now c.loop-one.one-index c.one-item.result (omega arith) c.one-item.is c.loop-one.invariant c.in-Err.ensures

pub returns : goal.returns
returns c = all_done (gated c.args.kind) (draft_of c.loop-one.d) (draft_of c.args.d.now) c.args.gates.now c.loop-one.one-index (omega arith) c.loop-one.invariant
