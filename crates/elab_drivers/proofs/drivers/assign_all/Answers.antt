use Rattle.std.proofs.Common.{arith}
use Rattle.elab_drivers.specs.Drafts.{draft_of}
use Rattle.elab_drivers.specs.Drivers.{assigns}
use Rattle.elab_scopes.proofs.ThreadLemmas.{one_more, one_stops, all_done}
use Rattle.elab_drivers.proofs.drivers.assign_all.Goals as goal

pub loop-assignment-preserved : goal.loop-assignment-preserved
loop-assignment-preserved c = one_more (assigns) (draft_of c.loop-assignment.d) (draft_of c.assign.new.d) (draft_of c.args.d.now) c.args.assignments.now c.loop-assignment.assignment-index c.assignment-item.result (omega arith) c.assignment-item.is c.loop-assignment.invariant c.in-Ok.ensures

pub returns-in-Err : goal.returns-in-Err
returns-in-Err c = one_stops (assigns) (draft_of c.loop-assignment.d) (draft_of c.args.d.now) c.in-Err.fault c.args.assignments.now c.loop-assignment.assignment-index c.assignment-item.result (omega arith) c.assignment-item.is c.loop-assignment.invariant c.in-Err.ensures

pub returns : goal.returns
returns c = all_done (assigns) (draft_of c.loop-assignment.d) (draft_of c.args.d.now) c.args.assignments.now c.loop-assignment.assignment-index (omega arith) c.loop-assignment.invariant
