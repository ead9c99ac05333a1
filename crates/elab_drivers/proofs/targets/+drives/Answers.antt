use Rattle.std.proofs.Common.{arith}
use Rattle.vlog_tree.specs.declared.expr.Expr.{Expr}
use Rattle.elab_names.specs.Meanings.{frames_of}
use Rattle.elab_drivers.specs.Targets.{may_drive}
use Rattle.elab_scopes.proofs.ThreadLemmas.{one_more, one_stops, all_done}
use Rattle.elab_drivers.proofs.targets.+drives.Goals as goal

pub all_may_drive-loop-member-preserved : goal.all_may_drive-loop-member-preserved
all_may_drive-loop-member-preserved t c = one_more (λ (u : Unit {0}) (x : Expr). may_drive (frames_of c.args.scope.now) x) tt tt tt c.args.members.now c.loop-member.member-index c.member-item.result (omega arith) c.member-item.is c.loop-member.invariant c.in-Ok.ensures

pub all_may_drive-returns-in-Err : goal.all_may_drive-returns-in-Err
all_may_drive-returns-in-Err t c = one_stops (λ (u : Unit {0}) (x : Expr). may_drive (frames_of c.args.scope.now) x) tt tt c.in-Err.fault c.args.members.now c.loop-member.member-index c.member-item.result (omega arith) c.member-item.is c.loop-member.invariant c.in-Err.ensures

pub all_may_drive-returns : goal.all_may_drive-returns
all_may_drive-returns t c = all_done (λ (u : Unit {0}) (x : Expr). may_drive (frames_of c.args.scope.now) x) tt tt c.args.members.now c.loop-member.member-index (omega arith) c.loop-member.invariant
