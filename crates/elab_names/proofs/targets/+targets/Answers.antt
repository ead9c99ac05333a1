use Rattle.std.proofs.Common.{arith}
use Rattle.elab_names.specs.Targets.{target_in}
use Rattle.elab_names.specs.Meanings.{frames_of}
use Rattle.elab_names.proofs.Lists.{more-next, more-fault, more-end}
use Rattle.elab_names.proofs.targets.+targets.Goals as goal

pub targets_in-returns-in-Err : goal.targets_in-returns-in-Err
targets_in-returns-in-Err t c = more-fault (target_in (frames_of c.args.scope.now)) c.loop-member.out c.args.members.now c.loop-member.member-index c.member-item.result c.in-Err.fault _ c.loop-member-test.true c.member-item.is c.in-Err.ensures c.loop-member.invariant

pub targets_in-loop-member-preserved : goal.targets_in-loop-member-preserved
targets_in-loop-member-preserved t c = more-next (target_in (frames_of c.args.scope.now)) c.loop-member.out c.push.new.self c.args.members.now c.loop-member.member-index c.member-item.result c.in-Ok.member _ c.loop-member-test.true c.member-item.is c.in-Ok.ensures c.in-Ok-push.ensures.ok c.loop-member.invariant

pub targets_in-returns : goal.targets_in-returns
targets_in-returns t c = more-end (target_in (frames_of c.args.scope.now)) c.loop-member.out c.args.members.now c.loop-member.member-index _ (omega arith) c.loop-member.invariant
