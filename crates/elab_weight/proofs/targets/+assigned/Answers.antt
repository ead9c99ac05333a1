use Rattle.std.proofs.Common.{ap, ◌∙◌, arith}
use Rattle.vlog_tree.specs.declared.stmt.Arm.{Arm}
use Rattle.vlog_tree.specs.declared.stmt.Stmt.{Stmt}
use Rattle.elab_weight.specs.TargetBits.{assigned_bits, once}
use Rattle.elab_weight.proofs.OnceLemmas.{more-next, more-end}
use Rattle.elab_weight.proofs.targets.+assigned.Goals as goal

pub put_arms-loop-arm-preserved : goal.put_arms-loop-arm-preserved
put_arms-loop-arm-preserved t c =
    more-next (λ (a : Arm Stmt). assigned_bits c.args.design.now a.body) c.args.arms.now c.loop-arm.arm-index c.arm-item.result _ _ _ c.loop-arm-test.true c.arm-item.is
    (c.in-Ok.ensures ∙ ap (λ (s : Stmt). once c.loop-arm.bits.keys (assigned_bits c.args.design.now s)) c.get.ensures) c.loop-arm.invariant

pub put_arms-returns : goal.put_arms-returns
put_arms-returns t c = more-end (λ (a : Arm Stmt). assigned_bits c.args.design.now a.body) c.args.arms.now c.loop-arm.arm-index _ _ (omega arith) c.loop-arm.invariant

pub put_each-loop-s-preserved : goal.put_each-loop-s-preserved
put_each-loop-s-preserved t c =
    more-next (assigned_bits c.args.design.now) c.args.ss.now c.loop-s.s-index c.s-item.result _ _ _ c.loop-s-test.true c.s-item.is c.in-Ok.ensures c.loop-s.invariant

pub put_each-returns : goal.put_each-returns
put_each-returns t c = more-end (assigned_bits c.args.design.now) c.args.ss.now c.loop-s.s-index _ _ (omega arith) c.loop-s.invariant
