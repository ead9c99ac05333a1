use Rattle.std.proofs.Common.{sym, ap, ◌∙◌, arith}
use Rattle.vlog_proc.specs.Assigns.{rights, rule}
use Rattle.vlog_proc.proofs.Chains.{one_more, one_stops, all_done, same_fault}
use Rattle.vlog_proc.proofs.assigns.+judging.Goals as goal

pub all_rights-loop-s-preserved : goal.all_rights-loop-s-preserved
all_rights-loop-s-preserved t c = one_more (λ s. rights (rule c.args.design.now.signals c.args.kind.now.edged c.args.kind.now.variables) s c.args.running.now) _ _ c.args.ss.now c.loop-s.s-index c.s-item.result (omega arith) c.s-item.is c.loop-s.invariant c.in-Ok.ensures

pub all_rights-returns-in-Err : goal.all_rights-returns-in-Err
all_rights-returns-in-Err t c = one_stops (λ s. rights (rule c.args.design.now.signals c.args.kind.now.edged c.args.kind.now.variables) s c.args.running.now) _ _ c.args.ss.now c.loop-s.s-index c.s-item.result (omega arith) c.s-item.is c.loop-s.invariant c.in-Err.ensures

pub all_rights-returns : goal.all_rights-returns
all_rights-returns t c = all_done (λ s. rights (rule c.args.design.now.signals c.args.kind.now.edged c.args.kind.now.variables) s c.args.running.now) _ c.args.ss.now c.loop-s.s-index (omega arith) c.loop-s.invariant

pub item_rights-loop-arm-preserved : goal.item_rights-loop-arm-preserved
item_rights-loop-arm-preserved t c = one_more (λ arm. rights (rule c.args.design.now.signals c.args.kind.now.edged c.args.kind.now.variables) arm.body c.args.running.now) _ _ c.args.arms.now c.loop-arm.arm-index c.arm-item.result (omega arith) c.arm-item.is c.loop-arm.invariant (ap (λ s. rights (rule c.args.design.now.signals c.args.kind.now.edged c.args.kind.now.variables) s c.args.running.now) (sym c.get.ensures) ∙ c.in-Ok.ensures)

pub item_rights-returns-in-Err : goal.item_rights-returns-in-Err
item_rights-returns-in-Err t c = one_stops (λ arm. rights (rule c.args.design.now.signals c.args.kind.now.edged c.args.kind.now.variables) arm.body c.args.running.now) _ _ c.args.arms.now c.loop-arm.arm-index c.arm-item.result (omega arith) c.arm-item.is c.loop-arm.invariant (same_fault _ _ _ (ap (λ s. rights (rule c.args.design.now.signals c.args.kind.now.edged c.args.kind.now.variables) s c.args.running.now) (sym c.get.ensures)) c.in-Err.ensures)

pub item_rights-returns : goal.item_rights-returns
item_rights-returns t c = all_done (λ arm. rights (rule c.args.design.now.signals c.args.kind.now.edged c.args.kind.now.variables) arm.body c.args.running.now) _ c.args.arms.now c.loop-arm.arm-index (omega arith) c.loop-arm.invariant
