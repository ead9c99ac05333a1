use Rattle.std.proofs.Common.{ℕ, List, Ok, refl, sym, ap, subst, ◌∙◌, arith}
use Rattle.vlog_proc.specs.Faults.{Or_fault, Answers}
use Rattle.vlog_proc.specs.Paths.{item_walk, walk}
use Rattle.vlog_proc.proofs.Steps.{test_stops, first_stops, side_ends, selector_stops, items_stop, case_ends, turn_more, turn_stops, turn_end, item_more, item_stops, item_end, item_ok, labels_stop, body_stops}
use Rattle.vlog_proc.proofs.paths.+walking.Goals as goal

pub in_turn-loop-s-preserved : goal.in_turn-loop-s-preserved
in_turn-loop-s-preserved t c =
    turn_more (walk c.args.design.now c.args.bits.now.keys) c.args.ss.now c.loop-s.s-index c.s-item.result c.loop-s.done.keys _ _ (omega arith) c.s-item.is c.loop-s.invariant c.in-Ok.ensures

pub in_turn-returns-in-Err : goal.in_turn-returns-in-Err
in_turn-returns-in-Err t c =
    turn_stops (walk c.args.design.now c.args.bits.now.keys) c.args.ss.now c.loop-s.s-index c.s-item.result c.loop-s.done.keys _ _ (omega arith) c.s-item.is c.loop-s.invariant c.in-Err.ensures

pub in_turn-returns : goal.in_turn-returns
in_turn-returns t c = turn_end (walk c.args.design.now c.args.bits.now.keys) c.args.ss.now c.loop-s.s-index c.loop-s.done.keys _ (omega arith) c.loop-s.invariant

pub together-returns-in-Err : goal.together-returns-in-Err
together-returns-in-Err t c =
    item_stops (item_walk c.args.design.now c.args.bits.now.keys (walk c.args.design.now c.args.bits.now.keys)) c.args.arms.now c.loop-arm.arm-index c.arm-item.result _ c.args.done.now.keys _ _ (omega arith) c.arm-item.is c.loop-arm.invariant
    (labels_stop c.args.design.now c.args.bits.now.keys c.arm-item.result c.as_slice.result.now c.args.done.now.keys _ c.as_slice.ensures c.in-Err.ensures)

pub together-returns-in-Err-walk : goal.together-returns-in-Err-walk
together-returns-in-Err-walk t c =
    item_stops (item_walk c.args.design.now c.args.bits.now.keys (walk c.args.design.now c.args.bits.now.keys)) c.args.arms.now c.loop-arm.arm-index c.arm-item.result _ c.args.done.now.keys _ _ (omega arith) c.arm-item.is c.loop-arm.invariant
    (body_stops c.args.design.now c.args.bits.now.keys c.arm-item.result c.as_slice.result.now c.get.result.now c.args.done.now.keys _ _ c.as_slice.ensures c.get.ensures c.in-Ok.ensures c.in-Err-walk.ensures)

pub together-loop-arm-preserved : goal.together-loop-arm-preserved
together-loop-arm-preserved t c =
    item_more (item_walk c.args.design.now c.args.bits.now.keys (walk c.args.design.now c.args.bits.now.keys)) c.args.arms.now c.loop-arm.arm-index c.arm-item.result _ c.args.done.now.keys _ _ _ (omega arith) c.arm-item.is c.loop-arm.invariant
    (item_ok c.args.design.now c.args.bits.now.keys c.arm-item.result c.as_slice.result.now c.get.result.now c.args.done.now.keys _ _ c.as_slice.ensures c.get.ensures c.in-Ok.ensures c.in-Ok-walk.ensures)
    c.in-Ok-joined.ensures

pub together-returns-in-Ok-or_done : goal.together-returns-in-Ok-or_done
together-returns-in-Ok-or_done t c =
    item_end (item_walk c.args.design.now c.args.bits.now.keys (walk c.args.design.now c.args.bits.now.keys)) c.args.arms.now c.loop-arm.arm-index _ c.args.done.now.keys _ (omega arith) c.loop-arm.invariant ∙ ap Ok (sym c.in-Ok-or_done.ensures)

pub walk-returns-in-Err : goal.walk-returns-in-Err
walk-returns-in-Err t c = test_stops c.args.design.now c.args.bits.now.keys c.args.s.now _ _ _ _ _ c.args.done.now.keys _ c.in-If.is refl c.in-Err.ensures

pub walk-returns-in-Err-walk : goal.walk-returns-in-Err-walk
walk-returns-in-Err-walk t c = first_stops c.args.design.now c.args.bits.now.keys c.args.s.now _ _ _ _ _ _ c.args.done.now.keys _ _ c.in-If.is refl c.get.ensures c.in-Ok.ensures c.in-Err-walk.ensures

pub walk-returns-in-Ok-walk : goal.walk-returns-in-Ok-walk
walk-returns-in-Ok-walk t c =
    subst (λ (z : Or_fault (List ℕ)). Answers (λ (u : Unit {0}). c.side.new.done.keys) c.side.result z)
    (side_ends c.args.design.now c.args.bits.now.keys c.args.s.now _ _ _ _ _ _ _ c.args.done.now.keys _ _ c.in-If.is refl c.get.ensures refl c.in-Ok.ensures c.in-Ok-walk.ensures) c.side.ensures

pub walk-returns-in-Err-tested : goal.walk-returns-in-Err-tested
walk-returns-in-Err-tested t c = selector_stops c.args.design.now c.args.bits.now.keys c.args.s.now _ _ _ _ _ c.args.done.now.keys _ c.in-Case.is refl c.in-Err-tested.ensures

pub walk-returns-in-Err-together : goal.walk-returns-in-Err-together
walk-returns-in-Err-together t c = items_stop c.args.design.now c.args.bits.now.keys c.args.s.now _ _ _ _ _ _ c.args.done.now.keys _ _ c.in-Case.is refl c.as_slice-arms.ensures c.in-Ok-tested.ensures c.in-Err-together.ensures

pub walk-returns-in-Ok-together : goal.walk-returns-in-Ok-together
walk-returns-in-Ok-together t c =
    subst (λ (z : Or_fault (List ℕ)). Answers (λ (u : Unit {0}). c.settle.new.done.keys) c.settle.result z)
    (case_ends c.args.design.now c.args.bits.now.keys c.args.s.now _ _ _ _ _ _ _ c.args.done.now.keys _ _ c.in-Case.is refl c.as_slice-arms.ensures c.as_slice-arms.ensures c.in-Ok-tested.ensures c.in-Ok-together.ensures) c.settle.ensures
