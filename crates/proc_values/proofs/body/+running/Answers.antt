use Rattle.std.proofs.Common.{◌≡◌, ◌-◌, refl, sym, ap, ◌∙◌, arith, rules, List, map}
use Rattle.vlog_tree.specs.declared.stmt.Arm.{Arm}
use Rattle.vlog_tree.specs.declared.stmt.Stmt.{Stmt}
use Rattle.rdc_tern.specs.declared.value.Tern.{Tern}
use Rattle.design_form.specs.Extents.{shape_of}
use Rattle.proc_values.specs.Runs.{Run, chosen}
use Rattle.proc_cases.specs.Full.{labels_of}
use Rattle.proc_values.specs.Cases.{case_run, with_body}
use Rattle.proc_values.specs.Labels.{any_hit}
use Rattle.proc_values.specs.Bodies.{run}
use Rattle.proc_values.specs.Marks.{scattered}
use Rattle.proc_values.proofs.ChangeLemmas.{moves_on, restored}
use Rattle.proc_values.proofs.RunLemmas.{ok_as, ok_sides, order_more, order_end, runs_as, side_runs, long_values}
use Rattle.proc_values.proofs.SizeLemmas.{covers_all}
use Rattle.proc_values.proofs.CaseLemmas.{if_none, if_some, case_is, chain_end, chain_item, chain_skip, side_as}
use Rattle.proc_values.proofs.body.+running.Goals as goal

pub tried-returns-clause-now : goal.tried-returns-clause-now
tried-returns-clause-now t c =
    c.put_side.ensures.now ∙ ap (λ (v : List Tern). scattered c.args.reads.now v c.run.new.now) c.in_ok-before.ensures.now ∙ restored c.args.reads.now c.args.now.now c.run.new.now c.in-Ok.ensures.now_moves

pub tried-returns-clause-next : goal.tried-returns-clause-next
tried-returns-clause-next t c =
    c.put_side.ensures.next ∙ ap (λ (v : List Tern). scattered c.args.bits.now v c.run.new.next) c.in_ok-before.ensures.next ∙ restored c.args.bits.now c.args.next.now c.run.new.next c.in-Ok.ensures.next_moves

pub choose-returns : goal.choose-returns
choose-returns t c one first =
    let reads = c.args.reads.now in
    let bits = c.args.bits.now in
    let r : Run = record { now = c.args.now.now; next = c.args.next.now } in
    let x : Run = run c.args.design.now reads bits c.args.other.now r in
    ok_as reads bits (λ _. chosen reads bits c.args.select one x) (λ y. chosen reads bits c.args.select one (run c.args.design.now reads bits c.args.other.now y)) c.args.now.now c.args.next.now c.settle.new.now c.settle.new.next c.settle.result refl
    ((rw (c.in-Ok.ensures.now, c.in-Ok.ensures.next) at c.settle.ensures) one x first c.in-Ok.ensures.side)

pub run_all-returns : goal.run_all-returns
run_all-returns t c = record {
  same = order_end (run c.args.design.now c.args.reads.now c.args.bits.now) c.args.ss.now c.loop-i.i (record { now = c.loop-i.now; next = c.loop-i.next }) _ c.loop-i-test.false c.loop-i.invariant.left;
  now_moves = c.loop-i.invariant.now_moves;
  next_moves = c.loop-i.invariant.next_moves;
}

pub run_all-loop-i-preserved : goal.run_all-loop-i-preserved
run_all-loop-i-preserved t c = record {
  left = order_more (run c.args.design.now c.args.reads.now c.args.bits.now) c.args.ss.now c.loop-i.i c.index-ss-i.result (record { now = c.loop-i.now; next = c.loop-i.next }) (record { now = c.run.new.now; next = c.run.new.next }) _ c.loop-i-test.true c.index-ss-i.is c.in-Ok.ensures.same c.loop-i.invariant.left;
  now_moves = moves_on _ _ _ _ c.loop-i.invariant.now_moves c.in-Ok.ensures.now_moves;
  next_moves = moves_on _ _ _ _ c.loop-i.invariant.next_moves c.in-Ok.ensures.next_moves;
}

pub run-returns-in-None : goal.run-returns-in-None
run-returns-in-None t c =
    let d = c.args.design.now in
    let reads = c.args.reads.now in
    let bits = c.args.bits.now in
    let r : Run = record { now = c.args.now.now; next = c.args.next.now } in
    let one : Run = run d reads bits c.get.result.now r in
    ok_as reads bits (λ x. chosen reads bits c.in_ok-hit-in-If.hit one x) (run d reads bits c.args.s.now) c.args.now.now c.args.next.now c.keep.new.now c.keep.new.next c.keep.result
    (if_none d reads bits c.args.s.now _ c.in-If.test c.in-If.first c.get.result.now c.in-If.other r c.in_ok-hit-in-If.hit c.in-If.is c.in-None.is c.get.ensures c.in_ok-hit-in-If.ensures)
    ((rw (c.in_ok-first-in-If.ensures.now, c.in_ok-first-in-If.ensures.next) at c.keep.ensures) one c.in_ok-first-in-If.ensures.side)

pub run-returns-in-If : goal.run-returns-in-If
run-returns-in-If t c =
    let d = c.args.design.now in
    let reads = c.args.reads.now in
    let bits = c.args.bits.now in
    let r : Run = record { now = c.args.now.now; next = c.args.next.now } in
    let one : Run = run d reads bits c.get.result.now r in
    ok_as reads bits (λ x. chosen reads bits c.in_ok-hit-in-If.hit one (run d reads bits c.get-in-Some.result.now x)) (run d reads bits c.args.s.now) c.args.now.now c.args.next.now c.choose.new.now c.choose.new.next c.choose.result
    (if_some d reads bits c.args.s.now _ c.in-If.test c.in-If.first c.get.result.now c.in-Some.other c.get-in-Some.result.now c.in-If.other r c.in_ok-hit-in-If.hit c.in-If.is c.in-Some.is c.get.ensures c.get-in-Some.ensures c.in_ok-hit-in-If.ensures)
    ((rw (c.in_ok-first-in-If.ensures.now, c.in_ok-first-in-If.ensures.next) at c.choose.ensures) one c.in_ok-first-in-If.ensures.side)

pub run-returns-in-Case : goal.run-returns-in-Case
run-returns-in-Case t c =
    let d = c.args.design.now in
    let reads = c.args.reads.now in
    let bits = c.args.bits.now in
    let r : Run = record { now = c.args.now.now; next = c.args.next.now } in
    let choice = c.in_ok-choice-in-Case.choice in
    ok_as reads bits (λ x. case_run reads bits (any_hit d x.now choice.how (shape_of choice.context) choice.word.items) c.standing-at.result (map (with_body (run d reads bits)) c.as_slice-arms.result.now) x) (run d reads bits c.args.s.now)
    c.args.now.now c.args.next.now c.run_case.new.now c.run_case.new.next c.run_case.result
    (case_is d reads bits c.args.s.now _ c.in-Case.how c.in-Case.selector c.in-Case.arms c.as_slice-arms.result.now r choice.how (shape_of choice.context) choice.word.items c.in_ok-is_full-in-Case.field-0 c.standing-at.result
    c.in-Case.is c.as_slice-arms.ensures c.in_ok-choice-in-Case.ensures.how c.in_ok-choice-in-Case.ensures.shape c.in_ok-choice-in-Case.ensures.word c.in_ok-is_full-in-Case.ensures c.standing-at.ensures)
    c.run_case.ensures

pub run_case-returns : goal.run_case-returns
run_case-returns t c =
    let reads = c.args.reads.now in
    let bits = c.args.bits.now in
    let f : Run → Run = λ r. case_run reads bits (any_hit c.args.design.now r.now c.args.choice.now.how (shape_of c.args.choice.now.context) c.args.choice.now.word.items) c.args.at (map (with_body (run c.args.design.now reads bits)) c.args.arms.now) r in
    let r : Run = record { now = c.args.now.now; next = c.args.next.now } in
    runs_as reads bits (λ _. f r) f c.args.now.now c.args.next.now c.put_side.new.now c.put_side.new.next refl
    (side_runs reads bits (f r) c.args.now.now c.args.next.now c.in-Ok.side.seen.items c.in-Ok.side.becomes.items c.put_side.new.now c.put_side.new.next c.in-Ok.ensures.side
    (c.put_side.ensures.now ∙ ap (scattered reads c.in-Ok.side.seen.items) c.in-Ok.ensures.now) (c.put_side.ensures.next ∙ ap (scattered bits c.in-Ok.side.becomes.items) c.in-Ok.ensures.next))

pub tried_item-returns-clause-side : goal.tried_item-returns-clause-side
tried_item-returns-clause-side t c other rest =
    let reads = c.args.reads.now in
    let bits = c.args.bits.now in
    let r : Run = record { now = c.args.now.now; next = c.args.next.now } in
    ok_sides reads bits r (run c.args.design.now reads bits c.args.body.now r) other c.in_ok-hit.hit (any_hit c.args.design.now c.args.now.now c.args.choice.now.how (shape_of c.args.choice.now.context) c.args.choice.now.word.items c.args.labels.now) _ _ _ _ c.mixed_sides.result c.in-Ok.ensures.side rest
    (rw c.as_slice.ensures.value at c.in_ok-hit.ensures) c.mixed_sides.ensures.now c.mixed_sides.ensures.next

pub tried_items-loop-left-init : goal.tried_items-loop-left-init
tried_items-loop-left-init t c = record {
  side = side_as _ _ _ _ _ _ _ (chain_end c.args.reads.now c.args.bits.now _ c.args.at (run c.args.design.now c.args.reads.now c.args.bits.now) c.args.arms.now _ _) c.in-Ok.ensures.side;
  now = c.in-Ok.ensures.now;
  next = c.in-Ok.ensures.next;
  inside = omega arith;
  seen_long = long_values _ c.args.reads.now _ c.in-Ok.ensures.side.now_is;
  becomes_long = long_values _ c.args.bits.now _ c.in-Ok.ensures.side.next_is;
  ready = rw (c.in-Ok.ensures.now, c.in-Ok.ensures.next) c.requires.ready;
}

pub tried_items-loop-left-preserved-then-not-is_at : goal.tried_items-loop-left-preserved-then-not-is_at
tried_items-loop-left-preserved-then-not-is_at t c =
    let d = c.args.design.now in
    let reads = c.args.reads.now in
    let bits = c.args.bits.now in
    let r : Run = record { now = c.args.now.now; next = c.args.next.now } in
    let side = (rw (c.loop-left.invariant.now, c.loop-left.invariant.next, c.get-body.ensures ∙ ap (λ (m : Arm Stmt). m.body) (sym c.index-arms-left.is), c.labels_at-labels.ensures.labels c.index-arms-left.result c.index-arms-left.is) at c.in-Ok-tried_item.ensures.side) _ c.loop-left.invariant.side in
    record {
      side = side_as _ _ _ _ _ _ _ (chain_item reads bits _ c.args.at (run d reads bits) c.args.arms.now (c.loop-left.left - 1) c.loop-left.left c.index-arms-left.result _ r (omega arith) c.loop-left.invariant.inside c.index-arms-left.is (sym c.is_at.ensures ∙ c.if-not-is_at.true)) side;
      now = c.in-Ok-tried_item.ensures.now ∙ c.loop-left.invariant.now;
      next = c.in-Ok-tried_item.ensures.next ∙ c.loop-left.invariant.next;
      inside = omega (arith, c.loop-left.invariant.inside);
      seen_long = long_values _ reads _ side.now_is;
      becomes_long = long_values _ bits _ side.next_is;
      ready = rw (c.in-Ok-tried_item.ensures.now, c.in-Ok-tried_item.ensures.next) c.loop-left.invariant.ready;
    }

pub tried_items-loop-left-preserved : goal.tried_items-loop-left-preserved
tried_items-loop-left-preserved t c =
    let d = c.args.design.now in
    let reads = c.args.reads.now in
    let bits = c.args.bits.now in
    let r : Run = record { now = c.args.now.now; next = c.args.next.now } in
    record {
      side = side_as _ _ _ _ _ _ _ (chain_skip reads bits _ c.args.at (run d reads bits) c.args.arms.now (c.loop-left.left - 1) c.loop-left.left c.index-arms-left.result _ r (omega arith) c.loop-left.invariant.inside c.index-arms-left.is (sym c.is_at.ensures ∙ c.if-not-is_at.false)) c.loop-left.invariant.side;
      now = c.loop-left.invariant.now;
      next = c.loop-left.invariant.next;
      inside = omega (arith, c.loop-left.invariant.inside);
      seen_long = c.loop-left.invariant.seen_long;
      becomes_long = c.loop-left.invariant.becomes_long;
      ready = c.loop-left.invariant.ready;
    }
