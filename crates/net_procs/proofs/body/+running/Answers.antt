use Rattle.std.proofs.Common.{◌-◌, ◌∙◌, Some, None, map, refl, sym, ap, subst, arith, le_trans}
use Rattle.vlog_tree.specs.declared.stmt.Arm.{Arm}
use Rattle.vlog_tree.specs.declared.stmt.Stmt.{Stmt}
use Rattle.design_form.specs.Extents.{shape_of}
use Rattle.design_sizes.specs.Sizes.{case_shape}
use Rattle.proc_cases.specs.Full.{is_full, labels_of}
use Rattle.net_words.specs.Builds.{return}
use Rattle.net_words.proofs.BuildLemmas.{all_left, next, fault, last, done}
use Rattle.net_exprs.proofs.Transport.{same_build}
use Rattle.proc_values.specs.Cases.{standing, with_body}
use Rattle.net_procs.specs.Bodies.{branch, side, run}
use Rattle.net_procs.specs.Cases.{body_at, item}
use Rattle.net_procs.specs.Labels.{any_hit}
use Rattle.net_procs.specs.Ready.{run_of, behind_one, IsFit}
use Rattle.net_procs.proofs.Steps.{nothing_drawn}
use Rattle.net_procs.proofs.FitSteps.{fit_later, fit_same, choice_later}
use Rattle.net_procs.proofs.BodyForms.{form-Empty, form-Block, form-Assign, form-If, form-Either, form-Case, form-For}
use Rattle.net_procs.proofs.BodySteps.{if_fault, one_fault, one_side, two_sides, case_left, order_here, order_whole, none_stands, stands_past, stands, items_first, item_here, item_skipped, items_whole}
use Rattle.net_procs.proofs.body.+running.Goals as goal

-- ---- statements

pub run-returns-in-Empty-clause-builds : goal.run-returns-in-Empty-clause-builds
run-returns-in-Empty-clause-builds t c =
    let f = c.args.frame.now in
    let r = run_of c.args.wires in
    same_build _ _ (form-Empty f.design.now f.reads.now f.bits.now c.args.s.now _ r c.in-Empty.is) (done run_of c.args.wires (all_left (return r) c.args.net.now))

pub run-returns-in-Block-clause-builds : goal.run-returns-in-Block-clause-builds
run-returns-in-Block-clause-builds t c =
    let f = c.args.frame.now in
    same_build _ _ (form-Block f.design.now f.reads.now f.bits.now c.args.s.now _ _ c.in-Block.inner c.as_slice.result.now (run_of c.args.wires) c.in-Block.is c.as_slice.ensures) c.run_all.ensures.builds

pub run-returns-in-Assign-clause-builds : goal.run-returns-in-Assign-clause-builds
run-returns-in-Assign-clause-builds t c =
    let f = c.args.frame.now in
    same_build _ _ (form-Assign f.design.now f.reads.now f.bits.now c.args.s.now _ c.in-Assign.target c.in-Assign.by c.in-Assign.value (run_of c.args.wires) c.in-Assign.is) c.assign.ensures.builds

pub run-returns-in_err-choice-in-If-clause-builds : goal.run-returns-in_err-choice-in-If-clause-builds
run-returns-in_err-choice-in-If-clause-builds t c =
    let f = c.args.frame.now in
    if_fault run_of f.design.now f.reads.now f.bits.now c.args.s.now _ c.in-If.test c.in-If.first c.in-If.other (run_of c.args.wires) c.args.net.now _ _ _ c.in-If.is
    (rw c.as_slice-in-If.ensures.value at c.in_err-choice-in-If.ensures.builds) c.from_residual.ensures

pub run-returns-in_err-one-in-If-clause-builds : goal.run-returns-in_err-one-in-If-clause-builds
run-returns-in_err-one-in-If-clause-builds t c =
    let f = c.args.frame.now in
    one_fault run_of run_of f.design.now f.reads.now f.bits.now c.args.s.now _ c.in-If.test c.in-If.first c.get.result.now c.in-If.other (run_of c.args.wires) c.args.net.now _ _ _ _ _ c.in-If.is c.get.ensures
    (rw c.as_slice-in-If.ensures.value at c.in_ok-choice-in-If.ensures.builds) c.in_err-one-in-If.ensures.builds c.from_residual-in_err-one-in-If.ensures

pub run-returns-in-None-clause-builds : goal.run-returns-in-None-clause-builds
unfolding branch
run-returns-in-None-clause-builds t c =
    let f = c.args.frame.now in
    let r = run_of c.args.wires in
    let first = run f.design.now f.reads.now f.bits.now c.get.result.now in
    same_build _ _ (form-If f.design.now f.reads.now f.bits.now c.args.s.now _ c.in-If.test c.in-If.first c.get.result.now c.in-If.other r c.in-If.is c.in-None.is c.get.ensures)
    (last
    (one_side f.reads.now f.bits.now c.in_ok-choice-in-If.choice (run_of c.in_ok-one-in-If.one) r
    (next _ _
    (next _ _ (all_left (branch f.design.now f.reads.now f.bits.now c.in-If.test first (side None) r) c.args.net.now) (rw c.as_slice-in-If.ensures.value at c.in_ok-choice-in-If.ensures.builds)) c.in_ok-one-in-If.ensures.builds))
    c.chosen.ensures.builds)

pub run-returns-in-If-clause-builds : goal.run-returns-in-If-clause-builds
unfolding branch
run-returns-in-If-clause-builds t c =
    let f = c.args.frame.now in
    let r = run_of c.args.wires in
    let first = run f.design.now f.reads.now f.bits.now c.get.result.now in
    let other = run f.design.now f.reads.now f.bits.now c.get-in-Some.result.now in
    same_build _ _
    (form-Either f.design.now f.reads.now f.bits.now c.args.s.now _ c.in-If.test c.in-If.first c.get.result.now c.in-Some.other c.get-in-Some.result.now c.in-If.other r c.in-If.is c.in-Some.is c.get.ensures c.get-in-Some.ensures)
    (last
    (two_sides f.reads.now f.bits.now c.in_ok-choice-in-If.choice (run_of c.in_ok-one-in-If.one) r other
    (next _ _
    (next _ _ (all_left (branch f.design.now f.reads.now f.bits.now c.in-If.test first (side (Some other)) r) c.args.net.now) (rw c.as_slice-in-If.ensures.value at c.in_ok-choice-in-If.ensures.builds)) c.in_ok-one-in-If.ensures.builds))
    c.run_other.ensures.builds)

pub run-returns-in_err-choice-in-Case-clause-builds : goal.run-returns-in_err-choice-in-Case-clause-builds
run-returns-in_err-choice-in-Case-clause-builds t c =
    let f = c.args.frame.now in
    let d = f.design.now in
    let arms = c.as_slice-arms.result.now in
    let how = c.in-Case.how in
    let selector = c.in-Case.selector in
    same_build _ _ (form-Case d f.reads.now f.bits.now c.args.s.now _ how selector c.in-Case.arms arms (run_of c.args.wires) c.in-Case.is c.as_slice-arms.ensures)
    (fault _ _
    (case_left c.args.net.now d f.reads.now f.bits.now how how selector arms (run_of c.args.wires) (case_shape d selector (labels_of arms)) (is_full d how selector (labels_of arms)) (standing (is_full d how selector (labels_of arms)) arms) refl refl refl refl)
    (rw c.as_slice-nodes.ensures.value at c.in_err-choice-in-Case.ensures.builds) c.from_residual-in_err-choice-in-Case.ensures)

pub run-returns-in-Case-clause-builds : goal.run-returns-in-Case-clause-builds
run-returns-in-Case-clause-builds t c =
    let f = c.args.frame.now in
    let d = f.design.now in
    let arms = c.as_slice-arms.result.now in
    let choice = c.in_ok-choice-in-Case.choice in
    same_build _ _ (form-Case d f.reads.now f.bits.now c.args.s.now _ c.in-Case.how c.in-Case.selector c.in-Case.arms arms (run_of c.args.wires) c.in-Case.is c.as_slice-arms.ensures)
    (last
    (next _ _
    (case_left c.args.net.now d f.reads.now f.bits.now c.in-Case.how choice.how c.in-Case.selector arms (run_of c.args.wires) (shape_of choice.context) c.in_ok-full-in-Case.full c.standing-at.result
    c.in_ok-choice-in-Case.ensures.how c.in_ok-choice-in-Case.ensures.shape c.in_ok-full-in-Case.ensures.value c.standing-at.ensures)
    (rw c.as_slice-nodes.ensures.value at c.in_ok-choice-in-Case.ensures.builds)) c.run_items.ensures.builds)

pub run-returns-clause-builds : goal.run-returns-clause-builds
run-returns-clause-builds t c =
    let f = c.args.frame.now in
    same_build _ _ (form-For f.design.now f.reads.now f.bits.now c.args.s.now _ _ c.in-For.body c.get-in-For.result.now (run_of c.args.wires) c.in-For.is c.get-in-For.ensures) c.run.ensures.builds

-- ---- statements in order

pub run_all-returns-in-Err-clause-builds : goal.run_all-returns-in-Err-clause-builds
run_all-returns-in-Err-clause-builds t c =
    let f = c.args.frame.now in
    fault _ _ (order_here (run f.design.now f.reads.now f.bits.now) c.args.ss.now c.loop-i.i c.index-ss-i.result (run_of c.loop-i.wires) c.loop-i-test.true c.index-ss-i.is c.loop-i.invariant.left) c.in-Err.ensures.builds (refl, refl)

pub run_all-loop-i-preserved : goal.run_all-loop-i-preserved
run_all-loop-i-preserved t c =
    let f = c.args.frame.now in
    record {
      left = next _ _ (order_here (run f.design.now f.reads.now f.bits.now) c.args.ss.now c.loop-i.i c.index-ss-i.result (run_of c.loop-i.wires) c.loop-i-test.true c.index-ss-i.is c.loop-i.invariant.left) c.in-Ok.ensures.builds;
      fits = c.in-Ok.ensures.fits;
      longer = le_trans c.loop-i.invariant.longer c.in-Ok.ensures.longer;
    }

pub run_all-returns-clause-builds : goal.run_all-returns-clause-builds
run_all-returns-clause-builds t c =
    let f = c.args.frame.now in
    done run_of c.loop-i.wires (order_whole (run f.design.now f.reads.now f.bits.now) c.args.ss.now c.loop-i.i (run_of c.loop-i.wires) c.loop-i-test.false c.loop-i.invariant.left)

-- ---- sides

pub run_copy-run-requires : goal.run_copy-run-requires
run_copy-run-requires t c =
    let f = c.args.frame.now in
    (omega (arith, c.decreases), subst (IsFit f.design.now f.reads.now f.bits.now c.args.net.now) (sym c.in_ok-copy.ensures.run) c.requires.fits)

pub run_copy-returns-clause-builds : goal.run_copy-returns-clause-builds
run_copy-returns-clause-builds t c =
    let f = c.args.frame.now in
    same_build _ _ (ap (run f.design.now f.reads.now f.bits.now c.args.s.now) c.in_ok-copy.ensures.run) c.run.ensures.builds

pub run_other-returns-in_err-two-clause-builds : goal.run_other-returns-in_err-two-clause-builds
run_other-returns-in_err-two-clause-builds t c =
    let f = c.args.frame.now in
    fault _ _ (all_left (behind_one f c.args.choice (run_of c.args.one.now) (run f.design.now f.reads.now f.bits.now c.args.other.now) (run_of c.args.wires)) c.args.net.now) c.in_err-two.ensures.builds c.from_residual.ensures

pub run_other-returns-clause-builds : goal.run_other-returns-clause-builds
run_other-returns-clause-builds t c =
    let f = c.args.frame.now in
    last (next _ _ (all_left (behind_one f c.args.choice (run_of c.args.one.now) (run f.design.now f.reads.now f.bits.now c.args.other.now) (run_of c.args.wires)) c.args.net.now) c.in_ok-two.ensures.builds) c.chosen.ensures.builds

-- ---- items

pub run_standing-returns-in-None-clause-builds : goal.run_standing-returns-in-None-clause-builds
run_standing-returns-in-None-clause-builds t c =
    let f = c.args.frame.now in
    let r = run_of c.args.wires.now in
    same_build _ _ (none_stands c.args.at (map (with_body (run f.design.now f.reads.now f.bits.now)) c.args.arms.now) r c.in-None.is) (nothing_drawn run_of r c.args.net.now c.copied.result c.copied.ensures.run c.copied.ensures.fault)

pub run_standing-returns-in-None-clause-fits : goal.run_standing-returns-in-None-clause-fits
run_standing-returns-in-None-clause-fits t c =
    let f = c.args.frame.now in
    fit_same run_of f.design.now f.reads.now f.bits.now c.args.net.now (run_of c.args.wires.now) c.copied.result c.requires.fits c.copied.ensures.run

pub run_standing-returns-then-arms-i-clause-builds : goal.run_standing-returns-then-arms-i-clause-builds
run_standing-returns-then-arms-i-clause-builds t c =
    let f = c.args.frame.now in
    let r = run_of c.args.wires.now in
    same_build _ _ (stands_past (run f.design.now f.reads.now f.bits.now) c.args.at c.in-Some.i c.args.arms.now r c.in-Some.is c.if-arms-i.true) (nothing_drawn run_of r c.args.net.now c.copied-then-arms-i.result c.copied-then-arms-i.ensures.run c.copied-then-arms-i.ensures.fault)

pub run_standing-returns-then-arms-i-clause-fits : goal.run_standing-returns-then-arms-i-clause-fits
run_standing-returns-then-arms-i-clause-fits t c =
    let f = c.args.frame.now in
    fit_same run_of f.design.now f.reads.now f.bits.now c.args.net.now (run_of c.args.wires.now) c.copied-then-arms-i.result c.requires.fits c.copied-then-arms-i.ensures.run

pub run_standing-returns-else-arms-i-clause-builds : goal.run_standing-returns-else-arms-i-clause-builds
run_standing-returns-else-arms-i-clause-builds t c =
    let f = c.args.frame.now in
    same_build _ _
    (stands (run f.design.now f.reads.now f.bits.now) c.args.at c.in-Some.i c.args.arms.now c.index-arms-i.result c.get.result.now (run_of c.args.wires.now) c.in-Some.is (omega (arith, c.if-arms-i.false)) c.index-arms-i.is
    (c.get.ensures ∙ ap (λ (m : Arm Stmt). m.body) (sym c.index-arms-i.is)))
    c.run_copy.ensures.builds

pub run_item-run_copy-requires : goal.run_item-run_copy-requires
run_item-run_copy-requires t c =
    let f = c.args.frame.now in
    (omega (arith, c.decreases), fit_later f.design.now f.reads.now f.bits.now c.args.net.now c.any_hit.new.net (run_of c.args.wires.now) c.requires.fits c.in_ok-hit.ensures.longer)

pub run_item-chosen-requires-clause-other : goal.run_item-chosen-requires-clause-other
run_item-chosen-requires-clause-other t c =
    let f = c.args.frame.now in
    fit_later f.design.now f.reads.now f.bits.now c.args.net.now c.run_copy.new.net (run_of c.args.rest) c.requires.rest (le_trans c.in_ok-hit.ensures.longer c.in_ok-one.ensures.longer)

pub run_item-returns-in_err-hit-clause-builds : goal.run_item-returns-in_err-hit-clause-builds
unfolding item
run_item-returns-in_err-hit-clause-builds t c =
    let f = c.args.frame.now in
    let choice = c.args.choice.now in
    let draws = run f.design.now f.reads.now f.bits.now in
    fault _ _
    (all_left (item f.reads.now f.bits.now (any_hit f.design.now c.args.wires.now.seen.items choice.how (shape_of choice.context) choice.word.items c.args.labels.now) (draws c.args.body.now) (run_of c.args.wires.now) (run_of c.args.rest)) c.args.net.now)
    (rw c.as_slice-nodes.ensures.value at c.in_err-hit.ensures.builds) c.from_residual.ensures

pub run_item-returns-in_err-one-clause-builds : goal.run_item-returns-in_err-one-clause-builds
unfolding item
run_item-returns-in_err-one-clause-builds t c =
    let f = c.args.frame.now in
    let choice = c.args.choice.now in
    let draws = run f.design.now f.reads.now f.bits.now in
    fault _ _
    (next _ _
    (all_left (item f.reads.now f.bits.now (any_hit f.design.now c.args.wires.now.seen.items choice.how (shape_of choice.context) choice.word.items c.args.labels.now) (draws c.args.body.now) (run_of c.args.wires.now) (run_of c.args.rest)) c.args.net.now)
    (rw c.as_slice-nodes.ensures.value at c.in_ok-hit.ensures.builds)) c.in_err-one.ensures.builds c.from_residual-in_err-one.ensures

pub run_item-returns-clause-builds : goal.run_item-returns-clause-builds
unfolding item
run_item-returns-clause-builds t c =
    let f = c.args.frame.now in
    let choice = c.args.choice.now in
    let draws = run f.design.now f.reads.now f.bits.now in
    last
    (next _ _
    (next _ _
    (all_left (item f.reads.now f.bits.now (any_hit f.design.now c.args.wires.now.seen.items choice.how (shape_of choice.context) choice.word.items c.args.labels.now) (draws c.args.body.now) (run_of c.args.wires.now) (run_of c.args.rest)) c.args.net.now)
    (rw c.as_slice-nodes.ensures.value at c.in_ok-hit.ensures.builds)) c.in_ok-one.ensures.builds) c.chosen.ensures.builds

pub run_items-returns-in-Err-clause-builds : goal.run_items-returns-in-Err-clause-builds
run_items-returns-in-Err-clause-builds t c =
    let f = c.args.frame.now in
    let choice = c.args.choice.now in
    let draws = run f.design.now f.reads.now f.bits.now in
    let hit = any_hit f.design.now c.args.wires.now.seen.items choice.how (shape_of choice.context) choice.word.items in
    fault _ _ (items_first f.reads.now f.bits.now hit c.args.at draws c.args.arms.now (run_of c.args.wires.now) c.args.net.now (body_at c.args.at (map (with_body draws) c.args.arms.now))) c.in-Err.ensures.builds (refl, refl)

pub run_items-loop-left-init : goal.run_items-loop-left-init
run_items-loop-left-init t c =
    let f = c.args.frame.now in
    let choice = c.args.choice.now in
    let draws = run f.design.now f.reads.now f.bits.now in
    let hit = any_hit f.design.now c.args.wires.now.seen.items choice.how (shape_of choice.context) choice.word.items in
    record {
      above = next _ _ (items_first f.reads.now f.bits.now hit c.args.at draws c.args.arms.now (run_of c.args.wires.now) c.args.net.now (body_at c.args.at (map (with_body draws) c.args.arms.now))) c.in-Ok.ensures.builds;
      fits = c.in-Ok.ensures.fits;
      choice = choice_later c.args.net.now c.run_standing.new.net choice c.requires.choice c.in-Ok.ensures.longer;
      start = fit_later f.design.now f.reads.now f.bits.now c.args.net.now c.run_standing.new.net (run_of c.args.wires.now) c.requires.fits c.in-Ok.ensures.longer;
      longer = c.in-Ok.ensures.longer;
      inside = omega arith;
    }

pub run_items-returns-in-Err-run_item-clause-builds : goal.run_items-returns-in-Err-run_item-clause-builds
run_items-returns-in-Err-run_item-clause-builds t c =
    let f = c.args.frame.now in
    let choice = c.args.choice.now in
    let draws = run f.design.now f.reads.now f.bits.now in
    let hit = any_hit f.design.now c.args.wires.now.seen.items choice.how (shape_of choice.context) choice.word.items in
    fault _ _
    (item_here f.reads.now f.bits.now hit c.args.at draws c.args.arms.now (run_of c.args.wires.now) (c.loop-left.left - 1) c.loop-left.left c.index-arms-left.result c.as_slice-labels.result.now c.get-body.result.now (run_of c.loop-left.rest)
    (omega (arith, c.loop-left-test.true)) c.loop-left.invariant.inside c.index-arms-left.is c.as_slice-labels.ensures c.get-body.ensures (sym c.is_at.ensures ∙ c.if-not-is_at.true) c.loop-left.invariant.above)
    c.in-Err-run_item.ensures.builds (refl, refl)

pub run_items-loop-left-preserved-then-not-is_at : goal.run_items-loop-left-preserved-then-not-is_at
run_items-loop-left-preserved-then-not-is_at t c =
    let f = c.args.frame.now in
    let choice = c.args.choice.now in
    let draws = run f.design.now f.reads.now f.bits.now in
    let hit = any_hit f.design.now c.args.wires.now.seen.items choice.how (shape_of choice.context) choice.word.items in
    record {
      above =
          next _ _
          (item_here f.reads.now f.bits.now hit c.args.at draws c.args.arms.now (run_of c.args.wires.now) (c.loop-left.left - 1) c.loop-left.left c.index-arms-left.result c.as_slice-labels.result.now c.get-body.result.now (run_of c.loop-left.rest)
          (omega (arith, c.loop-left-test.true)) c.loop-left.invariant.inside c.index-arms-left.is c.as_slice-labels.ensures c.get-body.ensures (sym c.is_at.ensures ∙ c.if-not-is_at.true) c.loop-left.invariant.above)
          c.in-Ok-run_item.ensures.builds;
      fits = c.in-Ok-run_item.ensures.fits;
      choice = choice_later c.loop-left.net c.run_item.new.net choice c.loop-left.invariant.choice c.in-Ok-run_item.ensures.longer;
      start = fit_later f.design.now f.reads.now f.bits.now c.loop-left.net c.run_item.new.net (run_of c.args.wires.now) c.loop-left.invariant.start c.in-Ok-run_item.ensures.longer;
      longer = le_trans c.loop-left.invariant.longer c.in-Ok-run_item.ensures.longer;
      inside = omega (arith, c.loop-left.invariant.inside);
    }

pub run_items-loop-left-preserved : goal.run_items-loop-left-preserved
run_items-loop-left-preserved t c =
    let f = c.args.frame.now in
    let choice = c.args.choice.now in
    let draws = run f.design.now f.reads.now f.bits.now in
    let hit = any_hit f.design.now c.args.wires.now.seen.items choice.how (shape_of choice.context) choice.word.items in
    record {
      above =
          item_skipped f.reads.now f.bits.now hit c.args.at draws c.args.arms.now (run_of c.args.wires.now) (c.loop-left.left - 1) c.loop-left.left c.index-arms-left.result (run_of c.loop-left.rest)
          (omega (arith, c.loop-left-test.true)) c.loop-left.invariant.inside c.index-arms-left.is (sym c.is_at.ensures ∙ c.if-not-is_at.false) c.loop-left.invariant.above;
      fits = c.loop-left.invariant.fits;
      choice = c.loop-left.invariant.choice;
      start = c.loop-left.invariant.start;
      longer = c.loop-left.invariant.longer;
      inside = omega (arith, c.loop-left.invariant.inside);
    }

pub run_items-returns-clause-builds : goal.run_items-returns-clause-builds
run_items-returns-clause-builds t c =
    let f = c.args.frame.now in
    let choice = c.args.choice.now in
    let draws = run f.design.now f.reads.now f.bits.now in
    let hit = any_hit f.design.now c.args.wires.now.seen.items choice.how (shape_of choice.context) choice.word.items in
    done run_of c.loop-left.rest (items_whole f.reads.now f.bits.now hit c.args.at draws c.args.arms.now (run_of c.args.wires.now) c.loop-left.left (run_of c.loop-left.rest) c.loop-left-test.false c.loop-left.invariant.above)
