use Rattle.std.proofs.Common.{length, ◌<◌, arith, le_trans, get_or, sym, ◌∙◌}
use Rattle.std.proofs.lemmas.List.Elements.{All-nil}
use Rattle.net_words.proofs.BuildLemmas.{no_bits, next, fault, done}
use Rattle.net_words.proofs.WordSteps.{one_more}
use Rattle.net_procs.specs.Labels.{same_at}
use Rattle.net_procs.proofs.Steps.{there_is}
use Rattle.net_procs.proofs.LabelSteps.{same_here, same_skipped, same_whole}
use Rattle.net_procs.proofs.labels.same_at.Goals as goal
use Rattle.net_procs.proofs.labels.same_at.Goals.{then-not-is_free+in_ok-n+in_ok-push, else-not-is_free}

pub loop-i-init : goal.loop-i-init
loop-i-init c = rw c.new-made.ensures.items (record {
  left = no_bits (same_at c.args.free.now c.args.x.now c.args.y.now) c.args.net.now;
  there = All-nil (λ n. n < length c.args.net.now);
  longer = omega arith;
})

pub returns-in_err-n-clause-builds : goal.returns-in_err-n-clause-builds
returns-in_err-n-clause-builds c =
    fault _ _
    (same_here c.args.free.now c.args.x.now c.args.y.now c.loop-i.made.items c.loop-i.i c.index-x-i.result c.index-y-i.result c.loop-i-test.true (omega (arith, c.requires.width, c.loop-i-test.true)) c.index-x-i.is c.index-y-i.is
    (sym c.is_free.ensures ∙ c.if-not-is_free.true) c.loop-i.invariant.left) c.in_err-n.ensures.builds c.from_residual.ensures

pub loop-i-preserved : goal.loop-i-preserved
loop-i-preserved c = elim c.if-not-is_free.branch [
  | then-not-is_free+in_ok-n+in_ok-push w ↦ rw (w.net-is, w.made-is, w.in_ok-push.ensures.items) (record {
    left =
        next _ _
        (same_here c.args.free.now c.args.x.now c.args.y.now c.loop-i.made.items c.loop-i.i w.index-x-i.result w.index-y-i.result c.loop-i-test.true (omega (arith, c.requires.width, c.loop-i-test.true)) w.index-x-i.is w.index-y-i.is
        (sym c.is_free.ensures ∙ w.if-not-is_free.true) c.loop-i.invariant.left) w.in_ok-n.ensures.builds;
    there = one_more c.loop-i.net w.bit.new.net c.loop-i.made.items w.in_ok-n.n c.loop-i.invariant.there w.in_ok-n.ensures.longer w.in_ok-n.ensures.inside;
    longer = le_trans c.loop-i.invariant.longer w.in_ok-n.ensures.longer;
  })
  | else-not-is_free w ↦ rw (w.net-is, w.made-is) (record {
    left =
        same_skipped c.args.free.now c.args.x.now c.args.y.now c.loop-i.made.items c.loop-i.i (get_or c.args.x.now c.loop-i.i 0) (get_or c.args.y.now c.loop-i.i 0) c.loop-i-test.true (omega (arith, c.requires.width, c.loop-i-test.true))
        (there_is c.args.x.now c.loop-i.i 0 c.loop-i-test.true) (there_is c.args.y.now c.loop-i.i 0 (omega (arith, c.requires.width, c.loop-i-test.true)))
        (sym c.is_free.ensures ∙ w.if-not-is_free.false) c.loop-i.invariant.left;
    there = c.loop-i.invariant.there;
    longer = c.loop-i.invariant.longer;
  })
]

pub returns-clause-builds : goal.returns-clause-builds
returns-clause-builds c = done (λ w. w.items) c.loop-i.made (same_whole c.args.free.now c.args.x.now c.args.y.now c.loop-i.made.items c.loop-i.i c.loop-i-test.false c.loop-i.invariant.left)
