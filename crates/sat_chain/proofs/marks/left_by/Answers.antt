-- The literals that are left are the union that is left.
use Rattle.std.proofs.Common.{◌≡◌, [], pos, arith, sym, ◌∙◌, drop}
use Rattle.std.proofs.lemmas.Bool.Decides.{nat_tests}
use Rattle.std.proofs.lemmas.Grind.{common_steps}
use mathlib.Core.Path.{fun_ext}
use Rattle.sat_chain.specs.Marks.{at}
use Rattle.sat_chain.proofs.ChainLemmas.{live_nothing, nothing_live}
use Rattle.sat_chain.proofs.StepLemmas.{union_more, ascend_rest}
use Rattle.sat_chain.proofs.marks.left_by.Goals as goal

pub loop-lit-preserved : goal.loop-lit-preserved
loop-lit-preserved c =
    let rest = ascend_rest c.args.lits.now c.loop-lit.lit-index (pos 0) (omega arith) c.loop-lit.invariant.ascend in
    let step = union_more (at c.loop-lit.marks) (at c.take_out.new.marks) c.args.lits.now c.loop-lit.lit-index (pos 0) (omega arith) (c.take_out.ensures.value.0 c.if-not-take_out.false) (c.take_out.ensures.union c.if-not-take_out.false) rest.1 in
    record {
      union = (λ h. c.loop-lit.invariant.union.0 (step.0 h), λ h. step.1 (c.loop-lit.invariant.union.1 h));
      live = omega (arith, c.take_out.ensures.live c.if-not-take_out.false, c.loop-lit.invariant.live);
      ascend = rest.0;
    }

pub returns-then-live-eq0 : goal.returns-then-live-eq0
returns-then-live-eq0 c =
    let none : drop c.loop-lit.lit-index c.args.lits.now ≡ [] = grind (arith, common_steps) in
    let union = rw none at c.loop-lit.invariant.union in
    let zero : c.loop-lit.live ≡ 0 = grind (arith, nat_tests, c.if-live-eq0.true) in
    let all = nothing_live c.loop-lit.marks (sym c.loop-lit.invariant.live ∙ zero) in
    (union.0 all, fun_ext all)

pub returns-else-live-eq0 : goal.returns-else-live-eq0
returns-else-live-eq0 c =
    let none : drop c.loop-lit.lit-index c.args.lits.now ≡ [] = grind (arith, common_steps) in
    let union = rw none at c.loop-lit.invariant.union in (
      λ h. (let zero : c.loop-lit.live ≡ 0 = c.loop-lit.invariant.live ∙ live_nothing c.loop-lit.marks (union.1 h) in grind (arith, nat_tests, c.if-live-eq0.false)),
      c.loop-lit.invariant.live,
    )
