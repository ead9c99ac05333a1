use Rattle.std.proofs.Common.{ℕ, ◌<◌, arith, ◌∙◌, subst, sym}
use Rattle.net_procs.proofs.NodeSteps.{scattered_here, scattered_end}
use Rattle.net_procs.proofs.wires.put_back.Goals as goal

pub returns-clause-nodes : goal.returns-clause-nodes
returns-clause-nodes c = scattered_end c.args.bits.now c.args.word.now c.loop-i.nodes _ c.loop-i.i c.loop-i-test.false c.loop-i.invariant.left

pub loop-i-preserved : goal.loop-i-preserved
loop-i-preserved c = record {
  left =
      rw c.set_node.ensures.nodes (rw c.index-word-i.is
      (scattered_here c.args.bits.now c.args.word.now c.loop-i.nodes _ c.loop-i.i _ _ c.loop-i-test.true (omega (arith, c.requires.width, c.loop-i-test.true)) c.loop-i.invariant.left));
  long = c.set_node.ensures.long ∙ c.loop-i.invariant.long;
  inside = λ count word nodes. c.set_node.ensures.inside count (subst (λ (n : ℕ). n < count) (sym c.index-word-i.is) (word c.loop-i.i _ (omega (arith, c.requires.width, c.loop-i-test.true)))) (c.loop-i.invariant.inside count word nodes);
}
