use Rattle.net_words.proofs.BuildLemmas.{all_left, next, last, fault}
use Rattle.net_procs.specs.Bodies.{tested}
use Rattle.net_procs.proofs.writes.tested.Goals as goal

pub returns-in_err-word-clause-builds : goal.returns-in_err-word-clause-builds
unfolding tested
returns-in_err-word-clause-builds c = fault _ _ (all_left (tested c.args.design.now c.args.test.now c.args.nodes.now) c.args.net.now) c.in_err-word.ensures.builds c.from_residual.ensures

pub returns-clause-builds : goal.returns-clause-builds
unfolding tested
returns-clause-builds c = last (next _ _ (all_left (tested c.args.design.now c.args.test.now c.args.nodes.now) c.args.net.now) c.in_ok-word.ensures.builds) (rw c.as_slice.ensures.value at c.any.ensures.builds)
