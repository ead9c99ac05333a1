use Rattle.net_words.proofs.BuildLemmas.{all_left, next, last, fault}
use Rattle.net_procs.specs.Bodies.{strokes_of}
use Rattle.net_procs.proofs.writes.strokes_of.Goals as goal

pub returns-in_err-word-clause-builds : goal.returns-in_err-word-clause-builds
unfolding strokes_of
returns-in_err-word-clause-builds c =
    fault _ _ (all_left (strokes_of c.args.design.now c.args.target.now c.args.value.now c.args.nodes.now) c.args.net.now) (rw c.in_ok-width.ensures.value at c.in_err-word.ensures.builds) c.from_residual-in_err-word.ensures

pub returns-clause-builds : goal.returns-clause-builds
unfolding strokes_of
returns-clause-builds c =
    last (next _ _ (all_left (strokes_of c.args.design.now c.args.target.now c.args.value.now c.args.nodes.now) c.args.net.now) (rw c.in_ok-width.ensures.value at c.in_ok-word.ensures.builds))
    (rw c.as_slice.ensures.value at c.strokes.ensures.builds)
