use Rattle.net_words.proofs.BuildLemmas.{all_left, next, last, fault}
use Rattle.net_procs.specs.Bodies.{assign}
use Rattle.net_procs.specs.Ready.{run_of}
use Rattle.net_procs.proofs.writes.assign.Goals as goal

pub returns-in_err-strokes-clause-builds : goal.returns-in_err-strokes-clause-builds
unfolding assign
returns-in_err-strokes-clause-builds c =
    let f = c.args.frame.now in
    fault _ _ (all_left (assign f.design.now f.reads.now f.bits.now c.args.target.now c.args.by c.args.value.now (run_of c.args.wires)) c.args.net.now)
    (rw c.as_slice-nodes.ensures.value at c.in_err-strokes.ensures.builds) c.from_residual.ensures

pub returns-clause-builds : goal.returns-clause-builds
unfolding assign
returns-clause-builds c =
    let f = c.args.frame.now in
    last
    (next _ _ (all_left (assign f.design.now f.reads.now f.bits.now c.args.target.now c.args.by c.args.value.now (run_of c.args.wires)) c.args.net.now)
    (rw c.as_slice-nodes.ensures.value at c.in_ok-strokes.ensures.builds))
    (rw c.as_slice.ensures.value at c.write.ensures.builds)
