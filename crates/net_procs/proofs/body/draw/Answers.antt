use Rattle.std.proofs.Common.{◌<◌, ℕ, length}
use Rattle.net_words.proofs.BuildLemmas.{all_left, next, fault, last}
use Rattle.net_exprs.proofs.NameSteps.{nodes_there}
use Rattle.net_exprs.proofs.Transport.{same_build}
use Rattle.net_procs.specs.Runs.{nodes_of}
use Rattle.net_procs.specs.Bodies.{run, drawn}
use Rattle.net_procs.proofs.Steps.{nothing_drawn, made_inside}
use Rattle.net_procs.proofs.body.draw.Goals as goal

pub returns-in_err-after-clause-builds : goal.returns-in_err-after-clause-builds
unfolding drawn
returns-in_err-after-clause-builds c =
    let d = c.args.design.now in
    let reads = c.args.reads.now in
    let bits = c.args.bits.now in
    fault _ _ (all_left (drawn d reads bits c.args.body.now c.args.nodes.now) c.args.net.now)
    (same_build _ _ (λ k. run d reads bits c.args.body.now (record { now = c.in_ok-seen.ensures.items k; next = c.in_ok-becomes.ensures.items k })) c.in_err-after.ensures.builds) c.from_residual-in_err-after.ensures

pub returns-clause-builds : goal.returns-clause-builds
unfolding drawn
returns-clause-builds c =
    let d = c.args.design.now in
    let reads = c.args.reads.now in
    let bits = c.args.bits.now in
    last
    (next _ _ (all_left (drawn d reads bits c.args.body.now c.args.nodes.now) c.args.net.now)
    (same_build _ _ (λ k. run d reads bits c.args.body.now (record { now = c.in_ok-seen.ensures.items k; next = c.in_ok-becomes.ensures.items k })) c.in_ok-after.ensures.builds))
    (nothing_drawn (λ w. w.items) (nodes_of c.in_ok-after.after.becomes.items bits) c.run.new.net c.nodes_of.result (rw c.as_slice.ensures.value at c.nodes_of.ensures.items) c.nodes_of.ensures.fault)

pub returns-clause-inside : goal.returns-clause-inside
returns-clause-inside c =
    made_inside (λ w. w.items) (λ (n : ℕ). n < length c.run.new.net) (nodes_of c.in_ok-after.after.becomes.items c.args.bits.now) c.nodes_of.result (rw c.as_slice.ensures.value at c.nodes_of.ensures.items)
    (nodes_there c.in_ok-after.after.becomes.items c.args.bits.now (length c.run.new.net) c.in_ok-after.ensures.fits.next c.in_ok-after.ensures.fits.becomes)
