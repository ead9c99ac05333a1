use Rattle.std.proofs.Common.{◌∙◌, refl}
use Rattle.std.proofs.lemmas.List.{with_items_is}
use Rattle.net_words.proofs.BuildLemmas.{done, next, fault}
use Rattle.net_procs.specs.Ready.{run_of}
use Rattle.net_procs.proofs.NodeSteps.{strike_left, blocking_left, nonblocking_left, struck_alike, returned}
use Rattle.net_procs.proofs.writes.write.Goals as goal

pub returns-in_err-strike-clause-builds : goal.returns-in_err-strike-clause-builds
returns-in_err-strike-clause-builds c =
    fault _ _ (strike_left c.args.net.now c.args.frame.now.reads.now c.args.frame.now.bits.now c.args.by c.args.strokes.now (run_of c.args.wires) c.deref_mut.result.now c.deref_mut.ensures.value) c.in_err-strike.ensures.builds c.from_residual.ensures

pub returns-in_err-strike-in-Blocking-clause-builds : goal.returns-in_err-strike-in-Blocking-clause-builds
returns-in_err-strike-in-Blocking-clause-builds c =
    fault _ _
    (struck_alike c.args.frame.now.reads.now c.args.strokes.now c.deref_mut-in-Blocking.result.now c.args.wires.seen.items _ c.deref_mut-in-Blocking.ensures.value
    (next _ _ (blocking_left c.args.net.now c.args.frame.now.reads.now c.args.frame.now.bits.now c.args.by c.args.strokes.now (run_of c.args.wires) c.deref_mut.result.now c.in-Blocking.is c.deref_mut.ensures.value) c.in_ok-strike.ensures.builds))
    c.in_err-strike-in-Blocking.ensures.builds c.from_residual-in_err-strike-in-Blocking.ensures

pub returns-in_ok-strike-in-Blocking-clause-builds : goal.returns-in_ok-strike-in-Blocking-clause-builds
returns-in_ok-strike-in-Blocking-clause-builds c =
    done run_of _
    (returned c.strike-in-Blocking.new.nodes c.strike.new.nodes _ _ (with_items_is c.args.wires.seen c.strike-in-Blocking.new.nodes (c.strike-in-Blocking.auto.nodes ∙ c.deref_mut-in-Blocking.ensures.len))
    (with_items_is c.args.wires.becomes c.strike.new.nodes (c.strike.auto.nodes ∙ c.deref_mut.ensures.len))
    (next _ _
    (struck_alike c.args.frame.now.reads.now c.args.strokes.now c.deref_mut-in-Blocking.result.now c.args.wires.seen.items _ c.deref_mut-in-Blocking.ensures.value
    (next _ _ (blocking_left c.args.net.now c.args.frame.now.reads.now c.args.frame.now.bits.now c.args.by c.args.strokes.now (run_of c.args.wires) c.deref_mut.result.now c.in-Blocking.is c.deref_mut.ensures.value) c.in_ok-strike.ensures.builds))
    c.in_ok-strike-in-Blocking.ensures.builds))

pub returns-in-Nonblocking-clause-builds : goal.returns-in-Nonblocking-clause-builds
returns-in-Nonblocking-clause-builds c =
    done run_of _
    (returned c.args.wires.seen.items c.strike.new.nodes _ _ refl (with_items_is c.args.wires.becomes c.strike.new.nodes (c.strike.auto.nodes ∙ c.deref_mut.ensures.len))
    (next _ _ (nonblocking_left c.args.net.now c.args.frame.now.reads.now c.args.frame.now.bits.now c.args.by c.args.strokes.now (run_of c.args.wires) c.deref_mut.result.now c.in-Nonblocking.is c.deref_mut.ensures.value) c.in_ok-strike.ensures.builds))
