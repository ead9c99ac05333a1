use Rattle.std.proofs.Common.{◌∙◌}
use Rattle.std.proofs.lemmas.List.{with_items_is}
use Rattle.net_words.proofs.BuildLemmas.{done, next, fault}
use Rattle.net_procs.specs.Ready.{run_of}
use Rattle.net_procs.proofs.NodeSteps.{chosen_left, mixed_next, returned}
use Rattle.net_procs.proofs.wires.chosen.Goals as goal

pub returns-in_err-mixed-clause-builds : goal.returns-in_err-mixed-clause-builds
returns-in_err-mixed-clause-builds c =
    fault _ _ (chosen_left c.args.net.now c.args.frame.now.reads.now c.args.frame.now.bits.now c.args.choice (run_of c.args.first.now) (run_of c.args.other) c.as_slice.result.now c.deref_mut.result.now c.as_slice.ensures.value c.deref_mut.ensures.value)
    c.in_err-mixed.ensures.builds c.from_residual.ensures

pub returns-in_err-mixed-2-clause-builds : goal.returns-in_err-mixed-2-clause-builds
returns-in_err-mixed-2-clause-builds c =
    fault _ _
    (mixed_next c.args.frame.now.bits.now c.args.choice c.as_slice-ones.result.now c.deref_mut-2.result.now c.args.first.now.becomes.items c.args.other.becomes.items _ c.as_slice-ones.ensures.value c.deref_mut-2.ensures.value
    (next _ _ (chosen_left c.args.net.now c.args.frame.now.reads.now c.args.frame.now.bits.now c.args.choice (run_of c.args.first.now) (run_of c.args.other) c.as_slice.result.now c.deref_mut.result.now c.as_slice.ensures.value c.deref_mut.ensures.value)
    c.in_ok-mixed.ensures.builds))
    c.in_err-mixed-2.ensures.builds c.from_residual-in_err-mixed-2.ensures

pub returns-clause-builds : goal.returns-clause-builds
returns-clause-builds c =
    done run_of _
    (returned c.mixed.new.nodes c.mixed-2.new.nodes _ _ (with_items_is c.args.other.seen c.mixed.new.nodes (c.mixed.auto.nodes ∙ c.deref_mut.ensures.len))
    (with_items_is c.args.other.becomes c.mixed-2.new.nodes (c.mixed-2.auto.nodes ∙ c.deref_mut-2.ensures.len))
    (next _ _
    (mixed_next c.args.frame.now.bits.now c.args.choice c.as_slice-ones.result.now c.deref_mut-2.result.now c.args.first.now.becomes.items c.args.other.becomes.items _ c.as_slice-ones.ensures.value c.deref_mut-2.ensures.value
    (next _ _ (chosen_left c.args.net.now c.args.frame.now.reads.now c.args.frame.now.bits.now c.args.choice (run_of c.args.first.now) (run_of c.args.other) c.as_slice.result.now c.deref_mut.result.now c.as_slice.ensures.value c.deref_mut.ensures.value)
    c.in_ok-mixed.ensures.builds))
    c.in_ok-mixed-2.ensures.builds))
