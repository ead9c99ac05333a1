use Rattle.std.proofs.Common.{length, sym, ◌∙◌}
use Rattle.elab_bits.specs.Selects.{range_of, all_bits, constant}
use Rattle.net_exprs.proofs.Transport.{same_build}
use Rattle.proc_values.specs.Targets.{fixed_start}
use Rattle.net_procs.specs.Targets.{at_start}
use Rattle.net_procs.proofs.Steps.{nothing_drawn}
use Rattle.net_procs.proofs.StrokeSteps.{fixed_there}
use Rattle.net_procs.proofs.TargetSteps.{strokes_inside, at_constant, at_index}
use Rattle.net_procs.proofs.targets.onto_select.Goals as goal

pub returns-in-Some-clause-builds : goal.returns-in-Some-clause-builds
returns-in-Some-clause-builds c =
    let d = c.args.design.now in
    let name = c.args.name.now in
    let n = c.args.width in
    same_build _ _ (at_constant d c.args.nodes.now c.args.part name (constant c.args.index.now) c.in-Some.at c.args.index.now n c.args.word.now (sym c.in_ok-at.ensures.value ∙ c.in-Some.is))
    (nothing_drawn (λ ks. ks.items) (at_start (fixed_start c.args.part (range_of d.signals name) n c.in-Some.at) (range_of d.signals name) (all_bits d.signals name) n c.args.word.now) c.args.net.now c.onto_fixed.result
    (rw (c.all_bits.ensures, c.range_of-range.ensures) at c.onto_fixed.ensures.items) c.onto_fixed.ensures.fault)

pub returns-in-Some-clause-inside : goal.returns-in-Some-clause-inside
returns-in-Some-clause-inside c =
    let d = c.args.design.now in
    let name = c.args.name.now in
    let n = c.args.width in
    let start = fixed_start c.args.part (range_of d.signals name) n c.in-Some.at in
    strokes_inside (λ ks. ks.items) (length c.args.net.now) (at_start start (range_of d.signals name) (all_bits d.signals name) n c.args.word.now) c.onto_fixed.result
    (rw (c.all_bits.ensures, c.range_of-range.ensures) at c.onto_fixed.ensures.items)
    (fixed_there (length c.args.net.now) start (range_of d.signals name) (all_bits d.signals name) n c.args.word.now c.requires.word)

pub returns-in-None-clause-builds : goal.returns-in-None-clause-builds
returns-in-None-clause-builds c =
    same_build _ _ (at_index c.args.design.now c.args.nodes.now c.args.part c.args.name.now (constant c.args.index.now) c.args.index.now c.args.width c.args.word.now (sym c.in_ok-at.ensures.value ∙ c.in-None.is)) c.by_index.ensures.builds
