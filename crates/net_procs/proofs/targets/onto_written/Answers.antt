use Rattle.std.proofs.Common.{◌≡◌, length}
use Rattle.vlog_tree.specs.declared.expr.Part.TheVariants.{Fixed}
use Rattle.design_form.specs.Values.{number_alone}
use Rattle.elab_bits.specs.Selects.{range_of, all_bits}
use Rattle.net_exprs.proofs.Transport.{same_build}
use Rattle.net_procs.specs.Targets.{onto_part}
use Rattle.net_procs.proofs.Steps.{nothing_drawn}
use Rattle.net_procs.proofs.StrokeSteps.{part_there}
use Rattle.net_procs.proofs.TargetSteps.{strokes_inside, not_fixed, written_fixed, written_moving}
use Rattle.net_procs.proofs.targets.onto_written.Goals as goal

pub returns-in-Fixed-clause-builds : goal.returns-in-Fixed-clause-builds
returns-in-Fixed-clause-builds c =
    let d = c.args.design.now in
    let name = c.args.name.now in
    same_build _ _ (written_fixed d c.args.nodes.now c.args.part name c.args.first.now c.args.second.now c.args.word.now c.in-Fixed.is)
    (nothing_drawn (λ ks. ks.items) (onto_part (range_of d.signals name) (all_bits d.signals name) (number_alone c.args.first.now) (number_alone c.args.second.now) c.args.word.now) c.args.net.now c.onto_between.result c.onto_between.ensures.items c.onto_between.ensures.fault)

pub returns-in-Fixed-clause-inside : goal.returns-in-Fixed-clause-inside
returns-in-Fixed-clause-inside c =
    let d = c.args.design.now in
    let name = c.args.name.now in
    strokes_inside (λ ks. ks.items) (length c.args.net.now) (onto_part (range_of d.signals name) (all_bits d.signals name) (number_alone c.args.first.now) (number_alone c.args.second.now) c.args.word.now) c.onto_between.result c.onto_between.ensures.items
    (part_there (length c.args.net.now) (range_of d.signals name) (all_bits d.signals name) (number_alone c.args.first.now) (number_alone c.args.second.now) c.args.word.now c.requires.word)

pub returns-in_ok-width-in-Up : goal.returns-in_ok-width-in-Up
returns-in_ok-width-in-Up c =
    let moves : c.args.part ≡ Fixed → ⊥ = not_fixed c.args.part c.in-Up.is in
    record {
      builds = same_build _ _ (written_moving c.args.design.now c.args.nodes.now c.args.part c.args.name.now c.args.first.now c.args.second.now c.in_ok-width-in-Up.width c.args.word.now moves c.in_ok-width-in-Up.ensures.value) c.onto_select.ensures.builds;
      inside = c.onto_select.ensures.inside;
      longer = c.onto_select.ensures.longer;
    }
