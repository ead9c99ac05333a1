use Rattle.std.proofs.Common.{◌≡◌, ◌<◌, ℕ, length, take, ap, sym, ◌∙◌, le_trans}
use Rattle.std.proofs.lemmas.List.Elements.{All-take}
use Rattle.vlog_const.specs.declared.shape.Shape.{Shape}
use Rattle.design_form.specs.Extents.{shape_of}
use Rattle.design_form.specs.Selects.{starts}
use Rattle.design_sizes.specs.Sizes as sizes
use Rattle.elab_bits.specs.Selects.{range_of, all_bits}
use Rattle.net_words.proofs.BuildLemmas.{all_left, next, last, fault}
use Rattle.net_words.proofs.WordSteps.{still_there}
use Rattle.net_exprs.specs.Names.{wired_in}
use Rattle.net_exprs.specs.Selects.{hits_from}
use Rattle.net_exprs.specs.Lowered.{lowered}
use Rattle.net_exprs.proofs.ShapeLemmas.{shape_in_design}
use Rattle.net_exprs.proofs.Transport.{same_build, in_shape}
use Rattle.net_procs.specs.Targets.{onto_starts, from_starts}
use Rattle.net_procs.proofs.Steps.{nothing_drawn}
use Rattle.net_procs.proofs.StrokeSteps.{starts_there}
use Rattle.net_procs.proofs.TargetSteps.{strokes_inside}
use Rattle.net_procs.proofs.targets.by_index.Goals as goal

pub returns-in_err-at-clause-builds : goal.returns-in_err-at-clause-builds
unfolding onto_starts
returns-in_err-at-clause-builds c =
    let d = c.args.design.now in
    let nodes = c.args.nodes.now in
    let e = c.args.index.now in
    fault _ _ (all_left (onto_starts d nodes c.args.part c.args.name.now e c.args.width c.args.word.now) c.args.net.now)
    (in_shape (lowered (wired_in d nodes) e) _ _ (c.in_ok-context.ensures.shape nodes) c.in_err-at.ensures.builds) c.from_residual-in_err-at.ensures

pub returns-in_err-hits-clause-builds : goal.returns-in_err-hits-clause-builds
unfolding onto_starts
returns-in_err-hits-clause-builds c =
    let d = c.args.design.now in
    let nodes = c.args.nodes.now in
    let e = c.args.index.now in
    let r = range_of d.signals c.args.name.now in
    let shape : shape_of c.in_ok-context.context ≡ sizes.shape_of d e = c.in_ok-context.ensures.shape nodes ∙ sym (shape_in_design d nodes e) in
    fault _ _
    (next _ _ (all_left (onto_starts d nodes c.args.part c.args.name.now e c.args.width c.args.word.now) c.args.net.now)
    (in_shape (lowered (wired_in d nodes) e) _ _ (c.in_ok-context.ensures.shape nodes) c.in_ok-at.ensures.builds))
    (same_build _ _ (ap (λ (s : Shape). hits_from c.args.part r c.args.width s c.in_ok-at.at.items 0 (starts r c.args.width)) shape)
    (rw (c.as_slice.ensures.value, c.range_of-range.ensures) at c.in_err-hits.ensures.builds))
    c.from_residual-in_err-hits.ensures

pub returns-clause-builds : goal.returns-clause-builds
unfolding onto_starts
returns-clause-builds c =
    let d = c.args.design.now in
    let nodes = c.args.nodes.now in
    let e = c.args.index.now in
    let r = range_of d.signals c.args.name.now in
    let shape : shape_of c.in_ok-context.context ≡ sizes.shape_of d e = c.in_ok-context.ensures.shape nodes ∙ sym (shape_in_design d nodes e) in
    last
    (next _ _
    (next _ _ (all_left (onto_starts d nodes c.args.part c.args.name.now e c.args.width c.args.word.now) c.args.net.now)
    (in_shape (lowered (wired_in d nodes) e) _ _ (c.in_ok-context.ensures.shape nodes) c.in_ok-at.ensures.builds))
    (same_build _ _ (ap (λ (s : Shape). hits_from c.args.part r c.args.width s c.in_ok-at.at.items 0 (starts r c.args.width)) shape)
    (rw (c.as_slice.ensures.value, c.range_of-range.ensures) at c.in_ok-hits.ensures.builds)))
    (nothing_drawn (λ ks. ks.items) (from_starts c.in_ok-hits.hits.items r (all_bits d.signals c.args.name.now) c.args.width 0 (take c.args.width c.args.word.now)) c.hits.new.net c.onto_starts.result
    (rw (c.as_slice-2.ensures.value, c.first.ensures, c.all_bits-bits.ensures, c.range_of-range.ensures) at c.onto_starts.ensures.items) c.onto_starts.ensures.fault)

pub returns-clause-inside : goal.returns-clause-inside
returns-clause-inside c =
    let d = c.args.design.now in
    let r = range_of d.signals c.args.name.now in
    strokes_inside (λ ks. ks.items) (length c.hits.new.net) (from_starts c.in_ok-hits.hits.items r (all_bits d.signals c.args.name.now) c.args.width 0 (take c.args.width c.args.word.now)) c.onto_starts.result
    (rw (c.as_slice-2.ensures.value, c.first.ensures, c.all_bits-bits.ensures, c.range_of-range.ensures) at c.onto_starts.ensures.items)
    (starts_there (length c.hits.new.net) c.in_ok-hits.hits.items r (all_bits d.signals c.args.name.now) c.args.width 0 (take c.args.width c.args.word.now) c.in_ok-hits.ensures.inside
    (All-take (λ (k : ℕ). k < length c.hits.new.net) c.args.width c.args.word.now (still_there c.args.net.now c.hits.new.net c.args.word.now c.requires.word (le_trans c.in_ok-at.ensures.longer c.in_ok-hits.ensures.longer))))
