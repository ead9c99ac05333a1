use Rattle.std.proofs.Common.{List, ap, ◌∙◌, arith}
use Rattle.rdc_tern.specs.declared.value.Tern.{Tern}
use Rattle.design_form.specs.Selects.{picked_bit, picked_from}
use Rattle.design_form.proofs.WordLemmas.{pushed, ended}
use Rattle.design_form.proofs.SelectLemmas.{picked-more, picked-end}
use Rattle.design_form.proofs.selects.picked.Goals as goal

pub loop-place-preserved : goal.loop-place-preserved
loop-place-preserved c =
    let s = c.args.select in
    pushed _ _ _ _ _ _ _ c.in_ok-push.ensures.items (c.picked_bit.ensures ∙ ap (λ (h : List Tern). picked_bit h s.range c.args.word.now s.width 0 c.loop-place.place) c.deref.ensures.value)
    (picked-more c.in_ok-hits.hits.items s.range c.args.word.now s.width c.loop-place.place s.width (omega arith)) c.loop-place.invariant

pub returns : goal.returns
returns c =
    let s = c.args.select in
    ended _ _ _ (picked-end c.in_ok-hits.hits.items s.range c.args.word.now s.width c.loop-place.place s.width (omega arith)) c.loop-place.invariant
    ∙ ap (λ (h : List Tern). picked_from h s.range c.args.word.now s.width 0 s.width) c.in_ok-hits.ensures
