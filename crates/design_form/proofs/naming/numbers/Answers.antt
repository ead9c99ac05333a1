use Rattle.std.proofs.Common.{◌≡◌, map, ap, ◌∙◌, arith}
use Rattle.design_form.specs.Signals.{bounds_of, width_of}
use Rattle.design_form.specs.Tables.{number_at}
use Rattle.design_form.proofs.NameLemmas.{names_from-more, names_from-end}
use Rattle.design_form.proofs.WordLemmas.{pushed, ended}
use Rattle.design_form.proofs.naming.numbers.Goals as goal

pub loop-offset-preserved : goal.loop-offset-preserved
loop-offset-preserved c =
    let wide : c.width-offset-end.result ≡ width_of (bounds_of c.args.signal.now) = c.width-offset-end.ensures ∙ ap width_of c.bounds.ensures in
    pushed _ _ _ _ _ _ _ c.in_ok-push.ensures.items (c.number.ensures ∙ ap (number_at c.args.table.now) (c.deref.ensures.value ∙ c.in_ok-name.ensures))
    (ap (map (number_at c.args.table.now)) (names_from-more c.args.signal.now c.loop-offset.offset (width_of (bounds_of c.args.signal.now)) (omega (arith, wide)))) c.loop-offset.invariant

pub returns : goal.returns
returns c =
    let wide : c.width-offset-end.result ≡ width_of (bounds_of c.args.signal.now) = c.width-offset-end.ensures ∙ ap width_of c.bounds.ensures in
    ended _ _ _ (ap (map (number_at c.args.table.now)) (names_from-end c.args.signal.now c.loop-offset.offset (width_of (bounds_of c.args.signal.now)) (omega (arith, wide)))) c.loop-offset.invariant
