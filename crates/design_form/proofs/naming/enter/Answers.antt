use Rattle.std.proofs.Common.{◌≡◌, ap, ◌∙◌, arith}
use Rattle.design_form.specs.Signals.{bounds_of, width_of}
use Rattle.design_form.proofs.NameLemmas.{entered-more, entered-end}
use Rattle.design_form.proofs.naming.enter.Goals as goal

pub loop-offset-preserved : goal.loop-offset-preserved
loop-offset-preserved c =
    let wide : c.width-offset-end.result ≡ width_of (bounds_of c.args.signal.now) = c.width-offset-end.ensures ∙ ap width_of c.bounds.ensures in
    entered-more c.args.signal.now c.loop-offset.offset (width_of (bounds_of c.args.signal.now)) _ _ _ _ (omega (arith, wide)) c.in_ok-name.ensures c.in_ok-insert.ensures.keys c.loop-offset.invariant

pub returns : goal.returns
returns c =
    let wide : c.width-offset-end.result ≡ width_of (bounds_of c.args.signal.now) = c.width-offset-end.ensures ∙ ap width_of c.bounds.ensures in
    entered-end c.args.signal.now c.loop-offset.offset (width_of (bounds_of c.args.signal.now)) _ _ (omega (arith, wide)) c.loop-offset.invariant
