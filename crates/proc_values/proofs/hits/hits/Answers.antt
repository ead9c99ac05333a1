use Rattle.std.proofs.Common.{◌≡◌, arith}
use Rattle.design_form.specs.Extents.{shape_of}
use Rattle.design_form.specs.Signals.{width_of}
use Rattle.design_form.specs.Selects.{starts}
use Rattle.design_form.proofs.WordLemmas.{pushed, ended}
use Rattle.design_form.proofs.SelectLemmas.{hits-more, hits-end}
use Rattle.proc_values.proofs.hits.hits.Goals as goal

pub loop-number-preserved : goal.loop-number-preserved
loop-number-preserved c =
    let s = c.args.select in
    let wide : c.width.result ≡ width_of s.range = c.width.ensures in
    pushed _ _ _ _ _ _ _ c.in_ok-push.ensures.items c.hit.ensures (hits-more s.part s.range s.width (shape_of c.args.extent) c.args.index.now c.loop-number.number (starts s.range s.width) (omega (arith, wide))) c.loop-number.invariant

pub returns : goal.returns
returns c =
    let s = c.args.select in
    let wide : c.width.result ≡ width_of s.range = c.width.ensures in
    ended _ _ _ (hits-end s.part s.range s.width (shape_of c.args.extent) c.args.index.now c.loop-number.number (starts s.range s.width) (omega (arith, wide))) c.loop-number.invariant
