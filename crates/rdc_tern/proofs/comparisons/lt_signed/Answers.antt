use Rattle.std.proofs.Common.{refl}
use Rattle.rdc_tern.proofs.WordSteps.{lt_signed_is}
use Rattle.rdc_tern.proofs.comparisons.lt_signed.Goals as goal

pub returns : goal.returns
returns c = lt_signed_is c.args.a.now c.args.b.now _ _ _ c.less_below.result _ c.requires.some c.requires.same_width refl c.less_below.ensures (rw (c.not.ensures, c.not-2.ensures) at c.less_by.ensures)
