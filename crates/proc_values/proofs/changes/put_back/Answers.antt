use Rattle.std.proofs.Common.{arith, ◌≡◌, List, drop, ap, ◌∙◌}
use Rattle.rdc_tern.specs.declared.value.Tern.{Tern}
use Rattle.proc_values.specs.Marks.{scattered}
use Rattle.proc_values.proofs.ChangeLemmas.{scattered_more, scattered_end}
use Rattle.proc_values.proofs.changes.put_back.Goals as goal

pub loop-i-preserved : goal.loop-i-preserved
loop-i-preserved c =
    rw c.set_value.ensures (scattered_more c.args.bits.now c.args.values.now c.loop-i.state _ c.loop-i.i _ _ c.loop-i-test.true (omega (arith, c.requires, c.loop-i-test.true)) c.loop-i.invariant)

pub returns : goal.returns
returns c = scattered_end c.args.bits.now c.args.values.now c.loop-i.state _ c.loop-i.i c.loop-i-test.false c.loop-i.invariant
