use Rattle.std.proofs.Common.{arith, ap, ◌∙◌, map}
use Rattle.design_form.proofs.NameLemmas.{sorted-more, sorted-end}
use Rattle.design_form.proofs.naming.sorted.Goals as goal

pub loop-signal-preserved : goal.loop-signal-preserved
loop-signal-preserved c = sorted-more c.args.signals.now c.loop-signal.signal-index _ _ _ _ _ c.loop-signal-test.true c.signal-item.is c.in_ok-enter.ensures c.loop-signal.invariant

pub returns : goal.returns
returns c = ap (map (λ n. n.items)) c.in_ok-sorted.ensures ∙ sorted-end c.args.signals.now c.loop-signal.signal-index _ _ (omega arith) c.loop-signal.invariant
