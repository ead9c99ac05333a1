use Rattle.std.proofs.Common.{ap, ◌∙◌}
use Rattle.design_form.specs.declared.signal.Signal.{Signal}
use Rattle.design_form.specs.Signals.{bounds_of, width_of}
use Rattle.elab_weight.specs.Limits.{capped}
use Rattle.elab_weight.proofs.Sums.{sum-next}
use Rattle.elab_weight.proofs.drivers.bits_weight.Goals as goal

pub loop-signal-preserved : goal.loop-signal-preserved
loop-signal-preserved c =
    sum-next (λ (s : Signal). width_of (bounds_of s)) c.args.so_far c.args.signals.now c.loop-signal.signal-index c.signal-item.result _ _ _
    c.loop-signal-test.true c.signal-item.is (c.capped.ensures ∙ ap capped (c.width.ensures ∙ ap width_of c.bounds.ensures)) c.plus-weight.ensures c.loop-signal.invariant
