-- The weight of the signals so far.
use Rattle.std.proofs.Common.{◌≡◌, ◌+◌, take}
use Rattle.std.specs.List.{sum_by}
use Rattle.design_form.specs.Signals.{bounds_of, width_of}
use Rattle.elab_weight.specs.Limits.{capped}
use Rattle.elab_weight.proofs.drivers.bits_weight.Given as goal

abbrev pub invariant-loop-signal : goal.invariant-loop-signal
invariant-loop-signal l = l.weight ≡ capped (l.so_far + sum_by (λ s. width_of (bounds_of s)) (take l.signal-index l.signals))
