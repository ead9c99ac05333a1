-- The bits of the signals so far.
use Rattle.std.proofs.Common.{◌≡◌, ◌<◌, ◌^◌, length, take}
use Rattle.design_form.specs.Numbers.{printed}
use Rattle.design_form.proofs.parts.Parts.is_countable.Given as goal

abbrev pub invariant-loop-signal : goal.invariant-loop-signal
invariant-loop-signal l = (l.count ≡ length (printed (take l.signal-index l.signal-items))) × (l.count < 2 ^ 32)
