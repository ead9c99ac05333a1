-- The signals that are left, put in behind the names so far.
use Rattle.std.proofs.Common.{◌≡◌, map, drop}
use Rattle.design_form.specs.Numbers.{entered, printed, bits_of}
use Rattle.design_form.proofs.naming.sorted.Given as goal

abbrev pub invariant-loop-signal : goal.invariant-loop-signal
invariant-loop-signal l = entered (map (λ n. n.items) l.names.keys) (printed (drop l.signal-index l.signals)) ≡ bits_of l.signals
