-- The names so far, and those that are left.
use Rattle.std.proofs.Common.{◌≡◌, map, take}
use Rattle.design_form.proofs.naming.signal_names.Given as goal

abbrev pub invariant-loop-signal : goal.invariant-loop-signal
invariant-loop-signal l = map (λ n. n.items) l.names.items ≡ map (λ s. s.name) (take l.signal-index l.signals)
