-- The numbers of the signals so far.
use Rattle.std.proofs.Common.{◌≡◌, map, take}
use Rattle.design_form.specs.Signals.{bit_names}
use Rattle.design_form.specs.Tables.{number_at}
use Rattle.design_form.proofs.naming.all_numbers.Given as goal

abbrev pub invariant-loop-signal : goal.invariant-loop-signal
invariant-loop-signal l = map (λ n. n.items) l.all.items ≡ map (λ s. map (number_at l.table) (bit_names s)) (take l.signal-index l.signals)
