-- The numbers so far, and those that are left.
use Rattle.std.proofs.Common.{◌≡◌, ◌-◌, ◌++◌, map}
use Rattle.design_form.specs.Signals.{names_from, bit_names, bounds_of, width_of}
use Rattle.design_form.specs.Tables.{number_at}
use Rattle.design_form.proofs.naming.numbers.Given as goal

abbrev pub invariant-loop-offset : goal.invariant-loop-offset
invariant-loop-offset l =
    l.numbers.items ++ map (number_at l.table) (names_from l.signal l.offset (width_of (bounds_of l.signal) - l.offset))
    ≡ map (number_at l.table) (bit_names l.signal)
