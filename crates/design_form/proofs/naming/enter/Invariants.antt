-- The names that are left, put in behind those so far.
use Rattle.std.proofs.Common.{◌≡◌, ◌-◌, map}
use Rattle.design_form.specs.Signals.{names_from, bit_names, bounds_of, width_of}
use Rattle.design_form.specs.Numbers.{entered}
use Rattle.design_form.proofs.naming.enter.Given as goal

abbrev pub invariant-loop-offset : goal.invariant-loop-offset
invariant-loop-offset l =
    entered (map (λ n. n.items) l.names.keys) (names_from l.signal l.offset (width_of (bounds_of l.signal) - l.offset))
    ≡ entered (map (λ n. n.items) l.fn.names.keys) (bit_names l.signal)
