use Rattle.std.proofs.Common.{◌≡◌, ◌++◌, drop}
use Rattle.thin_form.specs.Values.{wires_in}
use Rattle.thin_form.proofs.wiring.wires_read.Given as goal

abbrev pub invariant-loop-term : goal.invariant-loop-term
invariant-loop-term l = l.out.items ++ wires_in (drop l.term-index l.terms) ≡ wires_in l.terms
