-- The wires so far are met.
use Rattle.std.proofs.Common.{◌≡◌, ℕ, ◌<◌, false, IsTrue, slice_get, Some}
use Rattle.thin_form.specs.Netlist.{NetBit, formulas, wire_of}
use Rattle.thin_cons.specs.Roles.{reads_clock}
use Rattle.thin_cons.proofs.judge.are_wires_met.Given as goal

abbrev pub invariant-loop-b : goal.invariant-loop-b
invariant-loop-b l = (k : ℕ) (bit : NetBit) → k < l.b → slice_get l.design.bits k ≡ Some bit → IsTrue bit.wire → reads_clock l.roles (wire_of (formulas l.design.nodes) bit).value ≡ false
