-- The bits so far, and those that are left.
use Rattle.std.proofs.Common.{◌≡◌, ◌++◌, drop}
use Rattle.design_form.specs.Bits.{each}
use Rattle.design_form.specs.Gates.{gate_of}
use Rattle.design_form.proofs.words.bitwise.Given as goal

abbrev pub invariant-loop-i : goal.invariant-loop-i
invariant-loop-i l = l.word.items ++ each (gate_of l.op) (drop l.i l.a) (drop l.i l.b) ≡ each (gate_of l.op) l.a l.b
