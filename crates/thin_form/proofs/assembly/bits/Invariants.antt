use Rattle.std.proofs.Common.{◌≡◌, ◌+◌, ◌≤◌, ◌++◌, drop, length}
use Rattle.thin_tree.specs.Written.{all_declared}
use Rattle.thin_form.specs.Kept.{all_bits}
use Rattle.thin_form.specs.Assembled.{bits_of, bits_from, wires_of}
use Rattle.thin_form.proofs.assembly.bits.Given as goal

abbrev pub invariant-loop-d : goal.invariant-loop-d
invariant-loop-d l = record {
  made : all_bits l.out.items ++ bits_from l.source l.w l.wires (all_declared (drop l.d-index l.declared)) ≡ bits_of l.wires (all_declared l.declared);
  few : l.source ≤ l.d-index;
  wires : l.w + wires_of (all_declared (drop l.d-index l.declared)) ≡ length l.wires;
}
