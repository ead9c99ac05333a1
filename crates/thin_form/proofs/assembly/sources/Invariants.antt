use Rattle.std.proofs.Common.{◌≡◌, ◌+◌, ◌++◌, drop, length}
use Rattle.thin_tree.specs.Written.{all_declared}
use Rattle.thin_form.specs.Kept.{entries}
use Rattle.thin_form.specs.Assembled.{entries_of, entries_from, registers_of}
use Rattle.thin_form.proofs.assembly.sources.Given as goal

abbrev pub invariant-loop-i : goal.invariant-loop-i
invariant-loop-i l = record {
  made : entries l.out.items ++ entries_from l.i l.r l.flops l.values (all_declared (drop l.i l.declared)) ≡ entries_of l.flops l.values (all_declared l.declared);
  registers : l.r + registers_of (all_declared (drop l.i l.declared)) ≡ length l.flops;
}
