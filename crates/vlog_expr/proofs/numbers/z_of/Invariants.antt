-- What is left decides the positions.
use Rattle.std.proofs.Common.{◌≡◌, ◌^◌, ◌%◌, ◌<◌, drop}
use Rattle.vlog_tree.specs.Numbers.{counted, z_value, z_before}
use Rattle.vlog_expr.proofs.numbers.z_of.Given as goal

abbrev pub invariant-loop-d : goal.invariant-loop-d
invariant-loop-d l = record { left : counted (z_value l.radix) l.radix l.value (drop l.d-index l.digits) % 2 ^ 128 ≡ counted (z_value l.radix) l.radix (z_before l.digits) l.digits % 2 ^ 128; fits : l.value < 2 ^ 128 }
