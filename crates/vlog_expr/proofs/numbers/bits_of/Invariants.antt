-- What is left decides the bits.
use Rattle.std.proofs.Common.{◌≡◌, ◌^◌, ◌%◌, ◌<◌, drop}
use Rattle.vlog_tree.specs.Numbers.{counted, digit_value}
use Rattle.vlog_expr.proofs.numbers.bits_of.Given as goal

abbrev pub invariant-loop-d : goal.invariant-loop-d
invariant-loop-d l = record { left : counted digit_value l.radix l.value (drop l.d-index l.digits) % 2 ^ 128 ≡ counted digit_value l.radix 0 l.digits % 2 ^ 128; fits : l.value < 2 ^ 128 }
