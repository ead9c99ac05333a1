use Rattle.std.proofs.Common.{◌≡◌, ◌^◌, drop, min, length}
use Rattle.rdc_tern.specs.declared.value.Tern.TheVariants.{Zero}
use Rattle.rdc_tern.specs.Shifts.{raised, shift_of}
use Rattle.rdc_tern.proofs.shifts.raise_by.Given as goal

abbrev pub invariant-loop-bit : goal.invariant-loop-bit
invariant-loop-bit l = record {
  left : shift_of (raised Zero) l.bit-index l.word (drop l.bit-index l.amount) ≡ shift_of (raised Zero) 0 l.fn.word l.amount;
  distance : min l.distance (length l.word) ≡ min (2 ^ l.bit-index) (length l.word);
}
