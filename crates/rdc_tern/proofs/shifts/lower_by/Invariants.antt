use Rattle.std.proofs.Common.{◌≡◌, ◌^◌, drop, min, length}
use Rattle.rdc_tern.specs.Shifts.{lowered, shift_of}
use Rattle.rdc_tern.proofs.shifts.lower_by.Given as goal

abbrev pub invariant-loop-bit : goal.invariant-loop-bit
invariant-loop-bit l = record {
  left : shift_of (lowered l.fill) l.bit-index l.word (drop l.bit-index l.amount) ≡ shift_of (lowered l.fill) 0 l.fn.word l.amount;
  distance : min l.distance (length l.word) ≡ min (2 ^ l.bit-index) (length l.word);
}
