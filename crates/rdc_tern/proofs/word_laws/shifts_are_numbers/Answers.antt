use Rattle.rdc_tern.proofs.ShiftNumbers.{shl_number, shr_number, sar_number}
use Rattle.rdc_tern.proofs.word_laws.shifts_are_numbers.Goals as goal

pub returns : goal.returns
returns c = record { left = shl_number; right = shr_number; signed_right = sar_number }
