use Rattle.rdc_tern.proofs.ShiftNumbers.{shl_moves, shr_moves, sar_moves}
use Rattle.rdc_tern.proofs.word_laws.shifts_move_words.Goals as goal

pub returns : goal.returns
returns c = record { left = shl_moves; right = shr_moves; signed_right = sar_moves }
