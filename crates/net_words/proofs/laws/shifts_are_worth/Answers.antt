use Rattle.net_words.proofs.ShiftWorths.{shl_gives, shr_gives, sar_gives}
use Rattle.net_words.proofs.laws.shifts_are_worth.Goals as goal

pub returns : goal.returns
returns c = record {
  left = λ a amount whole state found valued. shl_gives whole state found valued a amount;
  right = λ a amount whole state found valued. shr_gives whole state found valued a amount;
  signed_right = λ a amount whole state found valued. sar_gives whole state found valued a amount;
}
