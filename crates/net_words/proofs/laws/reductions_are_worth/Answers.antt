use Rattle.net_words.proofs.WordWorths.{any_gives, all_gives, parity_gives}
use Rattle.net_words.proofs.laws.reductions_are_worth.Goals as goal

pub returns : goal.returns
returns c = record {
  any = λ a whole state found valued. any_gives whole state found valued a;
  all = λ a whole state found valued. all_gives whole state found valued a;
  parity = λ a whole state found valued. parity_gives whole state found valued a;
}
