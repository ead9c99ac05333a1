use Rattle.net_words.proofs.ComparisonWorths.{eq_gives, lt_gives, lt_signed_gives}
use Rattle.net_words.proofs.laws.comparisons_are_worth.Goals as goal

pub returns : goal.returns
returns c = record {
  equal = λ a b whole state found valued. eq_gives whole state found valued a b;
  less = λ a b whole state found valued. lt_gives whole state found valued a b;
  signed_less = λ a b whole state found valued. lt_signed_gives whole state found valued a b;
}
