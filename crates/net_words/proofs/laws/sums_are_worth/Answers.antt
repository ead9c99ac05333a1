use Rattle.net_words.proofs.SumWorths.{add_gives, sub_gives, neg_gives, mul_gives}
use Rattle.net_words.proofs.laws.sums_are_worth.Goals as goal

pub returns : goal.returns
returns c = record {
  sum = λ a b whole state found valued. add_gives whole state found valued a b;
  difference = λ a b whole state found valued. sub_gives whole state found valued a b;
  product = λ a b whole state found valued. mul_gives whole state found valued a b;
  negation = λ a whole state found valued. neg_gives whole state found valued a;
}
