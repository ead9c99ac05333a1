use Rattle.net_words.proofs.WordWorths.{inverted_gives, each_gives, select_gives}
use Rattle.net_words.proofs.laws.words_are_worth.Goals as goal

pub returns : goal.returns
returns c = record {
  inverse = λ a whole state found valued. inverted_gives whole state found valued a;
  operation = λ op a b whole state found valued. each_gives whole state found valued op a b;
  selection = λ s a b whole state found valued. select_gives whole state found valued s a b;
}
