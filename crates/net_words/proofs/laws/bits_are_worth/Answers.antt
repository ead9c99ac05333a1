use Rattle.net_words.proofs.BitWorths.{bit_gives, mux_gives}
use Rattle.net_words.proofs.laws.bits_are_worth.Goals as goal

pub returns : goal.returns
returns c = record {
  operation = λ op a b whole state found valued. bit_gives whole state found valued op a b;
  selection = λ s a b whole state found valued. mux_gives whole state found valued s a b;
}
