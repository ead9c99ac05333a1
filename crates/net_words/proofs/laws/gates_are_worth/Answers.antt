use Rattle.net_view.specs.declared.gate.Gate.TheVariants.{Const, Source, Not, And, Or, Xor}
use Rattle.net_words.proofs.WorthLemmas.{gives_put}
use Rattle.net_words.proofs.laws.gates_are_worth.Goals as goal

pub returns : goal.returns
returns c = record {
  constant = λ b whole state found valued. gives_put whole state found valued (Const b);
  leaf = λ s whole state found valued. gives_put whole state found valued (Source s);
  inverse = λ a whole state found valued. gives_put whole state found valued (Not a);
  conjunction = λ a b whole state found valued. gives_put whole state found valued (And a b);
  disjunction = λ a b whole state found valued. gives_put whole state found valued (Or a b);
  difference = λ a b whole state found valued. gives_put whole state found valued (Xor a b);
}
