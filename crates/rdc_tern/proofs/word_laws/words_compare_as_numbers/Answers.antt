use Rattle.rdc_tern.proofs.CompareNumbers.{eq_number, lt_number, lt_signed_number, any_number, all_number, parity_number}
use Rattle.rdc_tern.proofs.word_laws.words_compare_as_numbers.Goals as goal

pub returns : goal.returns
returns c = record {
  equal = eq_number;
  less = lt_number;
  signed_less = lt_signed_number;
  some = any_number;
  every = all_number;
  odd = parity_number;
}
