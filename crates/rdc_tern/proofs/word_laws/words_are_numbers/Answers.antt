use Rattle.rdc_tern.proofs.SumNumbers.{number-below, add_whole, number_sum, number_difference, number_negation}
use Rattle.rdc_tern.proofs.ProductNumbers.{number_product, word_is}
use Rattle.rdc_tern.proofs.word_laws.words_are_numbers.Goals as goal

pub returns : goal.returns
returns c = record {
  below = number-below;
  one_word = word_is;
  whole_sum = add_whole;
  sum = number_sum;
  difference = number_difference;
  negation = number_negation;
  product = number_product;
}
