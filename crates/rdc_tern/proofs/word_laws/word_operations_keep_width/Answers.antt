use Rattle.std.proofs.Common.{◌∙◌, sym, length}
use Rattle.std.proofs.lemmas.List.{length-map, length-replicate}
use Rattle.rdc_tern.specs.declared.value.Tern.TheVariants.{Zero, One}
use Rattle.rdc_tern.specs.Kleene.{not_of}
use Rattle.rdc_tern.specs.Words.{zeros, inverted}
use Rattle.rdc_tern.proofs.SumNumbers.{length-sum_of}
use Rattle.rdc_tern.proofs.ProductNumbers.{length-mul_of}
use Rattle.rdc_tern.proofs.ShiftNumbers.{length-shl_of, length-shr_of, length-sar_of}
use Rattle.rdc_tern.proofs.word_laws.word_operations_keep_width.Goals as goal

pub returns : goal.returns
returns c = record {
  sum = length-sum_of Zero;
  difference = λ a b same. length-sum_of One a (inverted b) (same ∙ sym (length-map b not_of));
  negation = λ a. length-sum_of One (zeros a) (inverted a) (length-replicate (length a) Zero ∙ sym (length-map a not_of)) ∙ length-replicate (length a) Zero;
  product = length-mul_of;
  left = length-shl_of;
  right = length-shr_of;
  signed_right = length-sar_of;
}
