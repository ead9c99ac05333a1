use Rattle.rdc_tern.proofs.MonotoneLemmas.{words_raise}
use Rattle.rdc_tern.proofs.word_laws.word_operations_are_monotone.Goals as goal

pub returns : goal.returns
returns c = words_raise
