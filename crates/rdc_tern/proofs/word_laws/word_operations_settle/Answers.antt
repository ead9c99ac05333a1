use Rattle.rdc_tern.proofs.MonotoneLemmas.{words_settle}
use Rattle.rdc_tern.proofs.word_laws.word_operations_settle.Goals as goal

pub returns : goal.returns
returns c = words_settle
