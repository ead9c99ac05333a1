-- One list of files has at most one text.
use Rattle.vlog_pre.proofs.OneLemmas.{one_text_is}
use Rattle.vlog_pre.proofs.laws.one_text.Goals as goal

pub returns : goal.returns
returns c = one_text_is
