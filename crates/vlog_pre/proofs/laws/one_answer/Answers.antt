-- Where no load fails, one list of files has at most one answer.
use Rattle.vlog_pre.proofs.OneLemmas.{one_answer_is}
use Rattle.vlog_pre.proofs.laws.one_answer.Goals as goal

pub returns : goal.returns
returns c = one_answer_is
