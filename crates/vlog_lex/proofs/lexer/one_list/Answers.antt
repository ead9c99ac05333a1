-- One list, from the first byte on.
use Rattle.vlog_lex.proofs.TokenLemmas.{one_list_at}
use Rattle.vlog_lex.proofs.lexer.one_list.Goals as goal

pub returns : goal.returns
returns c = λ bs ts us is also. one_list_at 0 bs ts us is also
