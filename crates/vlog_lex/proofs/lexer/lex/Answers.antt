-- The scan's answer is the only one.
use Rattle.std.proofs.Common.{ℕ, List, sym, subst}
use Rattle.vlog_lex.specs.Tokens.{AreTokens}
use Rattle.vlog_lex.proofs.TokenLemmas.{only}
use Rattle.vlog_lex.proofs.lexer.lex.Goals as goal

pub returns-clause-complete : goal.returns-clause-complete
returns-clause-complete c = λ ts are. only (λ v. v.items) c.scan.result c.as_slice.result.now c.as_slice-2.result.now c.scan.ensures.ok c.scan.ensures.err ts (subst (λ (bs : List ℕ). AreTokens 0 bs ts) (sym c.as_slice.ensures) are)
