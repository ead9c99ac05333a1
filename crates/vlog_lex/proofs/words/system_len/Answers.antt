-- The bytes of a name behind the first are the longest name.
use Rattle.std.proofs.Common.{ap, ◌∙◌, arith, eq-eqb}
use Rattle.std.proofs.Common.{ℕ, List}
use Rattle.std.specs.List.{prefix_len}
use Rattle.vlog_lex.specs.Bytes.{is_dollar, is_name_byte}
use Rattle.vlog_lex.proofs.WordLemmas.{longest_word}
use Rattle.vlog_lex.proofs.words.system_len.Goals as goal

pub returns-else-count-eq0-clause-longest : goal.returns-else-count-eq0-clause-longest
returns-else-count-eq0-clause-longest c = longest_word is_dollar is_name_byte 2 c.args.bytes.now c.name_bytes-count.result c.requires.some (eq-eqb _ _ c.requires.dollar) (c.name_bytes-count.ensures.value ∙ ap (λ (bs : List ℕ). prefix_len is_name_byte bs) c.split_at.ensures.back) (omega arith)
