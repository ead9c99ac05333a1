-- The bytes of a name behind the first are the longest name.
use Rattle.std.proofs.Common.{ℕ, List, ap, ◌∙◌, arith}
use Rattle.std.specs.List.{prefix_len}
use Rattle.vlog_lex.specs.Bytes.{is_letter, is_name_byte}
use Rattle.vlog_lex.proofs.WordLemmas.{longest_word}
use Rattle.vlog_lex.proofs.words.name_len.Goals as goal

pub returns-clause-longest : goal.returns-clause-longest
returns-clause-longest c = longest_word is_letter is_name_byte 1 c.args.bytes.now c.name_bytes.result c.requires.some c.requires.letter (c.name_bytes.ensures.value ∙ ap (λ (bs : List ℕ). prefix_len is_name_byte bs) c.split_at.ensures.back) (omega arith)
