-- The visible bytes behind the first are the longest name.
use Rattle.std.proofs.Common.{ap, ◌∙◌, arith, eq-eqb}
use Rattle.std.proofs.Common.{ℕ, List}
use Rattle.std.specs.List.{prefix_len}
use Rattle.vlog_lex.specs.Bytes.{is_backslash, is_visible}
use Rattle.vlog_lex.proofs.WordLemmas.{longest_word}
use Rattle.vlog_lex.proofs.words.escaped_len.Goals as goal

pub returns-else-count-eq0-clause-longest : goal.returns-else-count-eq0-clause-longest
returns-else-count-eq0-clause-longest c = longest_word is_backslash is_visible 2 c.args.bytes.now c.visible_bytes-count.result c.requires.some (eq-eqb _ _ c.requires.backslash) (c.visible_bytes-count.ensures.value ∙ ap (λ (bs : List ℕ). prefix_len is_visible bs) c.split_at.ensures.back) (omega arith)
