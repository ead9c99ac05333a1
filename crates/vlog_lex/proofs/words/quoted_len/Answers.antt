-- The bytes up to the quote are the longest string, and without a quote there is none.
use Rattle.std.proofs.Common.{ℕ, List, get_or, sym, ap, ◌∙◌}
use Rattle.std.specs.List.{prefix_len}
use Rattle.vlog_lex.specs.Bytes.{is_quotable}
use Rattle.vlog_lex.proofs.WordLemmas.{longest_quoted, no_quoted}
use Rattle.vlog_lex.proofs.words.quoted_len.Goals as goal

pub returns-then-byte_at-eq34-clause-longest : goal.returns-then-byte_at-eq34-clause-longest
returns-then-byte_at-eq34-clause-longest c =
    let closes = sym (c.byte_at.ensures ∙ ap (λ (bs : List ℕ). get_or bs c.quotable_bytes-count.result 0) c.split_at.ensures.back) ∙ c.if-byte_at-eq34.true in
    longest_quoted c.args.bytes.now c.quotable_bytes-count.result c.requires.some c.requires.quote (c.quotable_bytes-count.ensures.value ∙ ap (λ (bs : List ℕ). prefix_len is_quotable bs) c.split_at.ensures.back) closes

pub returns-else-byte_at-eq34-clause-none : goal.returns-else-byte_at-eq34-clause-none
returns-else-byte_at-eq34-clause-none c = no_quoted c.args.bytes.now c.quotable_bytes-count.result c.requires.some (c.quotable_bytes-count.ensures.value ∙ ap (λ (bs : List ℕ). prefix_len is_quotable bs) c.split_at.ensures.back) (λ closed. c.if-byte_at-eq34.false (c.byte_at.ensures ∙ ap (λ (bs : List ℕ). get_or bs c.quotable_bytes-count.result 0) c.split_at.ensures.back ∙ closed))
