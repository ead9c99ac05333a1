-- Three bytes that are a mark come before two, and two before one.
use Rattle.std.proofs.Common.{◌≡◌, ℕ, take, refl, ◌∙◌, subst, arith, ⊎_elim}
use Rattle.std.proofs.lemmas.Bool.{cases_lt}
use Rattle.vlog_lex.specs.Marks.{IsMark}
use Rattle.vlog_lex.proofs.MarkLemmas.{longest_mark, one}
use Rattle.vlog_lex.proofs.words.mark_len.Goals as goal

pub returns-then-has_triple-clause-longest : goal.returns-then-has_triple-clause-longest
returns-then-has_triple-clause-longest c =
    let found = c.if-has_triple.ensures.found refl in
    longest_mark c.args.bytes.now 3 (omega (arith, found.0)) found.1 (λ m longer small fits is. absurd (omega arith))

pub returns-then-has_pair-clause-longest : goal.returns-then-has_pair-clause-longest
returns-then-has_pair-clause-longest c =
    let found = c.if-has_pair.ensures.found refl in
    longest_mark c.args.bytes.now 2 (omega (arith, found.0)) found.1 (λ m longer small fits is.
    let at : m ≡ 3 = omega arith in
    c.if-has_triple.ensures.none refl (omega arith) (subst (λ (k : ℕ). IsMark (take k c.args.bytes.now)) at is))

pub returns-else-has_pair-clause-longest : goal.returns-else-has_pair-clause-longest
returns-else-has_pair-clause-longest c =
    longest_mark c.args.bytes.now 1 (omega arith) (one c.args.bytes.now c.requires.some ∙ c.requires.single) (λ m longer small fits is.
    ⊎_elim
    (λ more. let at : m ≡ 3 = omega arith in c.if-has_triple.ensures.none refl (omega arith) (subst (λ (k : ℕ). IsMark (take k c.args.bytes.now)) at is))
    (λ less. let at : m ≡ 2 = omega arith in c.if-has_pair.ensures.none refl (omega arith) (subst (λ (k : ℕ). IsMark (take k c.args.bytes.now)) at is))
    (cases_lt 2 m))
