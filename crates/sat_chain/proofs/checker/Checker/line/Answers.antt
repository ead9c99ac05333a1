-- The first word decides which line it is.
use Rattle.std.proofs.Common.{sym, ◌∙◌, refl}
use Rattle.std.specs.Option.{option_copied}
use Rattle.sat_chain.specs.Scan.{words_after}
use Rattle.sat_chain.proofs.LineLemmas.{line_given, line_derived, line_none}
use Rattle.sat_chain.proofs.checker.Checker.line.Goals as goal

pub returns-then-is_one-clause-value : goal.returns-then-is_one-clause-value
returns-then-is_one-clause-value c =
    rw (line_given c.args.self.now.vars c.args.text.now c.first_word.result.0.now (words_after (option_copied c.first_word.result.1)) c.first_word.ensures.words (sym c.is_one.ensures.value ∙ c.if-is_one.true)) c.given_line.ensures.value

pub returns-then-is_one-clause-after : goal.returns-then-is_one-clause-after
returns-then-is_one-clause-after c =
    rw (line_given c.args.self.now.vars c.args.text.now c.first_word.result.0.now (words_after (option_copied c.first_word.result.1)) c.first_word.ensures.words (sym c.is_one.ensures.value ∙ c.if-is_one.true)) c.given_line.ensures.after

pub returns-then-is_one-2-clause-value : goal.returns-then-is_one-2-clause-value
returns-then-is_one-2-clause-value c =
    rw (line_derived c.args.self.now.vars c.args.text.now c.first_word.result.0.now (words_after (option_copied c.first_word.result.1)) c.first_word.ensures.words (sym c.is_one.ensures.value ∙ c.if-is_one.false) (sym c.is_one-2.ensures.value ∙ c.if-is_one-2.true)) c.derived_line.ensures.value

pub returns-then-is_one-2-clause-after : goal.returns-then-is_one-2-clause-after
returns-then-is_one-2-clause-after c =
    rw (line_derived c.args.self.now.vars c.args.text.now c.first_word.result.0.now (words_after (option_copied c.first_word.result.1)) c.first_word.ensures.words (sym c.is_one.ensures.value ∙ c.if-is_one.false) (sym c.is_one-2.ensures.value ∙ c.if-is_one-2.true)) c.derived_line.ensures.after

pub returns-clause-value : goal.returns-clause-value
returns-clause-value c =
    rw (line_none c.args.self.now.vars c.args.text.now c.first_word.result.0.now (words_after (option_copied c.first_word.result.1)) c.first_word.ensures.words (sym c.is_one.ensures.value ∙ c.if-is_one.false) (sym c.is_one-2.ensures.value ∙ c.if-is_one-2.false)) refl
