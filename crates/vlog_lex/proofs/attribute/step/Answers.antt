-- One piece stands in front, so there is one way to go on.
use Rattle.std.proofs.Common.{sym}
use Rattle.std.proofs.lemmas.Bool.{eqb-true}
use Rattle.vlog_lex.proofs.PieceLemmas.{nothing, not_broken, one_simple}
use Rattle.vlog_lex.proofs.attribute.step.Goals as goal

pub returns-then-is_empty-clause-none : goal.returns-then-is_empty-clause-none
returns-then-is_empty-clause-none c = λ next count on. nothing c.args.bytes.now on.piece (eqb-true _ _ (sym c.if-is_empty.ensures)) on.stands

pub returns-in_default-clause-none : goal.returns-in_default-clause-none
returns-in_default-clause-none c = λ next count on. not_broken c.args.bytes.now on.piece c.in_default.field-0 on.stands c.in_default.ensures.err

pub returns-in-None-clause-none : goal.returns-in-None-clause-none
returns-in-None-clause-none c = λ next count on.
    let same = one_simple c.args.bytes.now on.piece c.in-Ok.piece on.stands c.in-Ok.ensures.ok in
    let leads = on.leads in
    let led = c.after_piece.ensures in
    let nothing = c.in-None.is in
    cc
