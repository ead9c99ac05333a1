-- Each lead's contract says what stands behind it.
use Rattle.std.proofs.Common.{refl}
use Rattle.vlog_lex.specs.declared.piece.Lead.TheVariants.{Blank, Slash, Letter, Dollar, Backslash, Digit, Quote, Sign, Other}
use Rattle.vlog_lex.specs.Pieces.{IsAfterLead, BreaksAfterLead, slash_at, digit_at}
use Rattle.vlog_lex.proofs.PieceLemmas.{stands, breaks, all_stand, all_break, ok_result, err_result}
use Rattle.vlog_lex.proofs.piece.simple.Goals as goal

pub returns-in-Letter-clause-ok : goal.returns-in-Letter-clause-ok
unfolding IsAfterLead
returns-in-Letter-clause-ok c = stands Letter c.args.bytes.now _ c.in-Letter.ensures.value (record { count = c.name_len.result; longest = c.name_len.ensures.longest; piece = refl })

pub returns-in-Blank-clause-ok : goal.returns-in-Blank-clause-ok
unfolding IsAfterLead
returns-in-Blank-clause-ok c = stands Blank c.args.bytes.now _ c.in-Blank.ensures.value refl

pub returns-in-Sign-clause-ok : goal.returns-in-Sign-clause-ok
unfolding IsAfterLead
returns-in-Sign-clause-ok c = stands Sign c.args.bytes.now _ c.in-Sign.ensures.value (record { count = c.mark_len.result; longest = c.mark_len.ensures.longest; piece = refl })

pub returns-in-Slash-clause-ok : goal.returns-in-Slash-clause-ok
unfolding IsAfterLead
returns-in-Slash-clause-ok c = all_stand Slash c.args.bytes.now c.slash.result c.in-Slash.ensures.value (ok_result c.slash.result (slash_at c.args.bytes.now) c.slash.ensures.value)

pub returns-in-Slash-clause-err : goal.returns-in-Slash-clause-err
unfolding BreaksAfterLead
returns-in-Slash-clause-err c = all_break Slash c.args.bytes.now c.slash.result c.in-Slash.ensures.value (err_result c.slash.result (slash_at c.args.bytes.now) c.slash.ensures.value)

pub returns-in-Digit-clause-ok : goal.returns-in-Digit-clause-ok
unfolding IsAfterLead
returns-in-Digit-clause-ok c = all_stand Digit c.args.bytes.now c.number.result c.in-Digit.ensures.value (ok_result c.number.result (digit_at c.args.bytes.now) c.number.ensures.value)

pub returns-in-Digit-clause-err : goal.returns-in-Digit-clause-err
unfolding BreaksAfterLead
returns-in-Digit-clause-err c = all_break Digit c.args.bytes.now c.number.result c.in-Digit.ensures.value (err_result c.number.result (digit_at c.args.bytes.now) c.number.ensures.value)

pub returns-in-Dollar-clause-ok : goal.returns-in-Dollar-clause-ok
unfolding IsAfterLead
returns-in-Dollar-clause-ok c = all_stand Dollar c.args.bytes.now c.system.result c.in-Dollar.ensures.value c.system.ensures.ok

pub returns-in-Dollar-clause-err : goal.returns-in-Dollar-clause-err
unfolding BreaksAfterLead
returns-in-Dollar-clause-err c = all_break Dollar c.args.bytes.now c.system.result c.in-Dollar.ensures.value c.system.ensures.err

pub returns-in-Backslash-clause-ok : goal.returns-in-Backslash-clause-ok
unfolding IsAfterLead
returns-in-Backslash-clause-ok c = all_stand Backslash c.args.bytes.now c.escaped.result c.in-Backslash.ensures.value c.escaped.ensures.ok

pub returns-in-Backslash-clause-err : goal.returns-in-Backslash-clause-err
unfolding BreaksAfterLead
returns-in-Backslash-clause-err c = all_break Backslash c.args.bytes.now c.escaped.result c.in-Backslash.ensures.value c.escaped.ensures.err

pub returns-in-Quote-clause-ok : goal.returns-in-Quote-clause-ok
unfolding IsAfterLead
returns-in-Quote-clause-ok c = all_stand Quote c.args.bytes.now c.quoted.result c.in-Quote.ensures.value c.quoted.ensures.ok

pub returns-in-Quote-clause-err : goal.returns-in-Quote-clause-err
unfolding BreaksAfterLead
returns-in-Quote-clause-err c = all_break Quote c.args.bytes.now c.quoted.result c.in-Quote.ensures.value c.quoted.ensures.err

pub returns-in-Other-clause-err : goal.returns-in-Other-clause-err
unfolding BreaksAfterLead
returns-in-Other-clause-err c = breaks Other c.args.bytes.now _ c.in-Other.ensures.value refl
