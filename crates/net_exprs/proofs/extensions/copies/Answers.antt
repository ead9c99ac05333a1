use Rattle.std.proofs.Common.{◌∙◌, sym, length}
use Rattle.net_exprs.proofs.BitSteps.{copies_empty, copies-more, copies-end, empty}
use Rattle.design_form.proofs.WordLemmas.{appended, ended}
use Rattle.net_exprs.proofs.extensions.copies.Goals as goal

pub returns-then-is_empty-clause-items : goal.returns-then-is_empty-clause-items
returns-then-is_empty-clause-items c =
    c.new-all.ensures.items ∙ sym (copies_empty c.args.count c.args.word.now (empty (length c.args.word.now) c.is_empty.result c.is_empty.ensures c.if-is_empty.true))

pub loop-done-preserved : goal.loop-done-preserved
loop-done-preserved c =
    appended c.loop-done.all.items _ c.args.word.now _ _ _ c.in_ok-extend_from_slice.ensures.items (copies-more c.args.count c.loop-done.done c.args.word.now c.loop-done-test.true) c.loop-done.invariant

pub returns-clause-items : goal.returns-clause-items
returns-clause-items c = ended c.loop-done.all.items _ _ (copies-end c.args.count c.loop-done.done c.args.word.now c.loop-done-test.false) c.loop-done.invariant
