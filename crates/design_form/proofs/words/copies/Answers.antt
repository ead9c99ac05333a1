use Rattle.std.proofs.Common.{arith}
use Rattle.std.proofs.lemmas.Grind.{common_steps}
use Rattle.design_form.proofs.WordLemmas.{copies-more, copies-end, copies-empty, appended, ended}
use Rattle.design_form.proofs.words.copies.Goals as goal

pub returns-then-is_empty : goal.returns-then-is_empty
returns-then-is_empty c = grind (arith, common_steps, copies-empty)

pub loop-done-preserved : goal.loop-done-preserved
loop-done-preserved c = appended _ _ _ _ _ _ c.in_ok-extend_from_slice.ensures.items (copies-more c.args.count c.loop-done.done c.args.word.now (omega arith)) c.loop-done.invariant

pub returns : goal.returns
returns c = ended _ _ _ (copies-end c.args.count c.loop-done.done c.args.word.now (omega arith)) c.loop-done.invariant
