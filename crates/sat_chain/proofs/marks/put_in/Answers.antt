-- The count follows the marks.
use Rattle.std.proofs.Common.{◌≡◌, ◌+◌, ◌≤◌, length, None, Some, set, arith}
use Rattle.sat_chain.specs.Marks.{live_in}
use Rattle.sat_chain.proofs.MarkLemmas.{live_more, live_less, live_below}
use Rattle.sat_chain.proofs.marks.put_in.Goals as goal

pub overflow_add-result : goal.overflow_add-result
overflow_add-result c =
    let below : live_in c.args.marks.now + 1 ≤ length c.args.marks.now = live_below c.args.marks.now c.variable_of-variable.result (omega arith) c.in-None.is in
    omega arith

pub overflow_sub-result : goal.overflow_sub-result
overflow_sub-result c =
    let less : live_in (set c.args.marks.now c.variable_of-variable.result None) + 1 ≡ live_in c.args.marks.now = live_less c.args.marks.now c.variable_of-variable.result c.in-Some.sign (omega arith) c.in-Some.is in
    omega arith

pub returns-in-None-clause-live : goal.returns-in-None-clause-live
returns-in-None-clause-live c =
    let more : live_in (set c.args.marks.now c.variable_of-variable.result (Some c.sign_of-positive.result)) ≡ live_in c.args.marks.now + 1 = live_more c.args.marks.now c.variable_of-variable.result c.sign_of-positive.result (omega arith) c.in-None.is in
    omega arith

pub returns-else-sign-positive-clause-live : goal.returns-else-sign-positive-clause-live
returns-else-sign-positive-clause-live c =
    let less : live_in (set c.args.marks.now c.variable_of-variable.result None) + 1 ≡ live_in c.args.marks.now = live_less c.args.marks.now c.variable_of-variable.result c.in-Some.sign (omega arith) c.in-Some.is in
    omega arith
