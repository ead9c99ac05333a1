-- The count follows the marks.
use Rattle.std.proofs.Common.{◌≡◌, ◌+◌, None, set, arith}
use Rattle.sat_chain.specs.Marks.{live_in}
use Rattle.sat_chain.proofs.MarkLemmas.{live_less}
use Rattle.sat_chain.proofs.marks.clear.Goals as goal

pub overflow_sub-result : goal.overflow_sub-result
overflow_sub-result c =
    let less : live_in (set c.args.marks.now c.variable_of-variable.result None) + 1 ≡ live_in c.args.marks.now = live_less c.args.marks.now c.variable_of-variable.result c.in-Some.field-0 (omega arith) c.in-Some.is in
    omega arith

pub returns-in-Some : goal.returns-in-Some
returns-in-Some c =
    let less : live_in (set c.args.marks.now c.variable_of-variable.result None) + 1 ≡ live_in c.args.marks.now = live_less c.args.marks.now c.variable_of-variable.result c.in-Some.field-0 (omega arith) c.in-Some.is in
    omega arith
