-- The count follows the marks.
use Rattle.std.proofs.Common.{arith}
use Rattle.sat_chain.proofs.MarkLemmas.{live_less}
use Rattle.sat_chain.proofs.marks.take_out.Goals as goal

pub returns-else-sign-sign_of-clause-live : goal.returns-else-sign-sign_of-clause-live
returns-else-sign-sign_of-clause-live c = λ yes. live_less c.args.marks.now c.variable_of-variable.result c.in-Some.sign (omega arith) c.in-Some.is
