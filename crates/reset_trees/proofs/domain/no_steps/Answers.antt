use Rattle.std.proofs.Common.{arith}
use Rattle.reset_trees.proofs.StepLemmas.{empty_rows}
use Rattle.reset_trees.proofs.domain.no_steps.Goals as goal

pub returns-clause-none : goal.returns-clause-none
returns-clause-none c = empty_rows c.steps.steps.items c.steps.invariant.each

pub returns-clause-len : goal.returns-clause-len
returns-clause-len c = omega (arith, c.steps.invariant.count, c.steps-test.false, c.steps.auto._made-end)
