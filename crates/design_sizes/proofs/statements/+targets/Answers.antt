use Rattle.design_sizes.proofs.TargetForms.{target-Number, target-Name, target-Brackets, target-Repeat, target-Unary, target-Binary, target-Conditional}
use Rattle.design_sizes.proofs.StatementLemmas.{target-nothing}
use Rattle.design_sizes.proofs.statements.+targets.Goals as goal

pub put_target-returns-in-Number : goal.put_target-returns-in-Number
put_target-returns-in-Number t c = target-nothing _ _ _ _ c.in-Number.is (target-Number _ _ _)

pub put_target-returns-in-Name : goal.put_target-returns-in-Name
put_target-returns-in-Name t c = target-nothing _ _ _ _ c.in-Name.is (target-Name _ _ _)

pub put_target-returns-in-Brackets : goal.put_target-returns-in-Brackets
put_target-returns-in-Brackets t c = target-nothing _ _ _ _ c.in-Brackets.is (target-Brackets _ _ _)

pub put_target-returns-in-Repeat : goal.put_target-returns-in-Repeat
put_target-returns-in-Repeat t c = target-nothing _ _ _ _ c.in-Repeat.is (target-Repeat _ _ _ _)

pub put_target-returns-in-Unary : goal.put_target-returns-in-Unary
put_target-returns-in-Unary t c = target-nothing _ _ _ _ c.in-Unary.is (target-Unary _ _ _ _)

pub put_target-returns-in-Binary : goal.put_target-returns-in-Binary
put_target-returns-in-Binary t c = target-nothing _ _ _ _ c.in-Binary.is (target-Binary _ _ _ _ _)

pub put_target-returns-in-Conditional : goal.put_target-returns-in-Conditional
put_target-returns-in-Conditional t c = target-nothing _ _ _ _ c.in-Conditional.is (target-Conditional _ _ _ _ _)
