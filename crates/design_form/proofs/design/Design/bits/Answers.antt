use Rattle.std.proofs.Common.{arith}
use Rattle.design_form.proofs.DesignLemmas.{few-names}
use Rattle.design_form.proofs.design.Design.bits.Goals as goal

pub overflow_cast-result : goal.overflow_cast-result
overflow_cast-result c = omega (arith, few-names _ _ _ _ _ c.self.invariant)
