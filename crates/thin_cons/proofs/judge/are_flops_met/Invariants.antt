-- The sources so far are met.
use Rattle.std.proofs.Common.{ℕ, ◌<◌}
use Rattle.thin_form.specs.Netlist.{design_of}
use Rattle.thin_cons.specs.Roles.{IsMetAt}
use Rattle.thin_cons.proofs.judge.are_flops_met.Given as goal

abbrev pub invariant-loop-n : goal.invariant-loop-n
invariant-loop-n l = (k : ℕ) → k < l.n → IsMetAt (design_of l.design) l.roles k
