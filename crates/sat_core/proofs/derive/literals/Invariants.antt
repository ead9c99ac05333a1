use Rattle.std.proofs.Common.{◌≡◌, ◌+◌, ◌-◌, ◌++◌}
use Rattle.sat_core.specs.Path.{sign_at}
use Rattle.sat_core.specs.Marked.{literals_from}
use Rattle.sat_core.proofs.derive.literals.Given as goal

abbrev pub invariant-loop-variable : goal.invariant-loop-variable
invariant-loop-variable l =
    l.lits.items ++ literals_from (sign_at l.signs) (sign_at l.marks) l.variable (l.last + 1 - l.variable) ≡ literals_from (sign_at l.signs) (sign_at l.marks) 1 l.last
