-- The copies so far.
use Rattle.std.proofs.Common.{◌≡◌}
use Rattle.proc_cases.specs.Masks.{copies}
use Rattle.proc_cases.proofs.masks.copies.Given as goal

abbrev pub invariant-loop : goal.invariant-loop
invariant-loop l = l.all ≡ copies l.counter l.row
