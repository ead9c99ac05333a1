use Rattle.std.proofs.Common.{◌≡◌, ℕ, ◌||◌, drop}
use Rattle.sat_core.specs.Path.{sign_at}
use Rattle.sat_core.specs.Marked.{stands_in}
use Rattle.sat_core.proofs.derive.mark.Given as goal

abbrev pub invariant-loop-lit : goal.invariant-loop-lit
invariant-loop-lit l = (x : ℕ) → (sign_at l.marks x || stands_in (drop l.lit-index l.clause) x) ≡ (sign_at l.initial.marks x || stands_in l.clause x)
