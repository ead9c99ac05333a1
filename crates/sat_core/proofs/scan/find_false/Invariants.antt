use Rattle.std.proofs.Common.{◌≡◌, drop}
use Rattle.std.specs.List.{list_any}
use Rattle.sat_core.specs.Path.{sign_at, is_false}
use Rattle.sat_core.proofs.scan.find_false.Given as goal

abbrev pub invariant-loop-n : goal.invariant-loop-n
invariant-loop-n l = list_any (is_false (sign_at l.signs) l.top) (drop l.n l.store.clauses) ≡ list_any (is_false (sign_at l.signs) l.top) l.store.clauses
