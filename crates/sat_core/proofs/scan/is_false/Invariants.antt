use Rattle.std.proofs.Common.{◌≡◌, drop}
use Rattle.std.specs.List.{list_all}
use Rattle.sat_core.specs.Path.{sign_at, is_false_literal}
use Rattle.sat_core.proofs.scan.is_false.Given as goal

abbrev pub invariant-loop-lit : goal.invariant-loop-lit
invariant-loop-lit l = list_all (is_false_literal (sign_at l.signs) l.top) (drop l.lit-index l.clause) ≡ list_all (is_false_literal (sign_at l.signs) l.top) l.clause
