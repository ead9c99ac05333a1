-- What is left of the table decides.
use Rattle.std.proofs.Common.{◌≡◌, drop, map}
use Rattle.std.specs.List.{list_any}
use Rattle.std.specs.Str.{bytes_eq}
use Rattle.vlog_expr.proofs.names.is_one_of.Given as goal

abbrev pub invariant-loop-w : goal.invariant-loop-w
invariant-loop-w l = list_any (bytes_eq l.word) (map (λ t. t.now) (drop l.w-index l.table)) ≡ list_any (bytes_eq l.word) (map (λ t. t.now) l.table)
