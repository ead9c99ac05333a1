-- What is left of the targets decides what all say.
use Rattle.std.proofs.Common.{◌≡◌, map, drop}
use Rattle.std.specs.List.{list_any}
use Rattle.proc_loops.specs.Names.{is_target}
use Rattle.proc_loops.proofs.names.+targets.Given as goal

abbrev pub invariant-is_target_of_any-loop-e : goal.invariant-is_target_of_any-loop-e
invariant-is_target_of_any-loop-e l = list_any (λ b. b) (map (is_target l.name) (drop l.e-index l.es)) ≡ list_any (λ b. b) (map (is_target l.name) l.es)
