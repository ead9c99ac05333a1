-- What is left of the statements decides what all say.
use Rattle.std.proofs.Common.{◌≡◌, map, drop}
use Rattle.vlog_const.specs.Names.{values_of}
use Rattle.proc_loops.specs.Names.{first_among}
use Rattle.proc_loops.specs.Headers.{unknown}
use Rattle.proc_loops.proofs.headers.+headers.Given as goal

abbrev pub invariant-unknown_among-loop-s : goal.invariant-unknown_among-loop-s
invariant-unknown_among-loop-s l = first_among (map (λ s. unknown s (values_of l.scope.env)) (drop l.s-index l.ss)) ≡ first_among (map (λ s. unknown s (values_of l.scope.env)) l.ss)

abbrev pub invariant-unknown_in_arms-loop-arm : goal.invariant-unknown_in_arms-loop-arm
invariant-unknown_in_arms-loop-arm l = first_among (map (λ a. unknown a.body (values_of l.scope.env)) (drop l.arm-index l.arms)) ≡ first_among (map (λ a. unknown a.body (values_of l.scope.env)) l.arms)
