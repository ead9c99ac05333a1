-- What is left of the expressions decides what all say.
use Rattle.std.proofs.Common.{◌≡◌, map, drop}
use Rattle.vlog_const.specs.Names.{values_of}
use Rattle.proc_loops.specs.Names.{first_among, first_name}
use Rattle.proc_loops.specs.Scopes.{stands}
use Rattle.proc_loops.proofs.firsts.+firsts.Given as goal

abbrev pub invariant-first_among-loop-e : goal.invariant-first_among-loop-e
invariant-first_among-loop-e l =
    first_among (map (first_name (stands l.known (values_of l.scope.env))) (drop l.e-index l.es)) ≡ first_among (map (first_name (stands l.known (values_of l.scope.env))) l.es)
