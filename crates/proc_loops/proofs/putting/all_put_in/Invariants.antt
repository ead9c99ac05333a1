-- What is left of the expressions decides what all give.
use Rattle.std.proofs.Common.{◌≡◌, [], drop}
use Rattle.vlog_const.specs.Names.{values_of}
use Rattle.proc_loops.specs.Unrolled.{all_put_in}
use Rattle.proc_loops.proofs.putting.all_put_in.Given as goal

abbrev pub invariant-loop-e : goal.invariant-loop-e
invariant-loop-e l = all_put_in (values_of l.scope.env) l.done (drop l.e-index l.es) ≡ all_put_in (values_of l.scope.env) [] l.es
