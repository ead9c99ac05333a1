-- What is left decides what all give.
use Rattle.std.proofs.Common.{◌≡◌, [], drop}
use Rattle.vlog_const.specs.Names.{values_of}
use Rattle.proc_loops.specs.Headers.{running}
use Rattle.proc_loops.specs.Turns.{most_turns, turns}
use Rattle.proc_loops.specs.Unrolled.{arm_in, each, unroll}
use Rattle.proc_loops.proofs.unrolling.+unrolling.Given as goal

abbrev pub invariant-each-loop-s : goal.invariant-each-loop-s
invariant-each-loop-s l = each unroll l.done (drop l.s-index l.ss) (values_of l.scope.env) l.p ≡ each unroll [] l.ss (values_of l.scope.env) l.fn.p

abbrev pub invariant-each_arm-loop-arm : goal.invariant-each_arm-loop-arm
invariant-each_arm-loop-arm l = each (arm_in unroll) l.done (drop l.arm-index l.arms) (values_of l.scope.env) l.p ≡ each (arm_in unroll) [] l.arms (values_of l.scope.env) l.fn.p

abbrev pub invariant-turns-loop-left : goal.invariant-turns-loop-left
invariant-turns-loop-left l =
    turns l.left l.header (running (values_of l.scope.env) l.header l.body) (unroll l.body) l.v l.done l.p
    ≡ turns most_turns l.header (running (values_of l.scope.env) l.header l.body) (unroll l.body) l.fn.first [] l.fn.p

abbrev pub decreases-turns-loop-left : goal.decreases-turns-loop-left
decreases-turns-loop-left l = l.left
