use Rattle.std.proofs.Common.{arith}
use Rattle.vlog_proc.specs.Uses.{named_targets}
use Rattle.vlog_proc.specs.Assigns.{allowed, rule}
use Rattle.vlog_proc.proofs.Chains.{one_more, one_stops, all_done}
use Rattle.vlog_proc.proofs.targets.+naming.Goals as goal

pub targets_allowed-loop-e-preserved : goal.targets_allowed-loop-e-preserved
targets_allowed-loop-e-preserved t c = one_more (named_targets (allowed (rule c.args.design.now.signals c.args.kind.now.edged c.args.kind.now.variables) c.args.running.now c.args.by)) _ _ c.args.es.now c.loop-e.e-index c.e-item.result (omega arith) c.e-item.is c.loop-e.invariant c.in-Ok.ensures

pub targets_allowed-returns-in-Err : goal.targets_allowed-returns-in-Err
targets_allowed-returns-in-Err t c = one_stops (named_targets (allowed (rule c.args.design.now.signals c.args.kind.now.edged c.args.kind.now.variables) c.args.running.now c.args.by)) _ _ c.args.es.now c.loop-e.e-index c.e-item.result (omega arith) c.e-item.is c.loop-e.invariant c.in-Err.ensures

pub targets_allowed-returns : goal.targets_allowed-returns
targets_allowed-returns t c = all_done (named_targets (allowed (rule c.args.design.now.signals c.args.kind.now.edged c.args.kind.now.variables) c.args.running.now c.args.by)) _ c.args.es.now c.loop-e.e-index (omega arith) c.loop-e.invariant
