use Rattle.std.proofs.Common.{arith}
use Rattle.elab_names.specs.Meanings.{frames_of}
use Rattle.elab_names.proofs.Lists.{more-next, more-fault, more-end}
use Rattle.elab_drivers.specs.Targets.{assigned}
use Rattle.elab_drivers.proofs.gates.outputs_in.Goals as goal

pub returns-in-Err : goal.returns-in-Err
returns-in-Err c = more-fault (assigned (frames_of c.args.scope.now)) c.loop-terminal.out c.args.terminals.now c.loop-terminal.terminal-index c.terminal-item.result c.in-Err.fault _ c.loop-terminal-test.true c.terminal-item.is c.in-Err.ensures c.loop-terminal.invariant

pub loop-terminal-preserved : goal.loop-terminal-preserved
loop-terminal-preserved c = more-next (assigned (frames_of c.args.scope.now)) c.loop-terminal.out c.push.new.self c.args.terminals.now c.loop-terminal.terminal-index c.terminal-item.result c.in-Ok.terminal _ c.loop-terminal-test.true c.terminal-item.is c.in-Ok.ensures c.in-Ok-push.ensures.ok c.loop-terminal.invariant

pub returns : goal.returns
returns c = more-end (assigned (frames_of c.args.scope.now)) c.loop-terminal.out c.args.terminals.now c.loop-terminal.terminal-index _ (omega arith) c.loop-terminal.invariant
