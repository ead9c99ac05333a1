use Rattle.std.proofs.Common.{arith}
use Rattle.elab_names.specs.Meanings.{frames_of}
use Rattle.elab_scopes.specs.Tables.{given_of}
use Rattle.elab_scopes.specs.Parameters.{entered}
use Rattle.elab_scopes.proofs.ThreadLemmas.{one_more, one_stops, all_done}
use Rattle.elab_scopes.proofs.parameter.enter_all.Goals as goal

pub loop-binding-preserved : goal.loop-binding-preserved
loop-binding-preserved c = one_more (entered c.args.shape.now (given_of c.args.given.now)) (frames_of c.loop-binding.scope) (frames_of c.enter.new.scope) (frames_of c.args.scope.now) c.args.bindings.now c.loop-binding.binding-index c.binding-item.result (omega arith) c.binding-item.is c.loop-binding.invariant c.in-Ok.ensures

pub returns-in-Err : goal.returns-in-Err
returns-in-Err c = one_stops (entered c.args.shape.now (given_of c.args.given.now)) (frames_of c.loop-binding.scope) (frames_of c.args.scope.now) c.in-Err.fault c.args.bindings.now c.loop-binding.binding-index c.binding-item.result (omega arith) c.binding-item.is c.loop-binding.invariant c.in-Err.ensures

pub returns : goal.returns
returns c = all_done (entered c.args.shape.now (given_of c.args.given.now)) (frames_of c.loop-binding.scope) (frames_of c.args.scope.now) c.args.bindings.now c.loop-binding.binding-index (omega arith) c.loop-binding.invariant
