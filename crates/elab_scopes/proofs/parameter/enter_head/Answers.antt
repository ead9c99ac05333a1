use Rattle.std.proofs.Common.{arith}
use Rattle.elab_names.specs.Meanings.{frames_of}
use Rattle.elab_scopes.specs.Tables.{given_of}
use Rattle.elab_scopes.specs.Parameters.{headed}
use Rattle.elab_scopes.proofs.ThreadLemmas.{one_more, one_stops, all_done}
use Rattle.elab_scopes.proofs.parameter.enter_head.Goals as goal

pub loop-one-preserved : goal.loop-one-preserved
unfolding headed
loop-one-preserved c = one_more (headed (given_of c.args.given.now)) (frames_of c.loop-one.scope) (frames_of c.enter.new.scope) (frames_of c.args.scope.now) c.args.head.now c.loop-one.one-index c.one-item.result (omega arith) c.one-item.is c.loop-one.invariant c.in-Ok.ensures

pub returns-in-Err : goal.returns-in-Err
unfolding headed
returns-in-Err c = one_stops (headed (given_of c.args.given.now)) (frames_of c.loop-one.scope) (frames_of c.args.scope.now) c.in-Err.fault c.args.head.now c.loop-one.one-index c.one-item.result (omega arith) c.one-item.is c.loop-one.invariant c.in-Err.ensures

pub returns : goal.returns
returns c = all_done (headed (given_of c.args.given.now)) (frames_of c.loop-one.scope) (frames_of c.args.scope.now) c.args.head.now c.loop-one.one-index (omega arith) c.loop-one.invariant
