use Rattle.std.proofs.Common.{arith}
use Rattle.elab_names.specs.Meanings.{frames_of}
use Rattle.elab_scopes.specs.Tables.{given_of}
use Rattle.elab_scopes.specs.Parameters.{parameters_of_item}
use Rattle.elab_scopes.proofs.ThreadLemmas.{one_more, one_stops, all_done}
use Rattle.elab_scopes.proofs.parameter.+items.Goals as goal

pub enter_items-loop-item-preserved : goal.enter_items-loop-item-preserved
enter_items-loop-item-preserved t c = one_more (parameters_of_item (given_of c.args.given.now)) (frames_of c.loop-item.scope) (frames_of c.enter_item.new.scope) (frames_of c.args.scope.now) c.args.items.now c.loop-item.item-index c.item-item.result (omega arith) c.item-item.is c.loop-item.invariant c.in-Ok.ensures

pub enter_items-returns-in-Err : goal.enter_items-returns-in-Err
enter_items-returns-in-Err t c = one_stops (parameters_of_item (given_of c.args.given.now)) (frames_of c.loop-item.scope) (frames_of c.args.scope.now) c.in-Err.fault c.args.items.now c.loop-item.item-index c.item-item.result (omega arith) c.item-item.is c.loop-item.invariant c.in-Err.ensures

pub enter_items-returns : goal.enter_items-returns
enter_items-returns t c = all_done (parameters_of_item (given_of c.args.given.now)) (frames_of c.loop-item.scope) (frames_of c.args.scope.now) c.args.items.now c.loop-item.item-index (omega arith) c.loop-item.invariant
