use Rattle.std.proofs.Common.{arith}
use Rattle.elab_names.specs.Meanings.{frames_of}
use Rattle.elab_scopes.specs.Tables.{given_of}
use Rattle.elab_scopes.proofs.ThreadLemmas.{one_more, one_stops, all_done}
use Rattle.elab_binds.specs.Connections.{named_one, so_far}
use Rattle.elab_binds.specs.Flags.{flags_of}
use Rattle.elab_binds.specs.Passed.{giving}
use Rattle.elab_binds.proofs.giving.give_all.Goals as goal

pub loop-one-preserved : goal.loop-one-preserved
loop-one-preserved c = one_more (named_one (giving (frames_of c.args.scope.now)) (flags_of c.args.known.now)) (so_far (flags_of c.loop-one.taken) (given_of c.loop-one.given)) (so_far (flags_of c.give_named.new.taken) (given_of c.give_named.new.given)) (so_far (flags_of c.args.taken.now) (given_of c.args.given.now)) c.args.all.now c.loop-one.one-index c.one-item.result (omega arith) c.one-item.is c.loop-one.invariant c.in-Ok.ensures

pub returns-in-Err : goal.returns-in-Err
returns-in-Err c = one_stops (named_one (giving (frames_of c.args.scope.now)) (flags_of c.args.known.now)) (so_far (flags_of c.loop-one.taken) (given_of c.loop-one.given)) (so_far (flags_of c.args.taken.now) (given_of c.args.given.now)) c.in-Err.fault c.args.all.now c.loop-one.one-index c.one-item.result (omega arith) c.one-item.is c.loop-one.invariant c.in-Err.ensures

pub returns : goal.returns
returns c = all_done (named_one (giving (frames_of c.args.scope.now)) (flags_of c.args.known.now)) (so_far (flags_of c.loop-one.taken) (given_of c.loop-one.given)) (so_far (flags_of c.args.taken.now) (given_of c.args.given.now)) c.args.all.now c.loop-one.one-index (omega arith) c.loop-one.invariant
