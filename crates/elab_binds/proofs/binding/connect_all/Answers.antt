use Rattle.std.proofs.Common.{arith}
use Rattle.elab_drivers.specs.Drafts.{draft_of}
use Rattle.elab_scopes.proofs.ThreadLemmas.{one_more, one_stops, all_done}
use Rattle.elab_binds.specs.Connections.{named_one, so_far}
use Rattle.elab_binds.specs.Flags.{flags_of}
use Rattle.elab_binds.specs.Bindings.{binding}
use Rattle.elab_binds.proofs.binding.connect_all.Goals as goal

pub loop-one-preserved : goal.loop-one-preserved
loop-one-preserved c = one_more (named_one (binding c.args.prefix.now) (flags_of c.args.known.now)) (so_far (flags_of c.loop-one.taken) (draft_of c.loop-one.d)) (so_far (flags_of c.connect_named.new.taken) (draft_of c.connect_named.new.d)) (so_far (flags_of c.args.taken.now) (draft_of c.args.d.now)) c.args.all.now c.loop-one.one-index c.one-item.result (omega arith) c.one-item.is c.loop-one.invariant c.in-Ok.ensures

pub returns-in-Err : goal.returns-in-Err
returns-in-Err c = one_stops (named_one (binding c.args.prefix.now) (flags_of c.args.known.now)) (so_far (flags_of c.loop-one.taken) (draft_of c.loop-one.d)) (so_far (flags_of c.args.taken.now) (draft_of c.args.d.now)) c.in-Err.fault c.args.all.now c.loop-one.one-index c.one-item.result (omega arith) c.one-item.is c.loop-one.invariant c.in-Err.ensures

pub returns : goal.returns
returns c = all_done (named_one (binding c.args.prefix.now) (flags_of c.args.known.now)) (so_far (flags_of c.loop-one.taken) (draft_of c.loop-one.d)) (so_far (flags_of c.args.taken.now) (draft_of c.args.d.now)) c.args.all.now c.loop-one.one-index (omega arith) c.loop-one.invariant
