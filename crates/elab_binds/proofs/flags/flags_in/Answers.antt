use Rattle.std.proofs.Common.{arith}
use Rattle.elab_binds.specs.Flags.{flags_of}
use Rattle.elab_binds.proofs.FlagLemmas.{no_flag, one_flag, all_flags}
use Rattle.elab_binds.proofs.flags.flags_in.Goals as goal

pub loop-one-init : goal.loop-one-init
loop-one-init g c = no_flag g.S.Socket.called g.S.Socket.flagged (flags_of c.none-flags.result) c.args.all.now c.none-flags.ensures

pub loop-one-preserved : goal.loop-one-preserved
loop-one-preserved g c =
    one_flag g.S.Socket.called g.S.Socket.flagged (flags_of c.loop-one.flags) (flags_of c.enter.new.self) c.args.all.now c.loop-one.one-index c.one-item.result c.called.result.now c.flagged.result (omega arith) c.one-item.is c.called.ensures c.flagged.ensures c.loop-one.invariant c.in_ok-enter.ensures

pub returns : goal.returns
returns g c = all_flags g.S.Socket.called g.S.Socket.flagged (flags_of c.loop-one.flags) c.args.all.now c.loop-one.one-index (omega arith) c.loop-one.invariant
