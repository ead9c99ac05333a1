-- What is entered, and behind it what is left, is all.
use Rattle.std.proofs.Common.{◌≡◌, drop}
use Rattle.elab_binds.specs.Flags.{first_of, flags_of}
use Rattle.elab_binds.proofs.FlagLemmas.{behind}
use Rattle.elab_binds.proofs.flags.flags_in.Given as goal

abbrev pub invariant-loop-one : goal.invariant-loop-one
invariant-loop-one g l = behind (flags_of l.flags) (first_of g.S.Socket.called g.S.Socket.flagged (drop l.one-index l.all)) ≡ first_of g.S.Socket.called g.S.Socket.flagged l.all
