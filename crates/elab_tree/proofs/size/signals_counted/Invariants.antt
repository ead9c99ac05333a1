-- What is left decides.
use Rattle.std.proofs.Common.{◌≡◌, drop}
use Rattle.elab_scopes.specs.Threads.{threaded}
use Rattle.elab_tree.specs.Sizes.{signal_counted}
use Rattle.elab_tree.proofs.size.signals_counted.Given as goal

abbrev pub invariant-loop-one : goal.invariant-loop-one
invariant-loop-one l = threaded (signal_counted l.place) l.size (drop l.one-index l.more) ≡ threaded (signal_counted l.place) l.fn.size l.more
