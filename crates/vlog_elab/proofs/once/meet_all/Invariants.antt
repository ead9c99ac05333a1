-- What is left decides.
use Rattle.std.proofs.Common.{◌≡◌, drop}
use Rattle.elab_scopes.specs.Threads.{threaded}
use Rattle.vlog_elab.specs.Bits.{bit_met}
use Rattle.vlog_elab.proofs.once.meet_all.Given as goal

abbrev pub invariant-loop-number : goal.invariant-loop-number
invariant-loop-number l = threaded (bit_met l.design.signals l.place) l.marks.items (drop l.number-index l.numbers) ≡ threaded (bit_met l.design.signals l.place) l.fn.marks.items l.numbers
