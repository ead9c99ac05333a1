-- What is made, and behind it what is left, is all.
use Rattle.std.proofs.Common.{◌≡◌, ◌++◌, drop}
use Rattle.vlog_elab.specs.Flat.{places_of}
use Rattle.vlog_elab.proofs.parts.places_of.Given as goal

abbrev pub invariant-loop-one : goal.invariant-loop-one
invariant-loop-one l = l.places.items ++ places_of (drop l.one-index l.signals) ≡ places_of l.signals
