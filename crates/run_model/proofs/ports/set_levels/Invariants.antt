use Rattle.std.proofs.Common.{◌≡◌, ℕ, drop}
use Rattle.net_view.specs.Values.{at}
use Rattle.run_model.specs.Event.{driven}
use Rattle.run_model.proofs.ports.set_levels.Given as goal

-- what is left leads to what all leads to
abbrev pub invariant-loop-source : goal.invariant-loop-source
invariant-loop-source l = (n : ℕ) → driven (drop l.source-index l.levels) n (at l.new n) ≡ driven l.levels n (at l.initial.new n)
