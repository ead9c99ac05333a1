use Rattle.std.proofs.Common.{◌≡◌, drop}
use Rattle.run_model.specs.Netlist.{level_of}
use Rattle.run_model.proofs.ports.level_at.Given as goal

-- what is left decides
abbrev pub invariant-loop-reset : goal.invariant-loop-reset
invariant-loop-reset l = level_of (drop l.reset-index l.resets) l.port ≡ level_of l.resets l.port
