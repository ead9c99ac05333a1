-- What is left of the terminals decides what all give.
use Rattle.std.proofs.Common.{◌≡◌, map, drop}
use Rattle.elab_names.specs.Answers.{gathered}
use Rattle.elab_names.specs.Meanings.{frames_of}
use Rattle.elab_names.proofs.Lists.{more}
use Rattle.elab_drivers.specs.Targets.{assigned}
use Rattle.elab_drivers.proofs.gates.outputs_in.Given as goal

abbrev pub invariant-loop-terminal : goal.invariant-loop-terminal
invariant-loop-terminal l =
    more l.out (gathered (map (assigned (frames_of l.scope)) (drop l.terminal-index l.terminals))) ≡ gathered (map (assigned (frames_of l.scope)) l.terminals)
