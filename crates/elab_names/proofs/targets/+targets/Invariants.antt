-- What is left of the members decides what all give.
use Rattle.std.proofs.Common.{◌≡◌, map, drop}
use Rattle.elab_names.specs.Answers.{gathered}
use Rattle.elab_names.specs.Targets.{target_in}
use Rattle.elab_names.specs.Meanings.{frames_of}
use Rattle.elab_names.proofs.Lists.{more}
use Rattle.elab_names.proofs.targets.+targets.Given as goal

abbrev pub invariant-targets_in-loop-member : goal.invariant-targets_in-loop-member
invariant-targets_in-loop-member l =
    more l.out (gathered (map (target_in (frames_of l.scope)) (drop l.member-index l.members))) ≡ gathered (map (target_in (frames_of l.scope)) l.members)
