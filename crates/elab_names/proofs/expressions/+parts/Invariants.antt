-- What is left of the members decides what all give.
use Rattle.std.proofs.Common.{◌≡◌, map, drop}
use Rattle.elab_names.specs.Answers.{gathered}
use Rattle.elab_names.specs.Expressions.{put_in}
use Rattle.elab_names.specs.Meanings.{frames_of}
use Rattle.elab_names.proofs.Lists.{more}
use Rattle.elab_names.proofs.expressions.+parts.Given as goal

abbrev pub invariant-all_put_in-loop-member : goal.invariant-all_put_in-loop-member
invariant-all_put_in-loop-member l =
    more l.out (gathered (map (put_in (frames_of l.scope)) (drop l.member-index l.members))) ≡ gathered (map (put_in (frames_of l.scope)) l.members)
