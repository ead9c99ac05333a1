-- What is left decides what all give.
use Rattle.std.proofs.Common.{◌≡◌, map, drop}
use Rattle.elab_names.specs.Answers.{gathered}
use Rattle.elab_names.specs.Statements.{arm_with, statement_in}
use Rattle.elab_names.specs.Meanings.{frames_of}
use Rattle.elab_names.proofs.Lists.{more}
use Rattle.elab_names.proofs.statements.+statements.Given as goal

abbrev pub invariant-statements_in-loop-s : goal.invariant-statements_in-loop-s
invariant-statements_in-loop-s l =
    more l.out (gathered (map (statement_in (frames_of l.scope)) (drop l.s-index l.inner))) ≡ gathered (map (statement_in (frames_of l.scope)) l.inner)

abbrev pub invariant-arms_in-loop-item : goal.invariant-arms_in-loop-item
invariant-arms_in-loop-item l =
    more l.out (gathered (map (arm_with (frames_of l.scope)) (drop l.item-index l.items))) ≡ gathered (map (arm_with (frames_of l.scope)) l.items)
