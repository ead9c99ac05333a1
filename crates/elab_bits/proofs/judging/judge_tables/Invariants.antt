-- What is left of the bits decides what all say.
use Rattle.std.proofs.Common.{◌≡◌, List, drop, length}
use Rattle.design_form.specs.Numbers.{bits_of}
use Rattle.elab_bits.specs.declared.touch.Touch.{Touch}
use Rattle.elab_bits.specs.Tables.{HoldsFirsts}
use Rattle.elab_bits.specs.Judgements.{judged, judged_from}
use Rattle.elab_bits.proofs.judging.judge_tables.Given as goal

abbrev pub invariant-loop-number : goal.invariant-loop-number
invariant-loop-number l =
    (drives reads : List Touch) → HoldsFirsts l.driven (length (bits_of l.design.signals)) drives → HoldsFirsts l.read (length (bits_of l.design.signals)) reads
    → judged_from l.number (drop l.number (bits_of l.design.signals)) drives reads ≡ judged (bits_of l.design.signals) drives reads
