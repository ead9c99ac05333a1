-- The bits so far, and those that are left.
use Rattle.std.proofs.Common.{◌≡◌, ◌-◌, drop, length}
use Rattle.rdc_tern.specs.Kleene.{and_of}
use Rattle.rdc_tern.specs.Words.{eq_of}
use Rattle.design_form.specs.Bits.{start_word}
use Rattle.design_form.specs.Selects.{difference}
use Rattle.proc_values.specs.Starts.{above, under}
use Rattle.proc_values.proofs.hits.equals.Given as goal

abbrev pub invariant-loop-i : goal.invariant-loop-i
invariant-loop-i l = and_of l.equal (eq_of (drop l.i l.index) (start_word (length l.index - l.i) (difference (above l.below l.left) (under l.below l.left)))) ≡ eq_of l.index (start_word (length l.index) (difference (above l.below l.number) (under l.below l.number)))
