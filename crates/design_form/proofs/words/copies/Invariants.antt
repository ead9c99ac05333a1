-- The copies so far, and those that are left.
use Rattle.std.proofs.Common.{◌≡◌, ◌-◌, ◌++◌}
use Rattle.design_form.specs.Bits.{copies}
use Rattle.design_form.proofs.words.copies.Given as goal

abbrev pub invariant-loop-done : goal.invariant-loop-done
invariant-loop-done l = l.all.items ++ copies (l.count - l.done) l.word ≡ copies l.count l.word
