-- The bits so far.
use Rattle.std.proofs.Common.{◌≡◌, take}
use Rattle.rdc_tern.specs.Words.{inverted}
use Rattle.design_form.proofs.words.inverted.Given as goal

abbrev pub invariant-loop-bit : goal.invariant-loop-bit
invariant-loop-bit l = l.word.items ≡ inverted (take l.bit-index l.a)
