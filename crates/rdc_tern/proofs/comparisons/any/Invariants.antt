use Rattle.std.proofs.Common.{◌≡◌, drop}
use Rattle.rdc_tern.specs.Kleene.{or_of}
use Rattle.rdc_tern.specs.Words.{any_of}
use Rattle.rdc_tern.proofs.comparisons.any.Given as goal

abbrev pub invariant-loop-bit : goal.invariant-loop-bit
invariant-loop-bit l = or_of l.found (any_of (drop l.bit-index l.word)) ≡ any_of l.word
