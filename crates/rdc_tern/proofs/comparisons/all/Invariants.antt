use Rattle.std.proofs.Common.{◌≡◌, drop}
use Rattle.rdc_tern.specs.Kleene.{and_of}
use Rattle.rdc_tern.specs.Words.{all_of}
use Rattle.rdc_tern.proofs.comparisons.all.Given as goal

abbrev pub invariant-loop-bit : goal.invariant-loop-bit
invariant-loop-bit l = and_of l.found (all_of (drop l.bit-index l.word)) ≡ all_of l.word
