use Rattle.std.proofs.Common.{◌≡◌, drop}
use Rattle.rdc_tern.specs.Kleene.{xor_of}
use Rattle.rdc_tern.specs.Words.{parity_of}
use Rattle.rdc_tern.proofs.comparisons.parity.Given as goal

abbrev pub invariant-loop-bit : goal.invariant-loop-bit
invariant-loop-bit l = xor_of l.odd (parity_of (drop l.bit-index l.word)) ≡ parity_of l.word
