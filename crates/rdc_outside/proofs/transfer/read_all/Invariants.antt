-- What was read, and what is left, is what was there.
use Rattle.std.proofs.Common.{◌≡◌, ◌≤◌, Some, IfSome, vec_len}
use Rattle.std.specs.Io.KnownBytes.{prepend_known}
use Rattle.rdc_outside.proofs.transfer.read_all.Given as goal

abbrev pub invariant-loop : goal.invariant-loop
invariant-loop g l =
    (vec_len l.bytes ≤ l.most)
    × IfSome (g.F.Read.remaining l.initial.file) (λ told. prepend_known l.bytes.items (g.F.Read.remaining l.file) ≡ Some told)
