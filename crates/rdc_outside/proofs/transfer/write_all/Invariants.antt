-- What was written, and what is left, is all of it.
use Rattle.std.proofs.Common.{◌≡◌, ◌++◌, Some, IfSome}
use Rattle.std.specs.Io.KnownBytes.{append_known}
use Rattle.rdc_outside.proofs.transfer.write_all.Given as goal

abbrev pub invariant-loop : goal.invariant-loop
invariant-loop g l =
    IfSome (g.F.Write.contents l.initial.file) (λ told. append_known (g.F.Write.contents l.file) l.rest ≡ Some (told ++ l.bytes))
