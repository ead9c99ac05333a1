-- A write that is tried again has written nothing.
use Rattle.std.specs.Io.KnownBytes.{Keeps}
use Rattle.rdc_outside.proofs.transfer.write_some.Given as goal

abbrev pub invariant-loop : goal.invariant-loop
invariant-loop g l = Keeps (g.F.Write.contents l.initial.file) (g.F.Write.contents l.file)
