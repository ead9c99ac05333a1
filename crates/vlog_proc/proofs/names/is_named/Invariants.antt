-- What is left decides what all say.
use Rattle.std.proofs.Common.{◌≡◌, drop}
use Rattle.vlog_proc.specs.Names.{is_named}
use Rattle.vlog_proc.proofs.names.is_named.Given as goal

abbrev pub invariant-loop-one : goal.invariant-loop-one
invariant-loop-one l = is_named (drop l.one-index l.names) l.name ≡ is_named l.names l.name
