-- What is left decides all.
use Rattle.std.proofs.Common.{◌≡◌, drop}
use Rattle.proc_values.specs.Runs.{is_among}
use Rattle.net_procs.proofs.changes.is_among.Given as goal

abbrev pub invariant-loop-i : goal.invariant-loop-i
invariant-loop-i l = is_among (drop l.i l.bits) l.bit ≡ is_among l.bits l.bit
