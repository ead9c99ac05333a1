-- What is left decides what all say.
use Rattle.std.proofs.Common.{◌≡◌, ◌++◌, drop}
use Rattle.std.specs.List.{flat_map}
use Rattle.vlog_proc.specs.Paths.{certain}
use Rattle.vlog_proc.proofs.certain.+naming.Given as goal

abbrev pub invariant-put_all_certain-loop-e : goal.invariant-put_all_certain-loop-e
invariant-put_all_certain-loop-e l = l.bits.items ++ flat_map (certain l.design.signals) (drop l.e-index l.es) ≡ l.fn.bits.items ++ flat_map (certain l.design.signals) l.es
