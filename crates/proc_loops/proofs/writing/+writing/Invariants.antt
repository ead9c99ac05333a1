-- What is written of the expressions so far.
use Rattle.std.proofs.Common.{◌≡◌, map, take}
use Rattle.vlog_const.specs.Names.{values_of}
use Rattle.design_form.specs.ConstantLaws.{written}
use Rattle.proc_loops.proofs.writing.+writing.Given as goal

abbrev pub invariant-all-loop-e : goal.invariant-all-loop-e
invariant-all-loop-e l = l.done ≡ map (written (values_of l.env)) (take l.e-index l.es)
