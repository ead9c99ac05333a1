-- The starts so far, and those that are left.
use Rattle.std.proofs.Common.{◌≡◌, ◌-◌, ◌++◌}
use Rattle.design_form.specs.Extents.{shape_of}
use Rattle.design_form.specs.Selects.{hits_from, starts}
use Rattle.proc_values.proofs.hits.hits.Given as goal

abbrev pub invariant-loop-number : goal.invariant-loop-number
invariant-loop-number l =
    l.hits.items ++ hits_from l.select.part l.select.range l.select.width (shape_of l.extent) l.index l.number (starts l.select.range l.select.width - l.number)
    ≡ hits_from l.select.part l.select.range l.select.width (shape_of l.extent) l.index 0 (starts l.select.range l.select.width)
