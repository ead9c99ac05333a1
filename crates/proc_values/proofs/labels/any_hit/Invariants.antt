-- The labels so far, and those that are left.
use Rattle.std.proofs.Common.{◌≡◌, drop, map}
use Rattle.rdc_tern.specs.Kleene.{or_of}
use Rattle.rdc_tern.specs.Words.{any_of}
use Rattle.design_form.specs.Extents.{shape_of}
use Rattle.proc_values.specs.Labels.{any_hit, label_hit}
use Rattle.proc_values.proofs.labels.any_hit.Given as goal

abbrev pub invariant-loop-i : goal.invariant-loop-i
invariant-loop-i l =
    or_of l.hit (any_of (map (label_hit l.design l.now l.how (shape_of l.context) l.selector) (drop l.i l.labels))) ≡ any_hit l.design l.now l.how (shape_of l.context) l.selector l.labels
