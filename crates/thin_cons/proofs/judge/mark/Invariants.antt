-- The nodes so far are marked.
use Rattle.std.proofs.Common.{◌≡◌, map, take}
use Rattle.thin_form.specs.Netlist.{formulas}
use Rattle.thin_cons.specs.Roles.{reads_clock}
use Rattle.thin_cons.proofs.judge.mark.Given as goal

abbrev pub invariant-loop-k : goal.invariant-loop-k
invariant-loop-k l = l.marks.items ≡ map (reads_clock l.roles) (formulas (take l.k l.design.nodes))
