use Rattle.std.proofs.Common.{◌≡◌, ◌-◌, ◌++◌}
use Rattle.thin_form.specs.Netlist.{source_nodes}
use Rattle.thin_form.proofs.builder.source_nodes.Given as goal

abbrev pub invariant-loop-n : goal.invariant-loop-n
invariant-loop-n l = l.nodes.items ++ source_nodes l.n (l.count - l.n) ≡ source_nodes 0 l.count
