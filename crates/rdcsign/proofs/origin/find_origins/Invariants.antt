-- The origins of the nodes so far are known.
use Rattle.std.proofs.Common.{◌≡◌, map, take}
use Rattle.thin_form.specs.Netlist.{formulas, design_of}
use Rattle.rdcsign.specs.Origin.{origin_of}
use Rattle.rdcsign.proofs.origin.find_origins.Given as goal

abbrev pub invariant-loop-k : goal.invariant-loop-k
invariant-loop-k l = l.origins.items ≡ map (origin_of (design_of l.design) l.roles) (formulas (take l.k l.design.nodes))
