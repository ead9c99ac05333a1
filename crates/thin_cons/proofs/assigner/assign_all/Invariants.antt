-- The lines so far have given their roles.
use Rattle.std.proofs.Common.{map, take}
use Rattle.thin_form.specs.Netlist.{design_of}
use Rattle.thin_cons.specs.Forms.{declaration_of}
use Rattle.thin_cons.specs.Roles.{AreRoles}
use Rattle.thin_cons.proofs.assigner.assign_all.Given as goal

abbrev pub invariant-loop-line : goal.invariant-loop-line
invariant-loop-line l = AreRoles (design_of l.design) (map declaration_of (take l.line-index l.lines)) l.roles.items
