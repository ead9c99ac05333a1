use Rattle.std.proofs.Common.{take}
use Rattle.thin_form.specs.Netlist.{design_of}
use Rattle.rdcsign.specs.Draft.{AddsSources}
use Rattle.rdcsign.proofs.report.add_sources.Given as goal

abbrev pub invariant-sources : goal.invariant-sources
invariant-sources l = AddsSources (design_of l.traced.design.now) l.traced.roles.now (take l.n (design_of l.traced.design.now).sources) l.initial.draft.text l.draft
