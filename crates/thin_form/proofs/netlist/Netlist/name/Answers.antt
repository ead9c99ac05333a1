use Rattle.std.proofs.Common.{[], ap}
use Rattle.thin_form.specs.Netlist.{Entry, Netlist}
use Rattle.thin_form.specs.Kept.{an_entry}
use Rattle.thin_form.proofs.Places.{member_of_seen}
use Rattle.thin_form.proofs.netlist.Netlist.name.Goals as goal

pub returns : goal.returns
returns c = member_of_seen an_entry (λ (e : Entry). e.name) c.self.inside.sources.items c.args.self.now.sources c.args.n c.index.result.now [] (ap (λ (net : Netlist). net.sources) c.self.view_is) c.requires c.index.ensures
