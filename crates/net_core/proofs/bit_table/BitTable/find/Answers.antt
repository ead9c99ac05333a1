use Rattle.std.proofs.Common.{sym}
use Rattle.net_core.proofs.TableLemmas.{finds_at, finds_none}
use Rattle.net_core.proofs.bit_table.BitTable.find.Goals as goal

pub returns-in-Some : goal.returns-in-Some
returns-in-Some c = finds_at c.self.inside.entries.entries c.args.self.now c.args.name.now c.in-Some.b c.self.view_is c.in-Some.ensures.within (sym c.in-Some.ensures.index)

pub returns-in-None : goal.returns-in-None
returns-in-None c = finds_none c.self.inside.entries.entries c.args.self.now c.args.name.now c.self.view_is (sym c.in-None.ensures.index)
