use Rattle.std.proofs.Common.{map, ap, ◌∙◌}
use Rattle.net_core.specs.Bits.{bit_of}
use Rattle.net_core.proofs.TableLemmas.{bits_push}
use Rattle.net_core.proofs.bit_table.BitTable.push.Goals as goal

pub returns-clause-ok : goal.returns-clause-ok
returns-clause-ok c =
    ap (map bit_of) c.in_ok-insert.ensures.entries
    ∙ bits_push c.self.inside.entries.entries c.in_ok-name.name c.args.place c.args.self.now c.args.name.now c.self.view_is c.in_ok-name.ensures.ok c.requires
