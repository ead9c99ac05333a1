use Rattle.std.proofs.Common.{map, string_bytes, ap, ◌∙◌}
use Rattle.net_core.proofs.TableLemmas.{names_push}
use Rattle.net_core.proofs.names.Names.push.Goals as goal

pub returns-clause-ok : goal.returns-clause-ok
returns-clause-ok c =
    ap (map string_bytes) c.in_ok-insert.ensures.keys
    ∙ names_push c.self.inside.set.keys c.in_ok-name.name c.args.self.now c.args.name.now c.self.view_is c.in_ok-name.ensures.ok c.requires
