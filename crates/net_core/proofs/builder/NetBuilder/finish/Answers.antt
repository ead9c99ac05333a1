use Rattle.std.proofs.Common.{sym, subst}
use Rattle.net_core.specs.Net.{IsWhole}
use Rattle.net_core.proofs.DraftLemmas.{flat_is}
use Rattle.net_core.proofs.builder.NetBuilder.finish.Goals as goal

pub of-requires : goal.of-requires
of-requires c = flat_is c.self.inside.parts c.self.invariant (subst IsWhole (sym c.self.view_is) c.requires)
