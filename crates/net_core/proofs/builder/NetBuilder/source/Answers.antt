use Rattle.std.proofs.Common.{length, ◌<◌, rules}
use Rattle.net_core.specs.Net.{IsDraft, most_nodes, with_source}
use Rattle.net_core.proofs.DraftLemmas.{draft_source}
use Rattle.net_core.proofs.CallLemmas.{after_result}
use Rattle.net_core.proofs.builder.NetBuilder.source.Goals as goal

pub invariant_of-self : goal.invariant_of-self
invariant_of-self c =
    let net = c.self.inside.parts in
    let less : length net.gates < most_nodes = search rules in
    after_result IsDraft c.put_source.result c.put_source.new.parts (with_source net c.args.name.now) net c.put_source.ensures.ok c.put_source.ensures.err
    (draft_source net c.args.name.now c.self.invariant less) c.self.invariant
