use Rattle.std.proofs.Common.{List, length, ◌<◌, sym, subst}
use Rattle.net_view.specs.View.{Numbered}
use Rattle.net_view.specs.FlopNet.{Bit, IsBitAt}
use Rattle.std.proofs.Common.{◌≡◌}
use Rattle.net_core.specs.Net.{Net}
use Rattle.net_core.proofs.CallLemmas.{place_inside}
use Rattle.net_core.proofs.flat.FlatNetFlopNet.bit_node.Goals as goal

pub id_at-requires : goal.id_at-requires
id_at-requires c =
    let net = c.self.inside.parts in
    let inside : c.args.b < length net.bits = subst (λ (n : Net). c.args.b < length n.bits) (sym c.self.view_is) c.requires in
    let node = subst (λ (bits : List Bit). (bit : Bit) → IsBitAt bits c.args.b bit → c.place.result.node ≡ bit.node) c.bits.ensures c.place.ensures.node in
    subst (λ (gates : List Numbered). c.place.result.node < length gates) (sym c.gates.ensures) (place_inside net c.args.b c.place.result.node c.self.invariant inside node)
