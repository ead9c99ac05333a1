use Rattle.std.proofs.Common.{ℕ, length, ◌<◌, sym, subst}
use Rattle.net_view.specs.FlopNet.{Bit}
use Rattle.net_core.specs.Net.{Net, IsDraft, ComesLast, with_bit}
use Rattle.net_core.proofs.DraftLemmas.{draft_bit}
use Rattle.net_core.proofs.OrderLemmas.{other_names}
use Rattle.net_core.proofs.CallLemmas.{after_result}
use Rattle.net_core.proofs.builder.NetBuilder.bit.Goals as goal

pub put_bit-requires : goal.put_bit-requires
put_bit-requires c =
    let net = c.self.inside.parts in
    other_names net.bits c.args.name.now c.self.invariant.ordered (subst (λ (n : Net). ComesLast n.bits c.args.name.now) (sym c.self.view_is) c.requires.last)

pub invariant_of-self : goal.invariant_of-self
invariant_of-self c =
    let net = c.self.inside.parts in
    let new : Bit = record { name = c.args.name.now; node = c.number_in-node.result; root = c.args.root } in
    let last = subst (λ (n : Net). ComesLast n.bits c.args.name.now) (sym c.self.view_is) c.requires.last in
    let inside : c.number_in-node.result < length net.gates = subst (λ (n : ℕ). n < length net.gates) (sym c.number_in-node.ensures) (subst (λ (n : Net). c.args.node < length n.gates) (sym c.self.view_is) c.requires.node) in
    let few : length net.bits < 4294967295 = subst (λ (n : Net). length n.bits < 4294967295) (sym c.self.view_is) c.requires.few in
    after_result IsDraft c.put_bit.result c.put_bit.new.self (with_bit net new) net c.put_bit.ensures.ok c.put_bit.ensures.err (draft_bit net new c.self.invariant last inside few) c.self.invariant
