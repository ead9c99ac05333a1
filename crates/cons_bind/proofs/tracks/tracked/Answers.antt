-- The bits of the vector decide.
use Rattle.std.proofs.Common.{◌≡◌, sym, ap, ◌∙◌, length}
use Rattle.std.proofs.lemmas.Bool.{eqb-true, eqb-false}
use Rattle.std.proofs.lemmas.List.{nil_from_length}
use Rattle.cons_bind.specs.Names.{net_of}
use Rattle.cons_bind.proofs.MeaningLemmas.{unknown, tracked_by}
use Rattle.cons_bind.proofs.tracks.tracked.Goals as goal

pub returns-then-is_empty-clause-flops : goal.returns-then-is_empty-clause-flops
returns-then-is_empty-clause-flops g c =
    let net = net_of (g.V.View.gates c.args.view.now) (g.V.FlopNet.names c.args.view.now) (g.V.FlopNet.kinds c.args.view.now) (g.V.FlopNet.named_bits c.args.view.now) in
    let none : length c.as_slice-bits.result.now ≡ 0 = eqb-true _ _ (sym c.is_empty.ensures ∙ c.if-is_empty.true) in
    unknown net c.args.name.now c.in_ok-bits.bits.items c.in_default.ensures c.in_ok-bits.ensures.bits (sym c.as_slice-bits.ensures.value ∙ nil_from_length _ none)

pub returns-clause-flops : goal.returns-clause-flops
returns-clause-flops g c =
    let net = net_of (g.V.View.gates c.args.view.now) (g.V.FlopNet.names c.args.view.now) (g.V.FlopNet.kinds c.args.view.now) (g.V.FlopNet.named_bits c.args.view.now) in
    let some = eqb-false (length c.as_slice-bits.result.now) 0 (sym c.is_empty.ensures ∙ c.if-is_empty.false) in
    tracked_by net c.args.name.now c.in_ok-bits.bits.items c.flops_of.result c.in_default.ensures c.in_ok-bits.ensures.bits
    (λ empty. some (ap length (c.as_slice-bits.ensures.value ∙ empty)))
    (rw c.as_slice-bits.ensures.value at c.flops_of.ensures.flops)
