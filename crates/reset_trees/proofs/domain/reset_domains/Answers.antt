use Rattle.std.proofs.Common.{◌≡◌, ◌<◌, ℕ, List, length, All, sym, subst, ap, ◌∙◌, arith}
use Rattle.std.specs.Prelude.{◌↔◌}
use Rattle.std.proofs.lemmas.Result.{IfOk-weaker}
use Rattle.cons_bind.specs.Binding.{forms_of}
use Rattle.cons_bind.specs.Names.{net_of}
use Rattle.cons_bind.specs.declared.bound.BoundLine.{BoundLine}
use Rattle.reset_trees.specs.declared.trees.PinCone.{PinCone}
use Rattle.reset_trees.specs.Domains.{AreInside, AreDomainsOf}
use Rattle.reset_trees.specs.PinSteps.{IsPinStep}
use Rattle.reset_trees.specs.Reach.{IsStep}
use Rattle.reset_trees.specs.Reads.{PinReads}
use Rattle.reset_trees.proofs.StepLemmas.{pins_inside, pin_steps, flop_inside}
use Rattle.reset_trees.proofs.domain.reset_domains.Goals as goal

pub followers-requires : goal.followers-requires
followers-requires g c =
    let net = net_of (g.V.View.gates c.args.view.now) (g.V.FlopNet.names c.args.view.now) (g.V.FlopNet.kinds c.args.view.now) (g.V.FlopNet.named_bits c.args.view.now) in
    subst (λ (n : ℕ). All (λ (pin : PinCone). All (λ s. s < n) pin.sources) c.as_slice.result.now) (sym c.sources.ensures)
    (subst (λ (ps : List PinCone). All (λ (pin : PinCone). All (λ s. s < g.V.View.source_count c.args.view.now) pin.sources) ps) (sym c.as_slice.ensures)
    (pins_inside net (g.V.View.source_count c.args.view.now) c.args.trees.now.pins c.nodes-nodes.ensures.lawful c.requires.trees))

pub domains_of-requires : goal.domains_of-requires
domains_of-requires g c =
    let net = net_of (g.V.View.gates c.args.view.now) (g.V.FlopNet.names c.args.view.now) (g.V.FlopNet.kinds c.args.view.now) (g.V.FlopNet.named_bits c.args.view.now) in
    let count = g.V.View.source_count c.args.view.now in
    let len : length c.deref.result.now ≡ count = ap length c.deref.ensures.value ∙ c.in_ok-steps.ensures.len ∙ c.sources.ensures in
    record {
      inside = subst (λ (n : ℕ). AreInside n (forms_of c.as_slice-2.result.now)) (sym len) (subst (λ (ls : List BoundLine). AreInside count (forms_of ls)) (sym c.as_slice-2.ensures) c.requires.lines);
      closed = λ m n h.
          let led = (c.in_ok-steps.ensures.steps m n).0 (subst (λ (ss : List (List ℕ)). IsStep ss m n) c.deref.ensures.value h) in
          let reads = (pin_steps net c.args.trees.now.pins c.requires.trees m n).0 (subst (λ (ps : List PinCone). IsPinStep ps m n) c.as_slice.ensures led) in
          let low = flop_inside net count n m c.bits-bits.ensures.lawful.each_kind reads in
          omega (arith, low, len);
    }

pub returns : goal.returns
returns g c =
    let net = net_of (g.V.View.gates c.args.view.now) (g.V.FlopNet.names c.args.view.now) (g.V.FlopNet.kinds c.args.view.now) (g.V.FlopNet.named_bits c.args.view.now) in
    let is : (s f : ℕ) → IsStep c.deref.result.now s f ↔ PinReads net f s = λ s f.
    let step = c.in_ok-steps.ensures.steps s f in
    let read = pin_steps net c.args.trees.now.pins c.requires.trees s f in (
      λ h. read.0 (subst (λ (ps : List PinCone). IsPinStep ps s f) c.as_slice.ensures (step.0 (subst (λ (ss : List (List ℕ)). IsStep ss s f) c.deref.ensures.value h))),
      λ p. subst (λ (ss : List (List ℕ)). IsStep ss s f) (sym c.deref.ensures.value) (step.1 (subst (λ (ps : List PinCone). IsPinStep ps s f) (sym c.as_slice.ensures) (read.1 p))),
    ) in
    IfOk-weaker c.domains_of.result _ _ (λ resets h. subst (λ (ls : List BoundLine). AreDomainsOf net (forms_of ls) resets) c.as_slice-2.ensures (h net is)) c.domains_of.ensures
