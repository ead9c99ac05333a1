use Rattle.std.proofs.Common.{◌≡◌, ◌+◌, ◌<◌, ℕ, List, take, length, All, Contains, sym, subst, ap, ◌∙◌, arith}
use Rattle.std.proofs.lemmas.List.{take_all}
use Rattle.reset_trees.specs.declared.trees.PinCone.{PinCone}
use Rattle.reset_trees.specs.Graph.{AddsSteps}
use Rattle.reset_trees.specs.PinSteps.{IsPinStep}
use Rattle.reset_trees.proofs.StepLemmas.{pin_none, pin_more, only_added, written_back}
use Rattle.reset_trees.proofs.domain.followers.Goals as goal

pub pins-init : goal.pins-init
pins-init c = pin_none c.args.pins.now c.in_ok-steps.steps.items

pub push_each-requires : goal.push_each-requires
push_each-requires c k d lt =
    let all : All (λ s. s < c.args.count) c.pin-item.result.sources =
    subst (λ (p : PinCone). All (λ s. s < c.args.count) p.sources) (sym c.pin-item.is) (c.requires c.pins.pin-index c.pin-item.result c.pins-test.true) in
    let low = subst (λ (xs : List ℕ). All (λ s. s < c.args.count) xs) (sym c.as_slice.ensures) all k d lt in
    omega (arith, low, c.pins.invariant.len, c.in_ok-steps.ensures.len, ap length c.deref_mut.ensures.value)

pub pins-preserved : goal.pins-preserved
pins-preserved c =
    let start = c.in_ok-steps.steps.items in
    let items = c.pins.steps.items in
    let new = c.push_each.new.steps in
    let same : length new ≡ length items = c.push_each.auto.steps ∙ ap length c.deref_mut.ensures.value in
    let adds = subst (λ (old : List (List ℕ)). AddsSteps (λ i j. Contains c.pin-item.result.sources i × (j ≡ c.pin-item.result.flop)) old new) c.deref_mut.ensures.value
    (subst (λ (xs : List ℕ). AddsSteps (λ i j. Contains xs i × (j ≡ c.pin-item.result.flop)) c.deref_mut.result.now new) c.as_slice.ensures c.in_ok-push_each.ensures) in
    subst (λ (zs : List (List ℕ)). AddsSteps (IsPinStep (take (c.pins.pin-index + 1) c.args.pins.now)) start zs) (sym (written_back new items c.pins.steps.len same (omega (arith, same, c.pins.steps.ok))))
    (pin_more c.args.pins.now c.pins.pin-index c.pin-item.result start items new c.pins-test.true c.pin-item.is c.pins.invariant adds)

pub returns-clause-steps : goal.returns-clause-steps
returns-clause-steps c =
    only_added (IsPinStep c.args.pins.now) c.in_ok-steps.steps.items c.pins.steps.items c.in_ok-steps.ensures.none
    (subst (λ (ps : List PinCone). AddsSteps (IsPinStep ps) c.in_ok-steps.steps.items c.pins.steps.items) (take_all c.pins.pin-index c.args.pins.now c.pins-test.false) c.pins.invariant)

pub returns-clause-len : goal.returns-clause-len
returns-clause-len c = c.pins.invariant.len ∙ c.in_ok-steps.ensures.len
