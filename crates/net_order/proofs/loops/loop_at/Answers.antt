use Rattle.std.proofs.Common.{inl, inr, ℕ, List, reverse, Contains, sym, subst, ◌∙◌}
use Rattle.std.proofs.lemmas.List.Elements.{Contains-push_cases}
use Rattle.net_view.proofs.Members.{All-from_contains, contains_reverse}
use Rattle.net_order.specs.declared.step.Step.TheVariants.{Visit, Leave}
use Rattle.net_order.specs.Loops.{IsLoop, IsNeeded, IsWay}
use Rattle.net_order.specs.Walk.{IsChain, HasLeave}
use Rattle.net_order.proofs.Stepping.{Found, taken, found_visit, found_leave, chain_needed, pushed}
use Rattle.net_order.proofs.loops.loop_at.Goals as goal

pub returns-then-k-start-clause-loops : goal.returns-then-k-start-clause-loops
returns-then-k-start-clause-loops c =
    let now = taken c.steps.steps.items c.pop.new.self.items c.in-Some.step (Leave c.in-Leave.k) c.in-Some.ensures.items c.in-Leave.is in
    let found = pushed c.steps.found.items c.push.new.self.items c.in-Leave.k c.in_ok-push-in-Leave.ensures.items in
    λ R roots under chain.
    let links = subst (IsChain R roots) now (c.steps.invariant.chain R roots chain) in
    let was = subst (Found R roots c.args.start (reverse c.steps.found.items)) now (c.steps.invariant.way R roots under chain) in
    let way = (found_leave R roots c.args.start (reverse c.steps.found.items) c.in-Leave.k (reverse c.pop.new.self.items) links.0 was).0 in
    subst (IsLoop R) (sym (c.reverse.ensures.items ∙ found)) (subst (λ (z : ℕ). IsWay R c.in-Leave.k (reverse c.steps.found.items) z) (sym c.if-k-start.true) way)

pub returns-then-k-start-clause-needed : goal.returns-then-k-start-clause-needed
returns-then-k-start-clause-needed c =
    let now = taken c.steps.steps.items c.pop.new.self.items c.in-Some.step (Leave c.in-Leave.k) c.in-Some.ensures.items c.in-Leave.is in
    λ R roots chain.
    let links = subst (IsChain R roots) now (c.steps.invariant.chain R roots chain) in
    let each : (j : ℕ) → Contains c.push.new.self.items j → IsNeeded R roots j = λ j h. elim (Contains-push_cases c.steps.found.items c.in-Leave.k j (subst (λ (z : List ℕ). Contains z j) c.in_ok-push-in-Leave.ensures.items h)) [
      | inl before ↦ c.steps.invariant.needed R roots chain j before
      | inr is ↦ subst (IsNeeded R roots) is (chain_needed R roots (reverse c.pop.new.self.items) links.1 c.in-Leave.k links.0)
    ] in
    All-from_contains (IsNeeded R roots) c.reverse.new.self.items (λ j h. each j ((contains_reverse c.push.new.self.items j).0 (subst (λ (z : List ℕ). Contains z j) c.reverse.ensures.items h)))

pub steps-preserved : goal.steps-preserved
steps-preserved c =
    let now = taken c.steps.steps.items c.pop.new.self.items c.in-Some.step (Leave c.in-Leave.k) c.in-Some.ensures.items c.in-Leave.is in
    let found = pushed c.steps.found.items c.push.new.self.items c.in-Leave.k c.in_ok-push-in-Leave.ensures.items in
    let has = subst (HasLeave c.args.start) now c.steps.invariant.has in
    record {
      has = elim has [ inl e ↦ absurd (c.if-k-start.false (sym e)) | inr h ↦ h ];
      chain = λ R roots chain. (subst (IsChain R roots) now (c.steps.invariant.chain R roots chain)).1;
      way = λ R roots under chain.
          let links = subst (IsChain R roots) now (c.steps.invariant.chain R roots chain) in
          let was = subst (Found R roots c.args.start (reverse c.steps.found.items)) now (c.steps.invariant.way R roots under chain) in
          subst (λ (z : List ℕ). Found R roots c.args.start z (reverse c.pop.new.self.items)) (sym found)
          (found_leave R roots c.args.start (reverse c.steps.found.items) c.in-Leave.k (reverse c.pop.new.self.items) links.0 was);
      needed = λ R roots chain j h.
          let links = subst (IsChain R roots) now (c.steps.invariant.chain R roots chain) in
          elim (Contains-push_cases c.steps.found.items c.in-Leave.k j (subst (λ (z : List ℕ). Contains z j) c.in_ok-push-in-Leave.ensures.items h)) [
            | inl before ↦ c.steps.invariant.needed R roots chain j before
            | inr is ↦ subst (IsNeeded R roots) is (chain_needed R roots (reverse c.pop.new.self.items) links.1 c.in-Leave.k links.0)
          ];
    }

pub steps-preserved-in-Visit : goal.steps-preserved-in-Visit
steps-preserved-in-Visit c =
    let now = taken c.steps.steps.items c.pop.new.self.items c.in-Some.step (Visit c.in-Visit.field-0) c.in-Some.ensures.items c.in-Visit.is in
    record {
      has = subst (HasLeave c.args.start) now c.steps.invariant.has;
      chain = λ R roots chain. (subst (IsChain R roots) now (c.steps.invariant.chain R roots chain)).1;
      way = λ R roots under chain. found_visit R roots c.args.start (reverse c.steps.found.items) c.in-Visit.field-0 (reverse c.pop.new.self.items)
          (subst (Found R roots c.args.start (reverse c.steps.found.items)) now (c.steps.invariant.way R roots under chain));
      needed = c.steps.invariant.needed;
    }
