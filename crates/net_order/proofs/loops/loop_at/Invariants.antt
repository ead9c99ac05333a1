use Rattle.std.proofs.Common.{ℕ, List, reverse, Contains, length}
use Rattle.net_order.specs.Loops.{IsNeeded}
use Rattle.net_order.specs.Walk.{IsUnder, IsChain, HasLeave}
use Rattle.net_order.proofs.Stepping.{Found}
use Rattle.net_order.proofs.loops.loop_at.Given as goal

abbrev pub invariant-steps : goal.invariant-steps
invariant-steps l = record {
  has : HasLeave l.start (reverse l.steps.items);
  chain : (R : ℕ → List ℕ) (roots : List ℕ) → IsChain R roots (reverse l.fn.steps.items) → IsChain R roots (reverse l.steps.items);
  way : (R : ℕ → List ℕ) (roots : List ℕ) → IsUnder R roots l.start (reverse l.fn.steps.items) → IsChain R roots (reverse l.fn.steps.items)
      → Found R roots l.start (reverse l.found.items) (reverse l.steps.items);
  needed : (R : ℕ → List ℕ) (roots : List ℕ) → IsChain R roots (reverse l.fn.steps.items) → (j : ℕ) → Contains l.found.items j → IsNeeded R roots j;
}

abbrev pub decreases-steps : goal.decreases-steps
decreases-steps l = length l.steps.items
