-- Loops of gates, and those that some bit needs.
--   IsNeeded             the value of some bit needs the gate
--   IsLoop               gates that each read the next, and the last the first
--   IsNeededLoop         such a loop, in what is needed
--   HasNoLoop, IsWhyNot  what an answer says: there is none, or it is one
use Rattle.std.specs.Prelude.{ℕ, List, [], ◌∷◌, Option, All, Contains}
use Rattle.net_view.specs.View.{Numbered}
use Rattle.net_order.specs.declared.fault.OrderFault.{OrderFault}
use Rattle.net_order.specs.declared.fault.OrderFault.TheVariants.{Memory, Loop}
use Rattle.net_order.specs.Order.{reads, roots_in}

-- a root, and each gate that one of these reads
pub data IsNeeded (reads : ℕ → List ℕ) (roots : List ℕ) : ℕ → Type 0 where
  root : (k : ℕ) → Contains roots k → IsNeeded reads roots k
  read : (k j : ℕ) → IsNeeded reads roots k → Contains (reads k) j → IsNeeded reads roots j

-- k reads the first of these, each reads the next, and the last reads j
abbrev pub IsWay : (ℕ → List ℕ) → ℕ → List ℕ → ℕ → Type 0
IsWay reads k [] j = Contains (reads k) j
IsWay reads k (m ∷ ms) j = Contains (reads k) m × IsWay reads m ms j

-- at least one gate; each reads the next, and the last reads the first
abbrev pub IsLoop : (ℕ → List ℕ) → List ℕ → Type 0
IsLoop reads [] = ⊥
IsLoop reads (k ∷ ks) = IsWay reads k ks k

-- a loop of gates that the bits need
pub record IsNeededLoop (gates : List Numbered) (roots : List (Option ℕ)) (ks : List ℕ) : Type 0 where
  pub loop : IsLoop (reads gates roots) ks
  pub needed : All (IsNeeded (reads gates roots) (roots_in roots)) ks

-- no bit needs a loop
abbrev pub HasNoLoop : List Numbered → List (Option ℕ) → Type 0
HasNoLoop gates roots = (ks : List ℕ) → IsNeededLoop gates roots ks → ⊥

-- memory is wanting, or there is this loop
abbrev pub IsWhyNot : List Numbered → List (Option ℕ) → OrderFault → Type 0
IsWhyNot gates roots Memory = Unit {0}
IsWhyNot gates roots (Loop ks) = IsNeededLoop gates roots ks.items
