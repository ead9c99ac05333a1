-- When drawn gates may be placed, and what a call answers.
--   IsPlaced, IsRooted, AreLeaves   a drawn gate stands; each bit has a root that is drawn; leaves are of bits and sources
--   ReadsPlaced                     what a gate reads stands
--   Made, Placed                    what is answered; Full only where the net is full before it is done
use Rattle.std.specs.Prelude.{◌≡◌, ℕ, ◌-◌, ◌<◌, List, length, All, slice_get, Option, Some, None, Result, Ok, Err}
use Rattle.net_view.specs.declared.gate.Gate.TheVariants.{Const, Source, Not, And, Or, Xor, Pick, Lift}
use Rattle.net_view.specs.View.{Numbered, IsGateAt}
use Rattle.net_core.specs.declared.fault.NetFault.{NetFault}
use Rattle.net_core.specs.declared.fault.NetFault.TheVariants.{Memory, Full}
use Rattle.net_place.specs.Places.{Work, Standing}

-- drawn gate k stands at one of so many nodes
pub record IsPlaced (count : ℕ) (places : List (Option ℕ)) (k : ℕ) : Type 0 where
  pub node : ℕ
  pub is : slice_get places k ≡ Some (Some node)
  pub inside : node < count

-- a bit has a root, one of so many drawn gates
abbrev pub HasRoot : ℕ → Option ℕ → Type 0
HasRoot count None = ⊥
HasRoot count (Some k) = k < count

abbrev pub AreRooted : ℕ → List (Option ℕ) → Type 0
AreRooted count roots = All (HasRoot count) roots

-- leaves have numbers below this
abbrev pub AreLeaves : ℕ → List Numbered → Type 0
AreLeaves most gates = (k b : ℕ) → IsGateAt gates k (Source b) → b < most

-- what a leaf stands for has a node
abbrev pub IsLeafPlaced : ℕ → List ℕ → List (Option ℕ) → ℕ → Option (Option ℕ) → Type 0
IsLeafPlaced count sources places past None = past < length sources
IsLeafPlaced count sources places past (Some None) = ⊥
IsLeafPlaced count sources places past (Some (Some k)) = IsPlaced count places k

-- what a gate reads stands
abbrev pub ReadsPlaced : ℕ → List (Option ℕ) → List ℕ → List (Option ℕ) → Numbered → Type 0
ReadsPlaced count roots sources places (Const b) = Unit {0}
ReadsPlaced count roots sources places (Source b) = IsLeafPlaced count sources places (b - length roots) (slice_get roots b)
ReadsPlaced count roots sources places (Not a) = IsPlaced count places a
ReadsPlaced count roots sources places (And a b) = IsPlaced count places a × IsPlaced count places b
ReadsPlaced count roots sources places (Or a b) = IsPlaced count places a × IsPlaced count places b
ReadsPlaced count roots sources places (Xor a b) = IsPlaced count places a × IsPlaced count places b
ReadsPlaced count roots sources places (Pick c a b) = ⊥
ReadsPlaced count roots sources places (Lift c a r) = ⊥

-- a node, or why there is none
abbrev pub Made : Option Standing → List Numbered → Result ℕ NetFault → Type 0
Made made gates (Ok node) = made ≡ Some (record { node = node; gates = gates })
Made made gates (Err Full) = made ≡ None
Made made gates (Err Memory) = Unit {0}

-- the nodes of drawn gates, or why there are none
abbrev pub Placed : {A : Type 0} → (A → List (Option ℕ)) → Option Work → List Numbered → Result A NetFault → Type 0
Placed f placed gates (Ok places) = placed ≡ Some (record { gates = gates; places = f places })
Placed f placed gates (Err Full) = placed ≡ None
Placed f placed gates (Err Memory) = Unit {0}
