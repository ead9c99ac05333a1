-- The pin order: all flops, each after the flops in the cone of its pin.
--   IsFlop, IsFlopNode         flops, and their nodes
--   DependsOn, IsNamedBefore   which flops a pin reads, and name order
--   IsPinOrder, IsPinLoop      the order, and a cycle
--   OrderAnswers               each answer of pin_order
use Rattle.std.specs.Prelude.{◌≡◌, ◌⊎◌, ℕ, ◌<◌, true, List, [], map, Some, Result, Ok, Err, Vec, slice_index_or}
use Rattle.std.specs.declared.alloc.Global.{Global}
use Rattle.std.specs.Ordering.{nat_cmp, is_lt}
use Rattle.std.specs.Cmp.Lexicographic.{slice_cmp}
use Rattle.net_view.specs.declared.fault.OrderFault.{OrderFault}
use Rattle.net_view.specs.declared.fault.OrderFault.TheVariants.{Memory, Loop}
use Rattle.net_view.specs.declared.flop_net.FlopOf.{FlopOf}
use Rattle.net_view.specs.declared.gate.Gate.TheVariants.{Source}
use Rattle.net_view.specs.View.{Numbered, IsGateAt}
use Rattle.net_view.specs.FlopNet.{Kind, IsFlopAt}
use Rattle.net_view.specs.Cone.{ReadsSource}
use Rattle.net_view.specs.LeastFirst.{IsLeastFirst, IsLoop}

-- source s is a flop
abbrev pub IsFlop : List Kind → ℕ → Type 0
IsFlop kinds s = (f : FlopOf ℕ) × IsFlopAt kinds s f

-- node n is source s, and a flop
abbrev pub IsFlopNode : List Numbered → List Kind → ℕ → ℕ → Type 0
IsFlopNode gates kinds n s = IsGateAt gates n (Source s) × IsFlop kinds s

-- flop g is in the cone of the pin of flop f
pub record DependsOn (gates : List Numbered) (kinds : List Kind) (f g : ℕ) : Type 0 where
  pub flop : FlopOf ℕ
  pub is_flop : IsFlopAt kinds f flop
  pub pin : ℕ
  pub has_pin : flop.pin ≡ Some pin
  pub reads : ReadsSource gates pin g
  pub other : IsFlop kinds g

-- the printed name of source s
abbrev pub name_of : List (List ℕ) → ℕ → List ℕ
name_of names s = slice_index_or names s []

-- the name of source f comes first in byte order, or of equal names f is the lower source
abbrev pub IsNamedBefore : List (List ℕ) → ℕ → ℕ → Type 0
IsNamedBefore names f g =
    (is_lt (slice_cmp nat_cmp (name_of names f) (name_of names g)) ≡ true) ⊎ ((name_of names f ≡ name_of names g) × (f < g))

-- all flops, next each time the first in name order that depends on none that isn't listed yet
abbrev pub IsPinOrder : List Numbered → List (List ℕ) → List Kind → List ℕ → Type 0
IsPinOrder gates names kinds = IsLeastFirst (IsFlop kinds) (DependsOn gates kinds) (IsNamedBefore names)

-- the flops of one cycle, from the least name on
abbrev pub IsPinLoop : List Numbered → List (List ℕ) → List Kind → List ℕ → Type 0
IsPinLoop gates names kinds = IsLoop (IsFlop kinds) (DependsOn gates kinds) (IsNamedBefore names)

-- each answer of pin_order: the order where there is no cycle, and else a cycle by name
abbrev pub OrderAnswers : {S : Type 0} → (S → ℕ) → List Numbered → List (List ℕ) → List Kind → Result (Vec S Global) OrderFault → Type 0
OrderAnswers number gates names kinds (Ok order) =
    IsPinOrder gates names kinds (map number order.items) × ((flops : List ℕ) → IsPinLoop gates names kinds flops → ⊥)
OrderAnswers number gates names kinds (Err Memory) = Unit {0}
OrderAnswers number gates names kinds (Err (Loop loop)) = (flops : List ℕ) × IsPinLoop gates names kinds flops × (loop ≡ map (name_of names) flops)
