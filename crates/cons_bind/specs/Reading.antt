-- The nodes that flops read, as code marks them.
use Rattle.std.specs.Prelude.{◌≡◌, ◌↔◌, ◌⊎◌, ℕ, Bool, false, IsTrue, List, length, slice_index_or, Some}
use Rattle.net_view.specs.declared.flop_net.FlopOf.{FlopOf}
use Rattle.net_view.specs.View.{Numbered}
use Rattle.net_view.specs.FlopNet.{Kind, IsFlopAt}
use Rattle.net_view.specs.Cone.{InCone}
use Rattle.cons_bind.specs.Names.{Net}

-- node k is the data or the pin of the flop at source s
pub record IsRootOf (kinds : List Kind) (s k : ℕ) : Type 0 where
  pub connections : FlopOf ℕ
  pub is_flop : IsFlopAt kinds s connections
  pub root : (connections.next ≡ Some k) ⊎ (connections.pin ≡ Some k)

-- node k is the data or the pin of some flop
abbrev pub IsRoot : Net → ℕ → Type 0
IsRoot net k = (s : ℕ) × IsRootOf net.kinds s k

-- node k is in the cone of a marked node
abbrev pub IsReadBy : List Numbered → List Bool → ℕ → Type 0
IsReadBy gates marks k = (root : ℕ) × IsTrue (slice_index_or marks root false) × InCone gates root k

-- node k is in the cone of the data or of the pin of some flop
abbrev pub IsReadNode : Net → ℕ → Type 0
IsReadNode net k = (root : ℕ) × IsRoot net root × InCone net.gates root k

-- nothing is marked
abbrev pub AreUnmarked : List Bool → Type 0
AreUnmarked marks = (k : ℕ) → slice_index_or marks k false ≡ false

-- what was marked still is, and the numbers with the property are
pub record Adds (P : ℕ → Type 0) (old new : List Bool) : Type 0 where
  pub each : (k : ℕ) → IsTrue (slice_index_or new k false) ↔ (P k ⊎ IsTrue (slice_index_or old k false))
  pub len : length new ≡ length old
