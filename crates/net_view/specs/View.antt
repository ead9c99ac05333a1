-- A net: a list of gates, each over nodes before it, and its sources.
use Rattle.std.specs.Prelude.{◌≡◌, ℕ, ◌<◌, List, slice_get, Some}
use Rattle.net_view.specs.declared.gate.Gate.{Gate}
use Rattle.net_view.specs.declared.gate.Gate.TheVariants.{Const, Source, Not, And, Or, Xor, Pick, Lift}

-- a gate over numbers
abbrev pub Numbered : Type 0
Numbered = Gate ℕ ℕ

-- the gate with each id replaced by its number
abbrev pub renumbered : {N S : Type 0} → (N → ℕ) → (S → ℕ) → Gate N S → Numbered
renumbered n s (Const b) = Const b
renumbered n s (Source x) = Source (s x)
renumbered n s (Not a) = Not (n a)
renumbered n s (And a b) = And (n a) (n b)
renumbered n s (Or a b) = Or (n a) (n b)
renumbered n s (Xor a b) = Xor (n a) (n b)
renumbered n s (Pick c a b) = Pick (n c) (n a) (n b)
renumbered n s (Lift c a b) = Lift (n c) (n a) b

-- P of each node that the gate reads, and Q of the source that it is
abbrev pub Reads : (ℕ → Type 0) → (ℕ → Type 0) → Numbered → Type 0
Reads P Q (Const b) = Unit {0}
Reads P Q (Source s) = Q s
Reads P Q (Not a) = P a
Reads P Q (And a b) = P a × P b
Reads P Q (Or a b) = P a × P b
Reads P Q (Xor a b) = P a × P b
Reads P Q (Pick c a b) = P c × P a × P b
Reads P Q (Lift c a b) = P c × P a

-- node k of the net is the gate
abbrev pub IsGateAt : List Numbered → ℕ → Numbered → Type 0
IsGateAt gates k g = slice_get gates k ≡ Some g

-- each gate reads nodes before it, and each source has one node
pub record IsNet (gates : List Numbered) (sources : ℕ) : Type 0 where
  pub lower : (k : ℕ) (g : Numbered) → IsGateAt gates k g → Reads (λ j. j < k) (λ s. s < sources) g
  pub placed : (s : ℕ) → s < sources → (k : ℕ) × IsGateAt gates k (Source s)
  pub once : (j k s : ℕ) → IsGateAt gates j (Source s) → IsGateAt gates k (Source s) → j ≡ k
