-- The order of gates: from the bits in their order, fan-ins first, left before right, each gate once.
--   reads            the gates that a gate reads; a leaf reads the root of its bit
--   post, order      what a gate's value needs, fan-ins first, and all that the bits need, each once
--   IsInOrder        gates that each stand once, and behind all that they read
--   AreInside        each root is a gate of the list
use Rattle.std.specs.Prelude.{ℕ, zero, suc, ◌<◌, List, [], ◌∷◌, ◌++◌, length, slice_get, slice_index_or, Option, Some, None, IfSome, All, if◌then◌else◌, ◌==◌, Contains}
use Rattle.std.specs.List.{flat_map}
use Rattle.net_view.specs.declared.gate.Gate.TheVariants.{Const, Source, Not, And, Or, Xor, Pick, Lift}
use Rattle.net_view.specs.View.{Numbered}

-- the root of a bit, if it has one
abbrev pub root_in : Option ℕ → List ℕ
root_in None = []
root_in (Some k) = k ∷ []

-- what a gate reads, from left to right
abbrev pub fan_ins : List (Option ℕ) → Numbered → List ℕ
fan_ins roots (Const b) = []
fan_ins roots (Source b) = root_in (slice_index_or roots b None)
fan_ins roots (Not a) = a ∷ []
fan_ins roots (And a b) = a ∷ b ∷ []
fan_ins roots (Or a b) = a ∷ b ∷ []
fan_ins roots (Xor a b) = a ∷ b ∷ []
fan_ins roots (Pick c a b) = c ∷ a ∷ b ∷ []
fan_ins roots (Lift c a r) = c ∷ a ∷ []

-- what the gate that is there reads
abbrev pub reads_there : List (Option ℕ) → Option Numbered → List ℕ
reads_there roots None = []
reads_there roots (Some g) = fan_ins roots g

-- what drawn gate k reads
abbrev pub reads : List Numbered → List (Option ℕ) → ℕ → List ℕ
reads gates roots k = reads_there roots (slice_get gates k)

-- the gates that k's value needs, fan-ins first, so many gates deep
abbrev pub post : (ℕ → List ℕ) → ℕ → ℕ → List ℕ
post reads zero k = []
post reads (suc depth) k = flat_map (post reads depth) (reads k) ++ k ∷ []

-- a list without a number
abbrev pub without : ℕ → List ℕ → List ℕ
without x [] = []
without x (y ∷ ys) = if x == y then without x ys else (y ∷ without x ys)

-- each member where it stands first
abbrev pub firsts : List ℕ → List ℕ
firsts [] = []
firsts (x ∷ xs) = x ∷ without x (firsts xs)

-- the roots in the order of their bits
abbrev pub roots_in : List (Option ℕ) → List ℕ
roots_in roots = flat_map root_in roots

-- all that the bits need, fan-ins first, each gate once
abbrev pub order : List Numbered → List (Option ℕ) → List ℕ
order gates roots = firsts (flat_map (post (reads gates roots) (length gates)) (roots_in roots))

-- each of these gates stands here alone, and behind all that it reads, where some stand before
abbrev pub IsInOrder : (ℕ → List ℕ) → List ℕ → List ℕ → Type 0
IsInOrder reads before [] = Unit {0}
IsInOrder reads before (k ∷ ks) = (Contains before k → ⊥) × ((j : ℕ) → Contains (reads k) j → Contains before j) × IsInOrder reads (before ++ k ∷ []) ks

-- each root is one of so many gates
abbrev pub AreInside : ℕ → List (Option ℕ) → Type 0
AreInside count roots = All (λ root. IfSome root (λ k. k < count)) roots
