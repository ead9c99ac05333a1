-- What may be asked of a net.
use Rattle.std.specs.Prelude.{ℕ, ◌+◌, ◌*◌, ◌<◌, List, length, ℤ}
use Rattle.std.specs.List.{AllByRecursion}
use Rattle.net_view.specs.View.{Numbered, IsGateAt}
use Rattle.net_view.specs.declared.gate.Gate.TheVariants.{Source}
use Rattle.sat_chain.specs.Clause.{IsClause}

-- two variables a node, and some more
abbrev pub variables : List Numbered → ℕ → ℕ
variables gates extra = 2 * length gates + extra

-- the node is a source
abbrev pub IsSource : List Numbered → ℕ → Type 0
IsSource gates k = (s : ℕ) × IsGateAt gates k (Source s)

-- the nodes are sources
abbrev pub AreSources : List Numbered → List ℕ → Type 0
AreSources gates ks = AllByRecursion (IsSource gates) ks

-- each has a literal at least, and is a clause over so many variables
abbrev pub CanBeAdded : ℕ → List (List ℤ) → Type 0
CanBeAdded vars cs = AllByRecursion (λ c. (0 < length c) × IsClause vars c) cs
