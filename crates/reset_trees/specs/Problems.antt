-- The problems of the flops of a net, each with what structure alone says of it.
--     IsEdgeMark, IsCalmMark         what an edge and a calm are
--     IsEdge, AreEdges               the edges, by flop
--     IsCalmBy, IsBefore, AreCalms   the calms, by flop and then by source
use Rattle.std.specs.Prelude.{◌≡◌, ◌⊎◌, ℕ, ◌<◌, List, map, Option, Some, None, All, AllPairs, Contains}
use Rattle.net_view.specs.Cone.{Lists}
use Rattle.cons_bind.specs.Names.{Net}
use Rattle.cons_bind.specs.declared.bound.BoundForm.{BoundForm}
use Rattle.reset_trees.specs.declared.answers.Mark.{Mark}
use Rattle.reset_trees.specs.declared.answers.Mark.TheVariants.{Same, Direct, Asked}
use Rattle.reset_trees.specs.declared.answers.Marked.{Marked}
use Rattle.reset_trees.specs.Reads.{HasData}
use Rattle.reset_trees.specs.Same.{IsSame, IsCalm, IsDirect}

-- an edge is the same exactly where that is so
abbrev pub IsEdgeMark : Type 0 → Mark → Type 0
IsEdgeMark IsSo Same = IsSo
IsEdgeMark IsSo Direct = ⊥
IsEdgeMark IsSo Asked = IsSo → ⊥

-- a calm is direct exactly where that is so
abbrev pub IsCalmMark : Type 0 → Mark → Type 0
IsCalmMark IsSo Same = ⊥
IsCalmMark IsSo Direct = IsSo
IsCalmMark IsSo Asked = IsSo → ⊥

-- an edge, as it is
pub record IsEdge (net : Net) (lines : List BoundForm) (edge : Marked) : Type 0 where
  pub by : edge.by ≡ None
  pub mark : IsEdgeMark (IsSame net lines edge.flop) edge.mark

-- the edges of the flops with data, by number
pub record AreEdges (net : Net) (lines : List BoundForm) (edges : List Marked) : Type 0 where
  pub flops : Lists (HasData net) (map (λ (e : Marked). e.flop) edges)
  pub each : All (IsEdge net lines) edges

-- a calm by source s, as it is
pub record IsCalmBy (net : Net) (lines : List BoundForm) (calm : Marked) (s : ℕ) : Type 0 where
  pub by : calm.by ≡ Some s
  pub asked : IsCalm net lines calm.flop s
  pub mark : IsCalmMark (IsDirect net lines calm.flop s) calm.mark

-- the first source is the lower one
abbrev pub IsLower : Option ℕ → Option ℕ → Type 0
IsLower (Some s) (Some t) = s < t
IsLower _ _ = ⊥

-- by flop, and then by source
abbrev pub IsBefore : Marked → Marked → Type 0
IsBefore a b = (a.flop < b.flop) ⊎ ((a.flop ≡ b.flop) × IsLower a.by b.by)

-- all calms that are asked about, by flop and then by source
pub record AreCalms (net : Net) (lines : List BoundForm) (calms : List Marked) : Type 0 where
  pub ordered : AllPairs IsBefore calms
  pub each : All (λ (c : Marked). (s : ℕ) × IsCalmBy net lines c s) calms
  pub whole : (f s : ℕ) → IsCalm net lines f s → (c : Marked) × Contains calms c × (c.flop ≡ f) × (c.by ≡ Some s)
