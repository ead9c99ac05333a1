-- What a line claims for itself, of a port or a flop.
--     roles_in, tracks_in, waives_in      the sources that a line gives a role, tracks or waives
--     all_of f before                     those of the lines before
--     Repeats before claims               one of the claims stands among those before it
--     IsTwice before form                 a line repeats a claim
--     IsPastLimit before form             too many flops are tracked
--     IsReadSource net s, ReadsClock net form      a clock that is read as data
use Rattle.std.specs.Prelude.{◌≡◌, ◌⊎◌, ℕ, ◌+◌, ◌<◌, List, [], ◌∷◌, ◌++◌, length, Some, Contains}
use Rattle.std.specs.List.{flat_map}
use Rattle.net_view.specs.FlopNet.{IsFlopAt}
use Rattle.net_view.specs.declared.flop_net.FlopOf.{FlopOf}
use Rattle.net_view.specs.Cone.{ReadsSource}
use Rattle.cons_bind.specs.Names.{Net}
use Rattle.cons_bind.specs.declared.bound.BoundForm.{BoundForm}
use Rattle.cons_bind.specs.declared.bound.BoundForm.TheVariants.{Clock, Reset, Tie, Steady, Track, Order, Isolate, Quiet, Waive}

-- the source that is a clock, a reset, tied or steady by the line
abbrev pub roles_in : BoundForm → List ℕ
roles_in (Clock p) = p ∷ []
roles_in (Reset s high) = s ∷ []
roles_in (Tie p one) = p ∷ []
roles_in (Steady p) = p ∷ []
roles_in (Track flops) = []
roles_in (Order a b) = []
roles_in (Isolate r node one) = []
roles_in (Quiet r c) = []
roles_in (Waive s reason) = []

-- the flops that the line tracks
abbrev pub tracks_in : BoundForm → List ℕ
tracks_in (Track flops) = flops
tracks_in _ = []

-- the flop whose problems the line waives
abbrev pub waives_in : BoundForm → List ℕ
waives_in (Waive s reason) = s ∷ []
waives_in _ = []

-- the claims of one kind that these lines make
abbrev pub all_of : (BoundForm → List ℕ) → List BoundForm → List ℕ
all_of f before = flat_map f before

-- one of the claims stands among those before it
abbrev pub Repeats : List ℕ → List ℕ → Type 0
Repeats before [] = ⊥
Repeats before (s ∷ claims) = Contains before s ⊎ Repeats (before ++ (s ∷ [])) claims

-- the line gives a source a second role, tracks a flop again, or waives one again
abbrev pub IsTwice : List BoundForm → BoundForm → Type 0
IsTwice before form =
    Repeats (all_of roles_in before) (roles_in form)
    ⊎ (Repeats (all_of tracks_in before) (tracks_in form) ⊎ Repeats (all_of waives_in before) (waives_in form))

-- the line is a `track` line, and more than 16 flops are tracked with it
abbrev pub IsPastLimit : List BoundForm → BoundForm → Type 0
IsPastLimit before (Track flops) = 16 < length (all_of tracks_in before) + length flops
IsPastLimit before _ = ⊥

-- source s is in the cone of the data or of the pin of a flop
pub record IsReadSource (net : Net) (s : ℕ) : Type 0 where
  pub flop : ℕ
  pub connections : FlopOf ℕ
  pub is_flop : IsFlopAt net.kinds flop connections
  pub node : ℕ
  pub root : (connections.next ≡ Some node) ⊎ (connections.pin ≡ Some node)
  pub reads : ReadsSource net.gates node s

-- the line declares a clock that is read
abbrev pub ReadsClock : Net → BoundForm → Type 0
ReadsClock net (Clock p) = IsReadSource net p
ReadsClock net _ = ⊥
