-- In which order wires can be computed, each after those that it reads; wires and what they read are numbers.
--     IsIn v ws                 v is one of ws
--     reads_of rs w             what wire w reads
--     IsReadyAfter rs done ws   each of ws is new and reads only what stands before it
--     IsOrder rs order          all wires, each once, in such an order
--     IsCircle rs ws            each of ws reads one of ws
use Rattle.std.specs.Prelude.{◌≡◌, ℕ, ◌+◌, ◌-◌, ◌<◌, ◌≤◌, ◌≢◌, List, [], ◌∷◌, length, slice_index, slice_index_or, ◌⊎◌, Option, Some, None}
use Rattle.thin_form.specs.declared.ordering.Move.{Move}
use Rattle.thin_form.specs.declared.ordering.Move.TheVariants.{Done, Known, New, OnTheWay}

-- v is one of these
abbrev pub IsIn : ℕ → List ℕ → Type 0
IsIn v [] = ⊥
IsIn v (w ∷ ws) = (v ≡ w) ⊎ IsIn v ws

-- what wire w reads
abbrev pub reads_of : List (List ℕ) → ℕ → List ℕ
reads_of rs w = slice_index_or rs w []

-- each of ws is new, and reads only wires that are done or stand before it
abbrev pub IsReadyAfter : List (List ℕ) → List ℕ → List ℕ → Type 0
IsReadyAfter rs done [] = Unit {0}
IsReadyAfter rs done (w ∷ ws) = (IsIn w done → ⊥) × ((v : ℕ) → IsIn v (reads_of rs w) → IsIn v done) × IsReadyAfter rs (w ∷ done) ws

-- all wires, each once, and each after those that it reads
pub record IsOrder (rs : List (List ℕ)) (order : List ℕ) : Type 0 where
  pub ready : IsReadyAfter rs [] order
  pub all : (w : ℕ) → w < length rs → IsIn w order
  pub within : (w : ℕ) → IsIn w order → w < length rs

-- some wires, each of which reads one of them
pub record IsCircle (rs : List (List ℕ)) (ws : List ℕ) : Type 0 where
  pub some : 0 < length ws
  pub reads : (w : ℕ) → IsIn w ws → (v : ℕ) × IsIn v (reads_of rs w) × IsIn v ws

-- the answer is an order, or there is none since some wires go in a circle
abbrev pub IsOrderOrCircle : List (List ℕ) → Option (List ℕ) → Type 0
IsOrderOrCircle rs (Some order) = IsOrder rs order
IsOrderOrCircle rs None = (ws : List ℕ) × IsCircle rs ws

-- every wire that is read is there
abbrev pub ReadWithin : List (List ℕ) → Type 0
ReadWithin rs = (w v : ℕ) → IsIn v (reads_of rs w) → v < length rs

-- how many steps a walk makes at wire w: it enters, follows each read, and leaves
abbrev pub steps_at : List (List ℕ) → ℕ → ℕ
steps_at rs w = length (reads_of rs w) + 2

-- the wire that u reads next, where it was entered and so many reads were followed
abbrev pub next_of : List (List ℕ) → List ℕ → ℕ → ℕ
next_of rs marks u = slice_index (reads_of rs u) (slice_index marks u - 1)

-- what comes next at wire u: all is followed, or the next read was left, is new, or is on the way to u
abbrev pub IsNext : List (List ℕ) → List ℕ → ℕ → Move → Type 0
IsNext rs marks u Done = length (reads_of rs u) < slice_index marks u
IsNext rs marks u Known = (slice_index marks u ≤ length (reads_of rs u)) × (slice_index marks (next_of rs marks u) ≡ steps_at rs (next_of rs marks u))
IsNext rs marks u (New v) = (slice_index marks u ≤ length (reads_of rs u)) × (v ≡ next_of rs marks u) × (slice_index marks v ≡ 0)
IsNext rs marks u OnTheWay = (slice_index marks u ≤ length (reads_of rs u)) × (0 < slice_index marks (next_of rs marks u)) × (slice_index marks (next_of rs marks u) ≢ steps_at rs (next_of rs marks u))
