-- Items by number that are listed one after another, each once all that it needs is listed.
--   needs_of, Needs, need_at, is_marked   what an item needs, what it waits for, and marks
--   Waits, IsQueue                        an item that waits, and the state of the whole
--   Nexts, IsListing, IsCycle             what is listed so far, the whole list, and a cycle
--   IsStuck, Turns                        items that wait for one another, and a list from its least number on
use Rattle.std.specs.Prelude.{◌≡◌, ◌≢◌, ◌⊎◌, ◌↔◌, ℕ, ◌<◌, ◌≤◌, Bool, true, false, List, [], ◌∷◌, ◌++◌, take, length, slice_index, slice_index_or, Contains, AllPairs}
use Rattle.net_view.specs.LeastFirst.{IsNext, IsLeastFirst, IsLoop}

-- what item f needs
abbrev pub needs_of : List (List ℕ) → ℕ → List ℕ
needs_of needs f = slice_index_or needs f []

-- item f needs item g
abbrev pub Needs : List (List ℕ) → ℕ → ℕ → Type 0
Needs needs f g = Contains (needs_of needs f) g

-- the need at which item f has come
abbrev pub need_at : List (List ℕ) → List ℕ → ℕ → ℕ
need_at needs at f = slice_index (needs_of needs f) (slice_index at f)

-- whether item f is marked
abbrev pub is_marked : List Bool → ℕ → Bool
is_marked marks f = slice_index_or marks f false

-- item f waits for a need that isn't listed
pub record Waits (needs : List (List ℕ)) (at : List ℕ) (waiting : List (List ℕ)) (order : List ℕ) (f : ℕ) : Type 0 where
  pub before_end : slice_index at f < length (needs_of needs f)
  pub unlisted : Contains order (need_at needs at f) → ⊥
  pub waits : Contains (slice_index_or waiting (need_at needs at f) []) f

-- each item is listed, or ready to be, or waits, or is due to be put in its place
pub record IsQueue (needs : List (List ℕ)) (at : List ℕ) (waiting : List (List ℕ)) (queued listed : List Bool) (ready order due : List ℕ) : Type 0 where
  pub at_len : length at ≡ length needs
  pub waiting_len : length waiting ≡ length needs
  pub queued_len : length queued ≡ length needs
  pub listed_len : length listed ≡ length needs
  pub listed_is : (f : ℕ) → (is_marked listed f ≡ true) ↔ Contains order f
  pub queued_is : (f : ℕ) → (is_marked queued f ≡ true) ↔ (Contains ready f ⊎ Contains order f)
  pub inside : (f : ℕ) → (Contains ready f ⊎ Contains order f) ⊎ Contains due f → f < length needs
  pub closed : (f g : ℕ) → Needs needs f g → g < length needs
  pub within : (f : ℕ) → slice_index at f ≤ length (needs_of needs f)
  pub passed : (f i : ℕ) → i < slice_index at f → Contains order (slice_index (needs_of needs f) i)
  pub done : (f : ℕ) → Contains ready f ⊎ Contains order f → slice_index at f ≡ length (needs_of needs f)
  pub placed : (f : ℕ) → f < length needs → ((Contains ready f ⊎ Contains order f) ⊎ Contains due f) ⊎ Waits needs at waiting order f
  pub waiting_inside : (g f : ℕ) → Contains (slice_index_or waiting g []) f → f < length needs
  pub apart : (f : ℕ) → Contains ready f → Contains order f → ⊥
  pub once : AllPairs (λ a b. a ≢ b) ready

-- each listed item was the next when it was listed
pub record Nexts (needs : List (List ℕ)) (order : List ℕ) : Type 0 where
  pub each : (k : ℕ) → k < length order → IsNext (λ n. n < length needs) (Needs needs) ◌<◌ (take k order) (slice_index order k)

-- all items, the least ready one next each time
abbrev pub IsListing : List (List ℕ) → List ℕ → Type 0
IsListing needs = IsLeastFirst (λ n. n < length needs) (Needs needs) ◌<◌

-- one cycle of items, from the least on
abbrev pub IsCycle : List (List ℕ) → List ℕ → Type 0
IsCycle needs = IsLoop (λ n. n < length needs) (Needs needs) ◌<◌

-- the items that aren't marked need ones that aren't, at the places where they have come
pub record IsStuck (needs : List (List ℕ)) (at : List ℕ) (listed : List Bool) : Type 0 where
  pub at_len : length at ≡ length needs
  pub listed_len : length listed ≡ length needs
  pub closed : (f g : ℕ) → Needs needs f g → g < length needs
  pub each : (f : ℕ) → f < length needs → is_marked listed f ≡ false →
      (slice_index at f < length (needs_of needs f)) × (is_marked listed (need_at needs at f) ≡ false)

-- the list from its least number on, and then what stands before it
pub record Turns (cycle turned : List ℕ) : Type 0 where
  pub front : List ℕ
  pub least : ℕ
  pub rest : List ℕ
  pub was : cycle ≡ front ++ least ∷ rest
  pub is : turned ≡ least ∷ rest ++ front
  pub lowest : (n : ℕ) → Contains cycle n → least ≤ n
