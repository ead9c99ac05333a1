-- The clause between two steps of a derivation, as marks of its variables: each has the sign that is false.
use Rattle.std.specs.Prelude.{◌≡◌, ℕ, zero, suc, ◌+◌, ◌<◌, ◌≤◌, Bool, true, false, not, if◌then◌else◌, List, [], ◌∷◌, slice_index_or, ℤ, Option, Some, None, is_some}
use Rattle.sat_chain.specs.Text.{signed}
use Rattle.sat_chain.specs.Resolvent.{Union, sign_in, union_of}
use Rattle.sat_chain.specs.Answer.{all_known}
use Rattle.sat_chain.specs.declared.chain.ChainLine.{ChainLine}
use Rattle.sat_core.specs.Counts.{numbers, Passes}
use Rattle.sat_core.specs.Path.{IsFirstFalse}

-- the union of the marked variables
abbrev pub union_at : (ℕ → Bool) → (ℕ → Bool) → Union
union_at a m x = if m x then Some (not (a x)) else None

-- a variable stands in a clause
abbrev pub stands_in : List ℤ → ℕ → Bool
stands_in c x = is_some (sign_in c x)

-- the literals of the marked variables among so many from x on
abbrev pub literals_from : (ℕ → Bool) → (ℕ → Bool) → ℕ → ℕ → List ℤ
literals_from a m x zero = []
literals_from a m x (suc k) = if m x then signed (not (a x)) x ∷ literals_from a m (x + 1) k else literals_from a m (x + 1) k

-- the marked variables are from 1 to n
pub record IsMarked (m : ℕ → Bool) (n : ℕ) : Type 0 where
  pub above : (x : ℕ) → n < x → m x ≡ false
  pub start : m 0 ≡ false

-- the cited clauses come to this union
pub record ComeTo (cs : List (List ℤ)) (ids : List ℕ) (u : Union) : Type 0 where
  pub known : all_known cs (numbers ids) ≡ true
  pub union : union_of cs (numbers ids) ≡ Some u

-- a derived clause: false up to a choice, or empty
pub record IsDerived (vars : ℕ) (cs : List (List ℤ)) (a : ℕ → Bool) (reasons : List (Option ℕ)) (top : ℕ) (line : ChainLine) (at : ℕ) : Type 0 where
  pub within : at ≤ top
  pub choice : 0 < at → slice_index_or reasons at None ≡ None
  pub passes : Passes vars cs line.from.items line.lits.items
  pub ends : 0 < at → IsFirstFalse a at line.lits.items
  pub empty : at ≡ 0 → line.lits.items ≡ []
