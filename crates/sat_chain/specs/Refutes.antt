-- What a checker has seen, and why it keeps what it says true.
--   Known            the clauses so far
--   HasNoModel       no assignment makes each clause of a list true
--   Follows          what makes the given clauses true makes all clauses true
use Rattle.std.specs.Prelude.{ℕ, Bool, List, ℤ}
use Rattle.sat_chain.specs.Clause.{MeetsAll}

-- the clauses so far: those given, all of them in order, and how many bytes of text may follow
pub record Known : Type 0 where
  pub vars : ℕ
  pub given : List (List ℤ)
  pub clauses : List (List ℤ)
  pub room : ℕ

abbrev pub HasNoModel : List (List ℤ) → Type 0
HasNoModel cs = (a : ℕ → Bool) → MeetsAll a cs → ⊥

abbrev pub Follows : List (List ℤ) → List (List ℤ) → Type 0
Follows given cs = (a : ℕ → Bool) → MeetsAll a given → MeetsAll a cs
