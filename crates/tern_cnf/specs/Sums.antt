-- What the clauses of a sum say.
use Rattle.std.specs.Prelude.{◌≡◌, ℕ, ◌<◌, ◌↔◌, Bool, List, ℤ}
use Rattle.std.specs.List.{AllByRecursion, list_all, list_any}
use Rattle.sat_chain.specs.Clause.{Meets, MeetsAll}
use Rattle.tern_cnf.specs.Written.{clause}
use Rattle.tern_cnf.specs.Rails.{is_sum}

-- variables count from 1
abbrev pub AreVariables : List ℕ → Type 0
AreVariables vs = AllByRecursion (λ v. 0 < v) vs

-- what a sum of products is worth
abbrev pub sum_in : (ℕ → Bool) → List (List ℕ) → Bool
sum_in a products = list_any (list_all a) products

-- a written clause says that one of the literals is true
abbrev pub ClauseMeans : Type 0
ClauseMeans = (a : ℕ → Bool) (ls : List ℤ) → MeetsAll a (clause ls) ↔ Meets a ls

-- the clauses of a sum say that the rail is worth what the sum is
abbrev pub SumMeans : Type 0
SumMeans = (a : ℕ → Bool) (r : ℕ) (products : List (List ℕ)) → 0 < r → AllByRecursion AreVariables products → MeetsAll a (is_sum r products) ↔ (a r ≡ sum_in a products)
