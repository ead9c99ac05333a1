-- Clauses: lists of literals, n for variable n and -n for its negation.
--   variable, is_positive      the parts of a literal
--   ascends_above, IsClause    what is stored: literals of variables from 1, each above the one before
--   Meets, MeetsAll            an assignment makes a clause true, or each clause of a list
use Rattle.std.specs.Prelude.{◌≡◌, ℕ, ◌≤◌, ◌⊎◌, Bool, true, false, ◌&&◌, nat_lt, IsTrue, List, [], ◌∷◌, ℤ, pos, negsuc, unsigned_abs}
use Rattle.std.specs.List.{AllByRecursion}

abbrev pub variable : ℤ → ℕ
variable l = unsigned_abs l

abbrev pub is_positive : ℤ → Bool
is_positive (pos n) = true
is_positive (negsuc n) = false

-- each literal is of a variable above the one before it, and the first above v
abbrev pub ascends_above : ℕ → List ℤ → Bool
ascends_above v [] = true
ascends_above v (l ∷ ls) = nat_lt v (variable l) && ascends_above (variable l) ls

-- the literals are of variables from 1 to a number of them, and ascend by variable
abbrev pub IsClause : ℕ → List ℤ → Type 0
IsClause vars c = IsTrue (ascends_above 0 c) × AllByRecursion (λ l. variable l ≤ vars) c

abbrev pub AreClauses : ℕ → List (List ℤ) → Type 0
AreClauses vars cs = AllByRecursion (IsClause vars) cs

-- one of the literals is true
abbrev pub Meets : (ℕ → Bool) → List ℤ → Type 0
Meets a [] = ⊥
Meets a (l ∷ ls) = (a (variable l) ≡ is_positive l) ⊎ Meets a ls

abbrev pub MeetsAll : (ℕ → Bool) → List (List ℤ) → Type 0
MeetsAll a cs = AllByRecursion (Meets a) cs

-- clauses over a count of variables
pub record Problem : Type 0 where
  pub vars : ℕ
  pub clauses : List (List ℤ)
