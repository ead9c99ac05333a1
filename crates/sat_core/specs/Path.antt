-- How the search stands: a sign for each variable up to the last one set, and a reason where it is no choice.
--   sign_at, turned              the signs, and with one variable's turned
--   is_false, IsFirstFalse       a clause is false by the variables up to one, and not before
--   IsPath                       the reasons are clauses, and none is false before the last variable
--   rank                         a number that each conflict raises
use Rattle.std.specs.Prelude.{◌≡◌, ℕ, [], zero, suc, ◌+◌, ◌-◌, ◌^◌, ◌<◌, ◌≤◌, Bool, true, false, ◌&&◌, not, ◌==◌, nat_le, if◌then◌else◌, List, length, slice_index_or, ℤ, Option, Some, None, is_some}
use Rattle.std.specs.List.{list_all, list_any}
use Rattle.sat_chain.specs.Clause.{variable, is_positive}
use Rattle.sat_chain.specs.Resolvent.{differs}

-- the sign of a variable, true for positive
abbrev pub sign_at : List Bool → ℕ → Bool
sign_at signs x = slice_index_or signs x false

-- the other sign at one variable
abbrev pub turned : (ℕ → Bool) → ℕ → ℕ → Bool
turned a i x = if x == i then not (a x) else a x

-- a literal of a variable up to n that is false
abbrev pub is_false_literal : (ℕ → Bool) → ℕ → ℤ → Bool
is_false_literal a n l = nat_le (variable l) n && differs (a (variable l)) (is_positive l)

-- each literal is of a variable up to n, and false
abbrev pub is_false : (ℕ → Bool) → ℕ → List ℤ → Bool
is_false a n c = list_all (is_false_literal a n) c

-- some clause is false
abbrev pub some_false : (ℕ → Bool) → ℕ → List (List ℤ) → Bool
some_false a n cs = list_any (is_false a n) cs

-- the clause is false with variable i, and not before
pub record IsFirstFalse (a : ℕ → Bool) (i : ℕ) (c : List ℤ) : Type 0 where
  pub now : is_false a i c ≡ true
  pub before : is_false a (i - 1) c ≡ false

-- where a variable has a reason, that clause would be false with the other sign
abbrev pub IsReason : List (List ℤ) → (ℕ → Bool) → ℕ → ℕ → Type 0
IsReason cs a i k = (k < length cs) × IsFirstFalse (turned a i) i (slice_index_or cs k [])

-- signs and reasons of the variables up to the last one set
pub record IsPath (vars : ℕ) (cs : List (List ℤ)) (signs : List Bool) (reasons : List (Option ℕ)) (top : ℕ) : Type 0 where
  pub top_within : top ≤ vars
  pub signs_len : length signs ≡ vars + 1
  pub reasons_len : length reasons ≡ vars + 1
  pub because : (i k : ℕ) → 0 < i → i ≤ top → slice_index_or reasons i None ≡ Some k → IsReason cs (sign_at signs) i k
  pub clear : some_false (sign_at signs) (top - 1) cs ≡ false

-- the turned variables as a number, the first one the highest bit
unfoldable pub rank : List (Option ℕ) → ℕ → ℕ → ℕ
rank reasons vars zero = 0
rank reasons vars (suc n) = rank reasons vars n + (if is_some (slice_index_or reasons (n + 1) None) then 2 ^ (vars - (n + 1)) else 0)
