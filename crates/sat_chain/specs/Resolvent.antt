-- Resolution. Between the steps of a derivation a clause is a union: the sign of each variable that stands in it.
--   Union, sign_in                the signs of a clause
--   opposites, resolved, resolvent  one step: exactly one variable of opposite sign, which goes
--   reached, union_of             the steps of a derivation, by the numbers of its clauses
use Rattle.std.specs.Prelude.{ℕ, ◌-◌, Bool, false, not, ◌==◌, if◌then◌else◌, List, [], ◌∷◌, slice_index_or, ℤ, Option, Some, None}
use Rattle.sat_chain.specs.Clause.{variable, is_positive}
use Rattle.std.specs.Option.{option_and_then}

-- the sign of each variable, true for positive
abbrev pub Union : Type 0
Union = ℕ → Option Bool

-- the sign of a variable in a clause
abbrev pub sign_in : List ℤ → Union
sign_in [] x = None
sign_in (l ∷ ls) x = if variable l == x then Some (is_positive l) else sign_in ls x

abbrev pub differs : Bool → Bool → Bool
differs a b = if a then not b else b

-- a sign stands there, and it is the other one
abbrev pub is_opposite : Option Bool → Bool → Bool
is_opposite None b = false
is_opposite (Some s) b = differs s b

-- the variables of a clause that have the opposite sign in the union
abbrev pub opposites : Union → List ℤ → List ℕ
opposites u [] = []
opposites u (l ∷ ls) = if is_opposite (u (variable l)) (is_positive l) then variable l ∷ opposites u ls else opposites u ls

abbrev pub either : Option Bool → Option Bool → Option Bool
either (Some s) b = Some s
either None b = b

-- what stands in either, without the pivot
abbrev pub resolved : Union → List ℤ → ℕ → Union
resolved u c p x = if x == p then None else either (u x) (sign_in c x)

abbrev pub resolved_at : Union → List ℤ → List ℕ → Option Union
resolved_at u c [] = None
resolved_at u c (p ∷ []) = Some (resolved u c p)
resolved_at u c (p ∷ q ∷ ps) = None

-- the resolvent, where there is exactly one variable of opposite sign
abbrev pub resolvent : Union → List ℤ → Option Union
resolvent u c = resolved_at u c (opposites u c)

-- clause n, counted from 1
abbrev pub clause : List (List ℤ) → ℕ → List ℤ
clause clauses n = slice_index_or clauses (n - 1) []

-- what a union becomes, clause by clause
unfoldable pub reached : List (List ℤ) → Union → List ℕ → Option Union
reached clauses u [] = Some u
reached clauses u (n ∷ ns) = option_and_then (λ w. reached clauses w ns) (resolvent u (clause clauses n))

-- the union that the cited clauses come to, beginning with the first
abbrev pub union_of : List (List ℤ) → List ℕ → Option Union
union_of clauses [] = None
union_of clauses (n ∷ ns) = reached clauses (sign_in (clause clauses n)) ns
