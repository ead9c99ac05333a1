-- How a clause is written: its literals ascend by variable, each once; a clause with both literals of a variable isn't.
use Rattle.std.specs.Prelude.{ℕ, ◌==◌, nat_lt, if◌then◌else◌, List, [], ◌∷◌, ℤ, pos, neg_ℤ, Option, Some, None}
use Rattle.std.specs.Option.{option_map, option_and_then}
use Rattle.sat_chain.specs.Clause.{variable, is_positive}
use Rattle.sat_chain.specs.Resolvent.{differs}

-- the literal of a variable
abbrev pub stated : ℕ → ℤ
stated v = pos v

-- the literal of its negation
abbrev pub negated : ℕ → ℤ
negated v = neg_ℤ (pos v)

-- a literal in front of others
abbrev pub in_front : ℤ → List ℤ → List ℤ
in_front l ls = l ∷ ls

-- a literal put in its place; none where its negation stands there
unfoldable pub put : ℤ → List ℤ → Option (List ℤ)
put l [] = Some (l ∷ [])
put l (m ∷ ms) =
    if nat_lt (variable l) (variable m) then Some (l ∷ m ∷ ms)
    else (if variable l == variable m then (if differs (is_positive l) (is_positive m) then None else Some (m ∷ ms)) else option_map (in_front m) (put l ms))

-- the literals ascending, each once; none where both of a variable stand there
unfoldable pub ascending : List ℤ → Option (List ℤ)
ascending [] = Some []
ascending (l ∷ ls) = option_and_then (put l) (ascending ls)

-- a list of one clause, or of none
abbrev pub listed : Option (List ℤ) → List (List ℤ)
listed None = []
listed (Some c) = c ∷ []

-- the clause of some literals, where it is written
unfoldable pub clause : List ℤ → List (List ℤ)
clause ls = listed (ascending ls)
