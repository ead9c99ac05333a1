-- A union as marks by variable: how the code keeps it, and what it does to it.
--   at, set_at, nothing      the union that marks are, one that differs at a variable, the empty one
--   live_in                  how many variables stand in the union
--   put, merged, turned      a literal more, a clause more, and the variables that cancel on the way
use Rattle.std.specs.Prelude.{ℕ, ◌+◌, Bool, ◌==◌, if◌then◌else◌, List, [], ◌∷◌, slice_index_or, ℤ, Option, Some, None}
use Rattle.sat_chain.specs.Clause.{variable, is_positive}
use Rattle.sat_chain.specs.Resolvent.{Union, differs, is_opposite}

abbrev pub at : List (Option Bool) → Union
at marks x = slice_index_or marks x None

abbrev pub set_at : Union → ℕ → Option Bool → Union
set_at u v s x = if x == v then s else u x

abbrev pub nothing : Union
nothing x = None

-- 1 where a sign stands
abbrev pub one_if : Option Bool → ℕ
one_if None = 0
one_if (Some s) = 1

unfoldable pub live_in : List (Option Bool) → ℕ
live_in [] = 0
live_in (m ∷ ms) = one_if m + live_in ms

-- a sign more: the opposite one cancels
abbrev pub joined : Option Bool → Bool → Option Bool
joined None b = Some b
joined (Some s) b = if differs s b then None else Some s

abbrev pub put : Union → ℤ → Union
put u l = set_at u (variable l) (joined (u (variable l)) (is_positive l))

unfoldable pub merged : Union → List ℤ → Union
merged u [] = u
merged u (l ∷ ls) = merged (put u l) ls

-- how many variables cancel on the way
unfoldable pub turned : Union → List ℤ → ℕ
turned u [] = 0
turned u (l ∷ ls) = (if is_opposite (u (variable l)) (is_positive l) then 1 else 0) + turned (put u l) ls
