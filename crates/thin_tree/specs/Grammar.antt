-- What a tree of the form declares and reads.
--     names_in e                 the names in an expression
--     IsTree m                   the declared names are ASCII
--     size m                     how many names are declared, and how many steps the expressions take
use Rattle.std.specs.Prelude.{ℕ, ◌+◌, Bool, nat_lt, IsTrue, List, [], ◌∷◌, ◌++◌, length}
use Rattle.std.specs.List.{AllByRecursion, list_all, sum_by}
use Rattle.thin_tree.specs.Postfix.{postfix}
use Rattle.thin_tree.specs.Tree.{Expr, Name, Brackets, Not, And, Or, Declared, Assignment, Process, Module}

-- the names in an expression, from left to right
abbrev pub names_in : Expr → List (List ℕ)
names_in (Name name) = name ∷ []
names_in (Brackets e) = names_in e
names_in (Not e) = names_in e
names_in (And a b) = names_in a ++ names_in b
names_in (Or a b) = names_in a ++ names_in b

-- each byte is ASCII
unfoldable pub is_ascii : List ℕ → Bool
is_ascii name = list_all (λ b. nat_lt b 128) name

-- such a name, as a fact
abbrev pub IsPlain : List ℕ → Type 0
IsPlain name = IsTrue (is_ascii name)

-- the declared names are ASCII
abbrev pub IsTree : Module → Type 0
IsTree m = AllByRecursion (λ d. IsPlain d.name) m.declared

-- how many steps the expressions take
abbrev pub steps_in : Module → ℕ
steps_in m = sum_by (λ a. length (postfix a.value)) m.assignments + sum_by (λ p. length (postfix p.data)) m.processes

-- how many names are declared, and how many steps the expressions take
abbrev pub size : Module → ℕ
size m = length m.declared + steps_in m
