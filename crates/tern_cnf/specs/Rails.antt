-- The clauses of a net. Each node has two variables, its rails: that it may be 1, and that it may be 0.
--   one_rail, zero_rail          the variables of a node
--   implied_by, implying         clauses that say: what the products hold in holds; one of each choice holds
--   choices, is_sum              clauses that say: a rail is the sum of products of rails
--   is_difference                clauses that say: a rail holds where two pairs of rails differ
--   node_clauses                 the table of nodes, a line a kind
--   clauses_of                   the clauses of a net and of a question
use Rattle.std.specs.Prelude.{ℕ, ◌+◌, ◌*◌, Bool, true, false, ◌==◌, List, [], ◌∷◌, ◌++◌, map, ℤ}
use Rattle.std.specs.List.{flat_map, list_any}
use Rattle.net_view.specs.View.{Numbered}
use Rattle.net_view.specs.declared.gate.Gate.TheVariants.{Const, Source, Not, And, Or, Xor, Pick, Lift}
use Rattle.tern_cnf.specs.Written.{stated, negated, clause}

-- the variable of a node that says that it may be 1
abbrev pub one_rail : ℕ → ℕ
one_rail k = 2 * k + 1

-- the one that says that it may be 0
abbrev pub zero_rail : ℕ → ℕ
zero_rail k = 2 * k + 2

-- a rail holds where all of a product do, for each product
unfoldable pub implied_by : ℕ → List (List ℕ) → List (List ℤ)
implied_by r products = flat_map (λ p. clause (map negated p ++ stated r ∷ [])) products

-- where a rail holds one of a choice does, for each choice
unfoldable pub implying : ℕ → List (List ℕ) → List (List ℤ)
implying r cs = flat_map (λ c. clause (map stated c ++ negated r ∷ [])) cs

-- a rail in front of each
abbrev pub led_by : ℕ → List (List ℕ) → List (List ℕ)
led_by r cs = map (λ c. r ∷ c) cs

-- one factor of each product, that of the last product changing fastest
unfoldable pub choices : List (List ℕ) → List (List ℕ)
choices [] = [] ∷ []
choices (p ∷ ps) = flat_map (λ r. led_by r (choices ps)) p

-- a rail is the sum of the products
abbrev pub is_sum : ℕ → List (List ℕ) → List (List ℤ)
is_sum r products = implied_by r products ++ implying r (choices products)

-- a rail holds where the first of one pair of rails and the second of the other do, as long as no pair has neither
abbrev pub is_difference : ℕ → ℕ → ℕ → ℕ → ℕ → List (List ℤ)
is_difference r a a' b b' = implied_by r ((a ∷ b' ∷ []) ∷ (a' ∷ b ∷ []) ∷ []) ++ implying r ((a ∷ b ∷ []) ∷ (a' ∷ b' ∷ []) ∷ [])

-- a node that may be 1 or may be 0, and where it is settled not both
abbrev pub free : Bool → ℕ → List (List ℤ)
free true y = clause (stated (one_rail y) ∷ stated (zero_rail y) ∷ []) ++ clause (negated (one_rail y) ∷ negated (zero_rail y) ∷ [])
free false y = clause (stated (one_rail y) ∷ stated (zero_rail y) ∷ [])

-- the clauses of a node, which is settled where it is a source of those
abbrev pub node_clauses : Bool → ℕ → Numbered → List (List ℤ)
node_clauses settled y (Source s) = free settled y
node_clauses settled y (Const true) = clause (stated (one_rail y) ∷ []) ++ clause (negated (zero_rail y) ∷ [])
node_clauses settled y (Const false) = clause (negated (one_rail y) ∷ []) ++ clause (stated (zero_rail y) ∷ [])
node_clauses settled y (Not a) = is_sum (one_rail y) ((zero_rail a ∷ []) ∷ []) ++ is_sum (zero_rail y) ((one_rail a ∷ []) ∷ [])
node_clauses settled y (And a b) = is_sum (one_rail y) ((one_rail a ∷ one_rail b ∷ []) ∷ []) ++ is_sum (zero_rail y) ((zero_rail a ∷ []) ∷ (zero_rail b ∷ []) ∷ [])
node_clauses settled y (Or a b) = is_sum (one_rail y) ((one_rail a ∷ []) ∷ (one_rail b ∷ []) ∷ []) ++ is_sum (zero_rail y) ((zero_rail a ∷ zero_rail b ∷ []) ∷ [])
node_clauses settled y (Xor a b) =
    is_difference (one_rail y) (one_rail a) (zero_rail a) (one_rail b) (zero_rail b) ++ is_difference (zero_rail y) (one_rail a) (zero_rail a) (zero_rail b) (one_rail b)
node_clauses settled y (Pick s a b) =
    is_sum (one_rail y) ((one_rail s ∷ one_rail a ∷ []) ∷ (zero_rail s ∷ one_rail b ∷ []) ∷ [])
    ++ is_sum (zero_rail y) ((one_rail s ∷ zero_rail a ∷ []) ∷ (zero_rail s ∷ zero_rail b ∷ []) ∷ [])
node_clauses settled y (Lift s v true) = is_sum (one_rail y) ((one_rail v ∷ []) ∷ (one_rail s ∷ []) ∷ []) ++ is_sum (zero_rail y) ((zero_rail v ∷ []) ∷ [])
node_clauses settled y (Lift s v false) = is_sum (one_rail y) ((one_rail v ∷ []) ∷ []) ++ is_sum (zero_rail y) ((zero_rail v ∷ []) ∷ (one_rail s ∷ []) ∷ [])

-- whether a number is listed
abbrev pub is_listed : List ℕ → ℕ → Bool
is_listed fixed k = list_any (λ f. f == k) fixed

-- the clauses of the nodes from a number on
unfoldable pub clauses_from : List ℕ → ℕ → List Numbered → List (List ℤ)
clauses_from fixed k [] = []
clauses_from fixed k (g ∷ gs) = node_clauses (is_listed fixed k) k g ++ clauses_from fixed (k + 1) gs

-- the clauses of the nodes in their order, the sources listed being settled, and then the further ones
abbrev pub clauses_of : List Numbered → List ℕ → List (List ℤ) → List (List ℤ)
clauses_of gates fixed side = clauses_from fixed 0 gates ++ side
