-- How clauses are stored: all literals in one list, and where each clause begins and ends in it.
--   cut, marked          the clauses, and those of them that are marked
--   IsCut                the places ascend up to the end of the literals
use Rattle.std.specs.Prelude.{◌≡◌, ℕ, ◌≤◌, Bool, true, false, List, [], ◌∷◌, slice_range, ℤ}

-- the pieces from a place on, each up to the next place
unfoldable pub cut_from : ℕ → List ℕ → List ℤ → List (List ℤ)
cut_from start [] lits = []
cut_from start (e ∷ es) lits = slice_range lits start e ∷ cut_from e es lits

-- the pieces between places
unfoldable pub cut : List ℕ → List ℤ → List (List ℤ)
cut [] lits = []
cut (s ∷ es) lits = cut_from s es lits

-- each place is at or behind the one before it, and the last is the end
unfoldable pub AscendTo : ℕ → ℕ → List ℕ → Type 0
AscendTo end start [] = start ≡ end
AscendTo end start (e ∷ es) = (start ≤ e) × AscendTo end e es

-- places that begin at 0 and end at the end
unfoldable pub IsCut : ℕ → List ℕ → Type 0
IsCut end [] = ⊥
IsCut end (s ∷ es) = (s ≡ 0) × AscendTo end s es

-- the clauses whose mark is true
unfoldable pub marked : List Bool → List (List ℤ) → List (List ℤ)
marked (true ∷ ms) (c ∷ cs) = c ∷ marked ms cs
marked (false ∷ ms) (c ∷ cs) = marked ms cs
marked [] cs = []
marked (m ∷ ms) [] = []
