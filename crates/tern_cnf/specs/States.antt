-- What the clauses mean: their models are the ternary states, rail by rail.
--   may_be_one, may_be_zero        the rails of a value; none has neither
--   assignment                     the variables of the values of the nodes, and of further ones
--   HasRails                       an assignment's rails are those of values
--   MeetsQuestion                  the assignment is that of a state that meets the question
--   ModelsAreStates                the models are those assignments
use Rattle.std.specs.Prelude.{◌≡◌, ℕ, ◌-◌, ◌<◌, ◌↔◌, Bool, true, false, List, [], ◌∷◌, length, slice_index_or, ℤ}
use Rattle.std.specs.List.{AllByRecursion}
use Rattle.rdc_tern.specs.declared.value.Tern.{Tern}
use Rattle.rdc_tern.specs.declared.value.Tern.TheVariants.{Zero, One, Unsettled}
use Rattle.rdc_tern.specs.Kleene.{IsSettled}
use Rattle.net_view.specs.View.{Numbered}
use Rattle.net_view.specs.Values.{State, at, IsValuation}
use Rattle.sat_chain.specs.Clause.{MeetsAll}
use Rattle.tern_cnf.specs.Rails.{one_rail, zero_rail}

-- the value is 1 or X
abbrev pub may_be_one : Tern → Bool
may_be_one Zero = false
may_be_one One = true
may_be_one Unsettled = true

-- the value is 0 or X
abbrev pub may_be_zero : Tern → Bool
may_be_zero Zero = true
may_be_zero One = false
may_be_zero Unsettled = true

-- the rails of values, in the order of their variables, which count from 1
abbrev pub rails_of : List Tern → List Bool
rails_of [] = []
rails_of (t ∷ ts) = may_be_one t ∷ may_be_zero t ∷ rails_of ts

-- the rails of values, and behind them further variables
abbrev pub assignment : List Tern → (ℕ → Bool) → ℕ → Bool
assignment values more v = slice_index_or (rails_of values) (v - 1) (more v)

-- the rails of each node are those of its value
abbrev pub HasRails : (ℕ → Bool) → List Tern → Type 0
HasRails a values = (k : ℕ) → k < length values → (a (one_rail k) ≡ may_be_one (at values k)) × (a (zero_rail k) ≡ may_be_zero (at values k))

-- the assignment is that of a state that meets the question
pub record MeetsQuestion (gates : List Numbered) (fixed : List ℕ) (side : List (List ℤ)) (a : ℕ → Bool) : Type 0 where
  -- the sources' values, and those of the nodes
  pub state : State
  pub values : List Tern
  pub valuation : IsValuation gates state values
  -- the nodes listed are settled
  pub settled : AllByRecursion (λ k. IsSettled (at values k)) fixed
  pub rails : HasRails a values
  pub further : MeetsAll a side

-- the models of the clauses are exactly the states that meet the question, rail by rail
abbrev pub ModelsAreStates : List Numbered → List ℕ → List (List ℤ) → List (List ℤ) → Type 0
ModelsAreStates gates fixed side clauses = (a : ℕ → Bool) → MeetsAll a clauses ↔ MeetsQuestion gates fixed side a
