-- What each answer says of the clauses and the budget.
--   IsWithin                     fewer than the budget, where there is one
--   IsModel, Refutes, IsSpent    what each answer says
--   IsAnswer                     the three together
--   IsSound                      what is refuted has no model
use Rattle.std.specs.Prelude.{◌≡◌, ℕ, ◌-◌, ◌^◌, ◌<◌, Bool, false, List, [], ◌∷◌, ◌++◌, length, slice_index_or, Option, Some, None}
use Rattle.sat_chain.specs.Clause.{Problem, MeetsAll}
use Rattle.sat_chain.specs.Refutes.{HasNoModel}
use Rattle.sat_chain.specs.declared.chain.ChainLine.{ChainLine}
use Rattle.sat_core.specs.Counts.{Passes, with_lines, AllCount}
use Rattle.sat_core.specs.declared.answers.Answer.{Answer}
use Rattle.sat_core.specs.declared.answers.Answer.TheVariants.{Model, Refuted, Spent}

-- fewer than the budget, where there is one
abbrev pub IsWithin : Option ℕ → ℕ → Type 0
IsWithin None count = Unit {0}
IsWithin (Some budget) count = count < budget

-- the value of a variable, the first of which is 1
abbrev pub value_in : List Bool → ℕ → Bool
value_in values x = slice_index_or values (x - 1) false

-- as many values as variables, which make each clause true; a budget of 0 is spent before that
pub record IsModel (p : Problem) (budget : Option ℕ) (values : List Bool) : Type 0 where
  pub within : IsWithin budget 0
  pub len : length values ≡ p.vars
  pub meets : MeetsAll (value_in values) p.clauses

-- each line counts, fewer than the budget's, but the last, which passes and is empty
pub record Refutes (p : Problem) (budget : Option ℕ) (lines : List ChainLine) : Type 0 where
  pub front : List ChainLine
  pub last : ChainLine
  pub parts : lines ≡ front ++ last ∷ []
  pub counts : AllCount p.vars p.clauses front
  pub within : IsWithin budget (length front)
  pub passes : Passes p.vars (with_lines p.clauses front) last.from.items last.lits.items
  pub empty : last.lits.items ≡ []

-- as many lines as the budget, each of which counts, and fewer than there are assignments
pub record IsSpent (p : Problem) (budget : Option ℕ) (lines : List ChainLine) : Type 0 where
  pub all : budget ≡ Some (length lines)
  pub counts : AllCount p.vars p.clauses lines
  pub below : length lines < 2 ^ p.vars

-- what an answer says
abbrev pub IsAnswer : Problem → Option ℕ → Answer → Type 0
IsAnswer p budget (Model values) = IsModel p budget values.items
IsAnswer p budget (Refuted chain) = Refutes p budget chain.lines.items
IsAnswer p budget (Spent chain) = IsSpent p budget chain.lines.items

-- what is refuted has no model
abbrev pub IsSound : Problem → Answer → Type 0
IsSound p (Model values) = Unit {0}
IsSound p (Refuted chain) = HasNoModel p.clauses
IsSound p (Spent chain) = Unit {0}
