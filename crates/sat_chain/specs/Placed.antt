-- How a list of clauses is stored: all literals in one list, and the place of each clause in it.
use Rattle.std.specs.Prelude.{◌<◌, ◌≤◌, ◌^◌, List, length, map, slice_range, ℤ}
use Rattle.std.specs.List.{AllByRecursion}
use Rattle.sat_chain.specs.Clause.{Problem, AreClauses}
use Rattle.sat_chain.specs.declared.clauses.Place.{Place}
use Rattle.sat_chain.specs.declared.clauses.Clauses.TheInside.{Inside}

-- the pieces at places
abbrev pub pieces : List ℤ → List Place → List (List ℤ)
pieces lits ps = map (λ p. slice_range lits p.start p.end) ps

abbrev pub problem : Inside → Problem
problem k = record { vars = k.vars; clauses = pieces k.lits.items k.places }

-- each place lies in the literals, and what lies there is a clause
pub record IsPlaced (k : Inside) : Type 0 where
  pub few : k.vars < 2 ^ 31
  pub places : AllByRecursion (λ p. (p.start ≤ p.end) × (p.end ≤ length k.lits.items)) k.places
  pub clauses : AreClauses k.vars (pieces k.lits.items k.places)
