-- What a checker keeps, and what is true of it.
use Rattle.std.specs.Prelude.{◌≡◌, ◌+◌, ◌*◌, ◌<◌, ◌≤◌, ◌^◌, length, vec_len, vec_capacity}
use Rattle.sat_chain.specs.Clause.{AreClauses}
use Rattle.sat_chain.specs.Refutes.{Known, Follows}
use Rattle.sat_chain.specs.Store.{cut, IsCut, marked}
use Rattle.sat_chain.specs.Marks.{at, nothing}
use Rattle.sat_chain.specs.declared.checker.Checker.TheInside.{Inside}

-- the clauses are the pieces of the literals, the given ones those that are marked
abbrev pub known : Inside → Known
known k = record {
  vars = k.vars;
  given = marked k.given.items (cut k.bounds.items k.lits.items);
  clauses = cut k.bounds.items k.lits.items;
  room = k.room;
}

pub record IsKept (k : Inside) : Type 0 where
  pub few : k.vars < 2 ^ 31
  pub places : IsCut (length k.lits.items) k.bounds.items
  pub flags : length k.given.items + 1 ≡ length k.bounds.items
  pub clauses : AreClauses k.vars (cut k.bounds.items k.lits.items)
  pub follows : Follows (marked k.given.items (cut k.bounds.items k.lits.items)) (cut k.bounds.items k.lits.items)
  pub marks : length k.marks.items ≡ k.vars + 1
  pub emptied : at k.marks.items ≡ nothing
  -- each literal and each number of a text takes two bytes of it, each clause five
  pub literals_fit : k.room + 2 * vec_len k.lits ≤ 2 * vec_capacity k.lits
  pub places_fit : k.room + 5 * vec_len k.bounds ≤ 5 * vec_capacity k.bounds
  pub flags_fit : k.room + 5 * vec_len k.given ≤ 5 * vec_capacity k.given
  pub numbers_fit : k.room ≤ 2 * vec_capacity k.chain
