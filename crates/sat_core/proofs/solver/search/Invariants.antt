use Rattle.sat_core.specs.Path.{IsPath, rank}
use Rattle.sat_core.specs.Search.{IsSearch, left_of}
use Rattle.sat_core.proofs.solver.search.Given as goal

abbrev pub invariant-turns : goal.invariant-turns
invariant-turns l = record {
  path : IsPath l.store.vars l.store.clauses l.path.signs.items l.path.reasons.items l.path.top;
  search : IsSearch l.fn.clauses l.budget l.store l.lines.items (rank l.path.reasons.items l.store.vars l.path.top);
}

abbrev pub decreases-turns : goal.decreases-turns
decreases-turns l = left_of l.store.vars (rank l.path.reasons.items l.store.vars l.path.top) l.path.top
