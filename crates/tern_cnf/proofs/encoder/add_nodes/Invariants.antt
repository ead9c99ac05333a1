use Rattle.std.proofs.Common.{◌≡◌, drop}
use Rattle.tern_cnf.specs.Rails.{clauses_from}
use Rattle.tern_cnf.specs.Grown.{with_clauses}
use Rattle.tern_cnf.proofs.encoder.add_nodes.Given as goal

abbrev pub invariant-nodes : goal.invariant-nodes
invariant-nodes g l =
    with_clauses l.out (clauses_from l.fixed l.n (drop l.n (g.V.View.gates l.view))) ≡ with_clauses l.fn.out (clauses_from l.fixed 0 (g.V.View.gates l.view))
