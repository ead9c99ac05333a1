-- What is left of the variables decides what all give, and those so far are kept.
use Rattle.std.proofs.Common.{◌≡◌, take, drop}
use Rattle.vlog_const.specs.Names.{no_values, values_of}
use Rattle.proc_loops.specs.Scopes.{set_all}
use Rattle.proc_loops.proofs.scope.Scope.copied.Given as goal

abbrev pub invariant-loop-k : goal.invariant-loop-k
invariant-loop-k l = (set_all (values_of l.env) (drop l.k-index l.k-items) ≡ set_all no_values l.self.known.items) × (l.known.items ≡ take l.k-index l.k-items)
    × (l.k-items ≡ l.self.known.items)
