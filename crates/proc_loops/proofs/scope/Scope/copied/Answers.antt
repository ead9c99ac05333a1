use Rattle.std.proofs.Common.{ap, sym, ◌∙◌, arith}
use Rattle.vlog_const.specs.Names.{no_values, values_of}
use Rattle.proc_loops.specs.Scopes.{set_all}
use Rattle.proc_loops.proofs.ScopeLemmas.{copied}
use Rattle.proc_loops.proofs.scope.Scope.copied.Goals as goal

pub invariant_of-result : goal.invariant_of-result
invariant_of-result c = record {
  same = copied (values_of c.loop-k.env) c.deref-k-items.result.now c.loop-k.known.items c.loop-k.k-index
      (c.loop-k.invariant.0 ∙ ap (set_all no_values) (sym c.deref-k-items.ensures.value)) c.loop-k.invariant.1 (omega arith);
}
