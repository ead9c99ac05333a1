use Rattle.vlog_const.specs.Names.{values_of}
use Rattle.proc_loops.proofs.ScopeLemmas.{entered}
use Rattle.proc_loops.proofs.scope.Scope.entered.Goals as goal

pub invariant_of-result : goal.invariant_of-result
invariant_of-result c = record {
  same = entered (values_of c.in_ok-env.field-0.env) (values_of c.set.new.env) c.in_ok-env.field-0.known.items c.keep.new.known.items (record { name = c.args.name.now; value = c.args.value })
      c.in_ok-env.field-0.same c.in_ok-set.ensures c.in_ok-keep.ensures;
}
