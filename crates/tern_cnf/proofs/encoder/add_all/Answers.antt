-- The clauses that are left shrink by one.
use Rattle.std.proofs.Common.{ap}
use Rattle.sat_chain.specs.Clause.{Problem}
use Rattle.tern_cnf.proofs.GrownLemmas.{side_at, side_written}
use Rattle.tern_cnf.proofs.encoder.add_all.Goals as goal

pub add-requires : goal.add-requires
add-requires c =
    let p = side_at (λ v. v.items) c.args.side.now c.loop-clause.clause-index c.clause-item.result c.as_slice.result.now c.loop-clause.out c.args.out.now c.requires c.loop-clause-test.true c.clause-item.is c.as_slice.ensures.value
    (ap (λ (k : Problem). k.vars) c.loop-clause.invariant) in
    record { some = p.0; clause = p.1 }

pub loop-clause-preserved : goal.loop-clause-preserved
loop-clause-preserved c =
    side_written (λ v. v.items) c.args.side.now c.loop-clause.clause-index c.clause-item.result c.as_slice.result.now c.loop-clause.out c.add.new.out _ c.loop-clause-test.true c.clause-item.is c.as_slice.ensures.value
    c.in_ok-add.ensures c.loop-clause.invariant
