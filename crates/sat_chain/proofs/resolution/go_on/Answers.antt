-- The clauses that are left decide the union.
use Rattle.std.proofs.Common.{arith, sym, ◌∙◌, length}
use Rattle.sat_chain.specs.Store.{cut}
use Rattle.sat_chain.specs.Marks.{at}
use Rattle.sat_chain.proofs.StoreLemmas.{length-cut}
use Rattle.sat_chain.proofs.ChainLemmas.{known_within, reached_step, reached_stop, reached_done}
use Rattle.sat_chain.proofs.resolution.go_on.Goals as goal

pub resolve-requires-clause-from : goal.resolve-requires-clause-from
resolve-requires-clause-from c = (known_within (cut c.args.bounds.now c.args.lits.now) c.args.chain.now c.loop-n.n-index c.requires.known (omega arith)).0

pub resolve-requires-clause-to : goal.resolve-requires-clause-to
resolve-requires-clause-to c =
    let many = length-cut (length c.args.lits.now) c.args.bounds.now c.args.lits.now c.requires.places in
    let known = known_within (cut c.args.bounds.now c.args.lits.now) c.args.chain.now c.loop-n.n-index c.requires.known (omega arith) in
    omega (arith, many, known.1)

pub returns-in-Err : goal.returns-in-Err
returns-in-Err c = (
  reached_stop (cut c.args.bounds.now c.args.lits.now) (at c.loop-n.marks) c.args.chain.now c.loop-n.n-index _ (omega arith) c.loop-n.invariant.union c.in-Err.ensures.0,
  c.in-Err.ensures.1,
)

pub loop-n-preserved : goal.loop-n-preserved
loop-n-preserved c = record {
  union = reached_step (cut c.args.bounds.now c.args.lits.now) (at c.loop-n.marks) c.args.chain.now c.loop-n.n-index (at c.resolve.new.marks) _ (omega arith) c.loop-n.invariant.union c.in-Ok.ensures.0;
  live = c.in-Ok.ensures.1;
}

pub returns : goal.returns
returns c = (sym c.loop-n.invariant.union ∙ reached_done (cut c.args.bounds.now c.args.lits.now) (at c.loop-n.marks) c.args.chain.now c.loop-n.n-index (omega arith), c.loop-n.invariant.live)
