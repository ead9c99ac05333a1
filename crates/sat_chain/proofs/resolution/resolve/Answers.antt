-- Merging the clause is the step.
use Rattle.std.proofs.Common.{◌≡◌, ◌+◌, ◌-◌, arith, length}
use Rattle.sat_chain.specs.Clause.{IsClause}
use Rattle.sat_chain.specs.Resolvent.{clause}
use Rattle.sat_chain.specs.Store.{cut}
use Rattle.sat_chain.specs.Marks.{at}
use Rattle.sat_chain.proofs.StoreLemmas.{length-cut}
use Rattle.sat_chain.proofs.ChainLemmas.{clause_is}
use Rattle.sat_chain.proofs.StepLemmas.{step_some, step_none}
use Rattle.sat_chain.proofs.resolution.resolve.Goals as goal

pub returns-then-turned-eq1 : goal.returns-then-turned-eq1
returns-then-turned-eq1 c =
    let cs = cut c.args.bounds.now c.args.lits.now in
    let many : length cs + 1 ≡ length c.args.bounds.now = length-cut (length c.args.lits.now) c.args.bounds.now c.args.lits.now c.requires.places in
    let is : IsClause (length c.args.marks.now - 1) (clause cs c.args.n) = clause_is _ cs c.args.n c.requires.clauses c.requires.from (omega arith) in
    (step_some (at c.args.marks.now) (at c.merge-now.new.marks) c.clause_at.result.now (clause cs c.args.n) c.merge-now.result.1 c.clause_at.ensures is.0 c.merge-now.ensures.union c.merge-now.ensures.turned (omega arith), c.merge-now.ensures.live)

pub returns-else-turned-eq1 : goal.returns-else-turned-eq1
returns-else-turned-eq1 c =
    let cs = cut c.args.bounds.now c.args.lits.now in
    let many : length cs + 1 ≡ length c.args.bounds.now = length-cut (length c.args.lits.now) c.args.bounds.now c.args.lits.now c.requires.places in
    let is : IsClause (length c.args.marks.now - 1) (clause cs c.args.n) = clause_is _ cs c.args.n c.requires.clauses c.requires.from (omega arith) in
    (step_none (at c.args.marks.now) c.clause_at.result.now (clause cs c.args.n) c.merge-now.result.1 c.clause_at.ensures is.0 c.merge-now.ensures.turned c.if-turned-eq1.false, c.merge-now.ensures.live)
