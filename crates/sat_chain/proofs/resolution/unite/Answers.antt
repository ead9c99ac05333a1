-- The first clause is merged into nothing, and the others follow.
use Rattle.std.proofs.Common.{◌-◌, arith, sym, ap, ◌∙◌, length, get_or}
use Rattle.sat_chain.specs.Clause.{IsClause}
use Rattle.sat_chain.specs.Resolvent.{clause, reached}
use Rattle.sat_chain.specs.Store.{cut}
use Rattle.sat_chain.specs.Marks.{at}
use Rattle.sat_chain.proofs.StoreLemmas.{length-cut}
use Rattle.sat_chain.proofs.ChainLemmas.{known_within, union_first, clause_is, live_nothing}
use Rattle.sat_chain.proofs.resolution.unite.Goals as goal

pub clause_at-requires-clause-to : goal.clause_at-requires-clause-to
clause_at-requires-clause-to c =
    let many = length-cut (length c.args.lits.now) c.args.bounds.now c.args.lits.now c.requires.places in
    let known = known_within (cut c.args.bounds.now c.args.lits.now) c.args.chain.now 0 c.requires.known c.requires.some in
    omega (arith, many, known.1)

pub merge-live-requires-clause-live : goal.merge-live-requires-clause-live
merge-live-requires-clause-live c = sym (live_nothing c.args.marks.now (λ x. ap (λ u. u x) c.requires.emptied))

pub returns : goal.returns
returns c =
    let cs = cut c.args.bounds.now c.args.lits.now in
    let known = known_within cs c.args.chain.now 0 c.requires.known c.requires.some in
    let is : IsClause (length c.args.marks.now - 1) (clause cs (get_or c.args.chain.now 0 0)) = clause_is _ cs (get_or c.args.chain.now 0 0) c.requires.clauses known.0 known.1 in
    let first = union_first cs c.args.chain.now (at c.args.marks.now) (at c.merge-live.new.marks) c.clause_at.result.now c.requires.some c.requires.emptied c.clause_at.ensures c.merge-live.ensures.union is.0 in
    let others = ap (reached cs (at c.merge-live.new.marks)) c.split_at.ensures.back in
    rw (sym (others ∙ first)) c.go_on.ensures
