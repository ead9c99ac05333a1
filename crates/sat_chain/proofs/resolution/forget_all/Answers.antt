-- Where the count is 0 nothing is left.
use Rattle.std.proofs.Common.{◌≡◌, arith, sym, ◌∙◌, length}
use Rattle.std.proofs.lemmas.Bool.Decides.{nat_tests}
use mathlib.Core.Path.{fun_ext}
use Rattle.sat_chain.specs.Store.{cut}
use Rattle.sat_chain.proofs.StoreLemmas.{length-cut}
use Rattle.sat_chain.proofs.ChainLemmas.{known_within, nothing_live}
use Rattle.sat_chain.proofs.resolution.forget_all.Goals as goal

pub clause_at-requires-clause-to : goal.clause_at-requires-clause-to
clause_at-requires-clause-to c =
    let many = length-cut (length c.args.lits.now) c.args.bounds.now c.args.lits.now c.requires.places in
    let known = known_within (cut c.args.bounds.now c.args.lits.now) c.args.chain.now c.loop-n.n-index c.requires.known (omega arith) in
    omega (arith, many, known.1)

pub returns-else-live-gt0 : goal.returns-else-live-gt0
returns-else-live-gt0 c =
    let zero : c.loop-n.live ≡ 0 = grind (arith, nat_tests, c.if-live-gt0.false) in
    fun_ext (nothing_live c.loop-n.marks (sym c.loop-n.invariant ∙ zero))
