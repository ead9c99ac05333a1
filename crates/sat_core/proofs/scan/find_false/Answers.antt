-- The clauses that are left decide whether one is false.
use Rattle.std.proofs.Common.{◌≡◌, arith, sym, ap, ◌∙◌, [], get_or, false}
use Rattle.std.proofs.lemmas.Option.{get_or_from_slice_get}
use Rattle.sat_core.specs.Path.{sign_at, is_false}
use Rattle.sat_core.proofs.FalseLemmas.{any_more}
use Rattle.sat_core.proofs.scan.find_false.Goals as goal

pub loop-n-preserved : goal.loop-n-preserved
loop-n-preserved c =
    let a = sign_at c.args.signs.now in
    let here = get_or_from_slice_get c.args.store.now.clauses c.in-Some.id c.lits.result.now [] c.lits.ensures in
    let at : get_or c.args.store.now.clauses c.loop-n.n [] ≡ c.lits.result.now = ap (λ k. get_or c.args.store.now.clauses k []) (sym c.in-Some.ensures.0) ∙ here in
    let no : is_false a c.args.top (get_or c.args.store.now.clauses c.loop-n.n []) ≡ false = ap (is_false a c.args.top) at ∙ sym c.is_false.ensures ∙ c.if-is_false.false in
    any_more a c.args.top c.args.store.now.clauses c.loop-n.n (omega arith) no ∙ c.loop-n.invariant
