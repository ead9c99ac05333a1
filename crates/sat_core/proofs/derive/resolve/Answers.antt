-- A step with the reason of a variable.
use Rattle.std.proofs.Common.{◌≡◌, [], get_or, arith}
use Rattle.std.proofs.lemmas.Option.{get_or_from_slice_get}
use Rattle.sat_core.specs.Path.{sign_at, turned}
use Rattle.sat_core.proofs.FalseLemmas.{clause_at}
use Rattle.sat_core.proofs.UnionLemmas.{step_reason, marked_step, marks_step, stands_not}
use Rattle.sat_core.proofs.derive.resolve.Goals as goal

pub returns-clause-step : goal.returns-clause-step
returns-clause-step c =
    let cs = c.args.store.now.clauses in
    let clause = clause_at c.args.store.now.vars cs c.args.reason c.len-count.ensures.lawful c.requires.reason.0 in
    let here : get_or cs c.args.reason [] ≡ c.lits.result.now = get_or_from_slice_get cs c.args.reason c.lits.result.now [] c.lits.ensures in
    step_reason (sign_at c.args.signs.now) (sign_at c.args.marks.now) _ c.args.at (get_or cs c.args.reason []) clause.0 c.requires.last c.requires.reason.1
    (marks_step c.args.marks.now c.mark.new.marks c.args.at (get_or cs c.args.reason []) c.lits.result.now (omega arith) c.mark.ensures here)

pub returns-clause-marked : goal.returns-clause-marked
returns-clause-marked c = λ n e.
    let cs = c.args.store.now.clauses in
    let clause = clause_at c.args.store.now.vars cs c.args.reason c.len-count.ensures.lawful c.requires.reason.0 in
    let here : get_or cs c.args.reason [] ≡ c.lits.result.now = get_or_from_slice_get cs c.args.reason c.lits.result.now [] c.lits.ensures in
    marked_step (turned (sign_at c.args.signs.now) c.args.at) (sign_at c.args.marks.now) _ c.args.at n (get_or cs c.args.reason []) c.requires.reason.1.now (stands_not (get_or cs c.args.reason []) clause.0) c.requires.marked e
    (marks_step c.args.marks.now c.mark.new.marks c.args.at (get_or cs c.args.reason []) c.lits.result.now (omega arith) c.mark.ensures here)
