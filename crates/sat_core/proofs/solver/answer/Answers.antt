-- A clause that is empty refutes.
use Rattle.std.proofs.Common.{◌++◌, ◌∷◌, [], ap, ◌∙◌}
use Rattle.sat_core.specs.Path.{sign_at}
use Rattle.sat_core.proofs.AnswerLemmas.{within_start}
use Rattle.sat_core.proofs.SoundLemmas.{empty_refutes}
use Rattle.sat_core.proofs.solver.answer.Goals as goal

pub returns-in-Some : goal.returns-in-Some
returns-in-Some c =
    empty_refutes c.args.clauses.now c.args.budget (sign_at c.as_slice.result.now) c.push.new.self.items c.in_ok-line.line c.in-Some.id c.len-count.ensures.lawful c.in-Some.ensures.0 c.in-Some.ensures.1
    (within_start c.args.budget c.if-is_spent.ensures) c.in_ok-line.ensures.0 c.in_ok-line.ensures.1 (c.in_ok-push.ensures.items ∙ ap (λ ls. ls ++ c.in_ok-line.line ∷ []) c.new-lines-in-Some.ensures.items)
