-- The variables that are left decide the literals.
use Rattle.std.proofs.Common.{◌≡◌, ◌++◌, ◌∷◌, [], arith, rules, w32, SFits, ap, ◌∙◌}
use Rattle.std.proofs.lemmas.Int.{to_z-of_z}
use Rattle.sat_core.specs.Path.{sign_at}
use Rattle.sat_core.proofs.LiteralLemmas.{literals_more, literals_skip}
use Rattle.sat_core.proofs.derive.literals.Goals as goal

pub loop-variable-preserved : goal.loop-variable-preserved
loop-variable-preserved c =
    let fits : SFits w32 c.signed_literal-lit.result = search rules in
    let pushed : c.push.new.self.items ≡ c.loop-variable.lits.items ++ c.signed_literal-lit.result ∷ [] = simp to_z-of_z at c.in_ok-push.ensures.items in
    literals_more (sign_at c.args.signs.now) (sign_at c.args.marks.now) c.loop-variable.variable _ _ c.loop-variable.lits.items c.push.new.self.items _ (omega arith) c.if-not-marks-variable.false
    (pushed ∙ ap (λ l. c.loop-variable.lits.items ++ l ∷ []) c.signed_literal-lit.ensures) c.loop-variable.invariant

pub loop-variable-preserved-then-not-marks-variable : goal.loop-variable-preserved-then-not-marks-variable
loop-variable-preserved-then-not-marks-variable c =
    literals_skip (sign_at c.args.signs.now) (sign_at c.args.marks.now) c.loop-variable.variable _ _ c.loop-variable.lits.items _ (omega arith) c.if-not-marks-variable.true c.loop-variable.invariant
