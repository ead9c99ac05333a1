use Rattle.std.proofs.Common.{◌≡◌, suc, ◌-◌, true, false, drop, sym, ap, ◌∙◌, append-nil, Ok, arith}
use Rattle.std.proofs.lemmas.Result.{err_from_is_err_and}
use Rattle.std.specs.Prelude.{codes, not, if◌then◌else◌}
use Rattle.vlog_expr.specs.Reading.{first, sees_word}
use Rattle.vlog_parse.specs.Items.{item, arms_from}
use Rattle.vlog_parse.proofs.LoopLemmas.{behind}
use Rattle.vlog_parse.proofs.ArmLoop.{arms_end, arms_one, arms_broken}
use Rattle.vlog_parse.proofs.ArmEats.{one_eats}
use Rattle.vlog_parse.proofs.items.Holding.arms.Goals as goal

pub returns-in_err-next : goal.returns-in_err-next
returns-in_err-next g c =
    let kept = c.arms.invariant in
    let room = c.args.self.now.room in
    let unseen : sees_word (codes "endcase") (first c.arms.cursor) ≡ false = grind (arith, c.sees_word.ensures, c.arms-test.true) in
    let turn : suc (kept.0 - 1) ≡ kept.0 = omega arith in
    let p = err_from_is_err_and c.from_residual.result c.from_residual.ensures.1 in
    rw (p.1, p.2) (λ fresh.
    kept.2 ∙ (ap (λ n. behind c.arms.found (arms_from room (item room) n c.arms.may c.arms.cursor)) (sym turn)
    ∙ arms_broken room (item room) (kept.0 - 1) c.sees_word-other.result c.arms.may c.arms.found c.arms.cursor c.in_err-next.field-0.0 c.arm.new.cursor unseen c.sees_word-other.ensures (c.in_err-next.ensures fresh)))

pub arms-smaller : goal.arms-smaller
arms-smaller g c = one_eats c.args.self.now.room c.sees_word-other.result c.arms.may c.arms.cursor c.in_ok-next.next c.arm.new.cursor c.in_ok-next.ensures

pub arms-preserved : goal.arms-preserved
arms-preserved g c =
    let kept = c.arms.invariant in
    let room = c.args.self.now.room in
    let unseen : sees_word (codes "endcase") (first c.arms.cursor) ≡ false = grind (arith, c.sees_word.ensures, c.arms-test.true) in
    let less = one_eats room c.sees_word-other.result c.arms.may c.arms.cursor c.in_ok-next.next c.arm.new.cursor c.in_ok-next.ensures in
    let turn : suc (kept.0 - 1) ≡ kept.0 = omega arith in (
      kept.0 - 1,
      omega arith,
      kept.2 ∙ (ap (λ n. behind c.arms.found (arms_from room (item room) n c.arms.may c.arms.cursor)) (sym turn)
          ∙ (arms_one room (item room) (kept.0 - 1) c.sees_word-other.result c.arms.may c.arms.found c.arms.cursor c.in_ok-next.next c.arm.new.cursor unseen c.sees_word-other.ensures c.in_ok-next.ensures
          ∙ (ap (λ found. behind found (arms_from room (item room) (kept.0 - 1) (if c.arms.may then not c.sees_word-other.result else false) c.arm.new.cursor)) (sym c.in_ok-push.ensures.ok)
          ∙ ap (λ b. behind c.push.new.self (arms_from room (item room) (kept.0 - 1) b c.arm.new.cursor)) (sym c.may_follow-may.ensures)))),
    )

pub returns : goal.returns
returns g c =
    let kept = c.arms.invariant in
    let room = c.args.self.now.room in
    let seen : sees_word (codes "endcase") (first c.arms.cursor) ≡ true = grind (arith, c.sees_word.ensures, c.arms-test.false) in
    let turn : suc (kept.0 - 1) ≡ kept.0 = omega arith in
    kept.2 ∙ (ap (λ n. behind c.arms.found (arms_from room (item room) n c.arms.may c.arms.cursor)) (sym turn)
    ∙ (arms_end room (item room) (kept.0 - 1) c.arms.may c.arms.found c.arms.cursor seen
    ∙ (ap (λ found. (Ok found, drop 1 c.arms.cursor)) (append-nil c.arms.found)
    ∙ (ap (λ ls. (Ok c.arms.found, ls)) (sym c.advance.ensures)
    ∙ ap (λ found. (Ok found, c.advance.new.self)) (sym c.in_ok-fitted.ensures)))))
