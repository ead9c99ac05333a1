use Rattle.std.proofs.Common.{◌≡◌, suc, ◌+◌, ◌-◌, ◌≤◌, max, ap, sym, ◌∙◌, refl, arith}
use Rattle.vlog_tree.specs.declared.expr.Expr.TheVariants as e
use Rattle.vlog_tree.specs.Depth.{depth}
use Rattle.vlog_tree.proofs.DepthLemmas.{depth-Binary}
use Rattle.vlog_expr.specs.declared.cursor.Next.TheVariants.{Operator}
use Rattle.vlog_expr.specs.Reading.{first}
use Rattle.vlog_expr.specs.Exprs.{climb, expr, next_at}
use Rattle.vlog_expr.proofs.ClimbLemmas.{one_more}
use Rattle.vlog_expr.proofs.grammar.Grammar.climb.Goals as goal

pub operators-init : goal.operators-init
operators-init g c = (c.args.self.now.room + 2, omega arith, c.requires.within, refl)

pub operators-preserved : goal.operators-preserved
operators-preserved g c =
    let kept = c.operators.invariant in
    let room = c.args.self.now.room in
    let next : next_at c.args.level (first c.operators.cursor) ≡ Operator c.in-Operator.op = sym c.in-Operator.ensures in
    let within : depth c.operators.left ≤ room = omega arith in
    let turn : suc (kept.0 - 1) ≡ kept.0 = omega arith in
    let step = one_more room (expr room) (kept.0 - 1) c.args.level c.args.place c.operators.left c.in-Operator.op c.in_ok-right-in-Operator.right c.operators.cursor c.right.new.cursor next within c.in_ok-right-in-Operator.ensures.value in
    let deep : depth c.in_ok-left-in-Operator.left ≡ 1 + max (depth c.operators.left) (depth c.in_ok-right-in-Operator.right) =
    ap depth c.in_ok-left-in-Operator.ensures ∙ depth-Binary c.args.place c.in-Operator.op c.operators.left c.in_ok-right-in-Operator.right in
    let shallow : depth c.in_ok-right-in-Operator.right ≤ room = c.in_ok-right-in-Operator.ensures.within in (
      kept.0 - 1,
      omega arith,
      omega arith,
      ap (λ x. climb room (expr room) (kept.0 - 1) c.args.level c.args.place x c.right.new.cursor) c.in_ok-left-in-Operator.ensures
          ∙ (sym step ∙ (ap (λ n. climb room (expr room) n c.args.level c.args.place c.operators.left c.operators.cursor) turn ∙ kept.3)),
    )
