-- A reading depends on the lexemes up to the one behind it, and only wanting room changes with more room.
use Rattle.std.proofs.Common.{◌≡◌, ℕ, zero, suc, ◌+◌, ◌<◌, ◌≤◌, List, length, arith}
use Rattle.std.specs.Prelude.{nat_le, if◌then◌else◌}
use Rattle.rdc_outside.specs.declared.source.Place.{Place}
use Rattle.vlog_tree.specs.declared.expr.Expr.{Expr}
use Rattle.vlog_tree.specs.declared.expr.Expr.TheVariants as e
use Rattle.vlog_tree.specs.Depth.{depth}
use Rattle.vlog_expr.specs.declared.cursor.Next.{Next}
use Rattle.vlog_expr.specs.declared.cursor.Next.TheVariants.{Operator, Question, End}
use Rattle.vlog_expr.specs.Reading.{Reader, onward, place_if}
use Rattle.vlog_expr.specs.Exprs.{next_at, right, choice, step_by, climb, whole, expr}
use Rattle.vlog_expr.proofs.Readers.{Local, Steady, ◌>>=◌, steady_pure, steady_peek, steady_deep, steady_fewer, steady_unpast, steady_room}
use Rattle.vlog_expr.proofs.ExprSteady.{operand_steady, choice_steady, right_steady}

module _ (room more : ℕ) (inner outer : ℕ → Reader Expr) (le : room ≤ more) (parts : (level : ℕ) → Steady 0 (inner level) (outer level)) where
  none : 0 ≤ room
  none = omega arith

  step_by_calm : (go on : Expr → Reader Expr) → ((x : Expr) → Steady 0 (go x) (on x)) → (place : Place) (left : Expr) (next : Next)
      → Steady 0 (step_by room inner go place left next) (step_by more outer on place left next)
  unfolding step_by
  step_by_calm go on alike place left (Operator op) =
      steady_room (depth left) room more le (let built = steady_unpast (right_steady 0 room more inner outer none le parts op) >>= (λ b. alike (e.Binary place op left b)) in built)
  step_by_calm go on alike place left Question = steady_room (depth left) room more le (steady_unpast (choice_steady 0 room more inner outer none le parts place left))
  step_by_calm go on alike place left End = steady_pure left

  climb_calm : (n m : ℕ) → n ≤ m → (level : ℕ) (place : Place) (left : Expr) → Steady 0 (climb room inner n level place left) (climb more outer m level place left)
  unfolding climb
  climb_calm zero m fewer level place left = steady_deep
  climb_calm (suc n) zero fewer level place left = absurd (omega arith)
  climb_calm (suc n) (suc m) fewer level place left =
      let built = steady_peek (next_at level) >>= step_by_calm (climb room inner n level place) (climb more outer m level place) (climb_calm n m (omega arith) level place) place left in built

  whole_calm : (level : ℕ) → Steady 0 (whole room inner level) (whole more outer level)
  unfolding whole
  whole_calm level =
      let built = steady_peek place_if >>= (λ place. steady_fewer (omega arith) (operand_steady 0 room more inner outer none le parts level place) >>= climb_calm (room + 2) (more + 2) (omega arith) level place) in built

pub expr_calm : (d deeper : ℕ) → d ≤ deeper → (level : ℕ) → Steady 0 (expr d level) (expr deeper level)
unfolding expr
expr_calm zero deeper le level = steady_deep
expr_calm (suc d) zero le level = absurd (omega arith)
expr_calm (suc d) (suc deeper) le level = whole_calm d deeper (expr d) (expr deeper) (omega arith) (λ n. expr_calm d deeper (omega arith) n) level
