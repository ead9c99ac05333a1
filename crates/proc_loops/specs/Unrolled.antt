-- A body without loops.
--     put_in values e        an expression with the running variables written as numbers
--     unroll s               a statement without loops
--     unrolled s             a body without loops, where each header is constant
use Rattle.std.specs.Prelude.{true, if◌then◌else◌, List, [], ◌∷◌, ◌++◌, Option, Some, None, Ok, Err}
use Rattle.rdc_outside.specs.declared.source.Place.{Place}
use Rattle.vlog_tree.specs.declared.expr.Expr.{Expr}
use Rattle.vlog_tree.specs.declared.stmt.Arm.{Arm}
use Rattle.vlog_tree.specs.declared.stmt.Assigns.{Assigns}
use Rattle.vlog_tree.specs.declared.stmt.Stmt.{Stmt, para-Stmt}
use Rattle.vlog_tree.specs.declared.stmt.Stmt.TheVariants as stmt
use Rattle.vlog_tree.specs.declared.stmt.Stmt.TheOpen.{Stmt-F}
use Rattle.vlog_const.specs.declared.answer.ConstFault.TheVariants.{NotConstant}
use Rattle.vlog_const.specs.Names.{Values, no_values}
use Rattle.design_form.specs.ConstantLaws.{written}
use Rattle.proc_loops.specs.declared.fault.LoopFault.TheVariants.{Const, NotBuilt}
use Rattle.proc_loops.specs.declared.progress.Progress.{Progress}
use Rattle.proc_loops.specs.declared.pieces.Sides.{Sides}
use Rattle.proc_loops.specs.declared.turn.Unrolled.{Unrolled}
use Rattle.proc_loops.specs.Faults.{Or_fault, ◌>>=◌}
use Rattle.proc_loops.specs.Names.{first_name}
use Rattle.proc_loops.specs.Scopes.{stands}
use Rattle.proc_loops.specs.Headers.{unknown}
use Rattle.proc_loops.specs.Turns.{Run, unroll_loop, begun}

-- ---- expressions

-- an expression in which no running variable is left
unfoldable pub built : Expr → Option Place → Or_fault Expr
built e None = Ok e
built e (Some place) = Err (NotBuilt place)

unfoldable pub put_in : Values → Expr → Or_fault Expr
put_in values e = built (written values e) (first_name (stands true values) (written values e))

-- each of some, behind those done
unfoldable pub all_put_in : Values → List Expr → List Expr → Or_fault (List Expr)
all_put_in values done [] = Ok done
all_put_in values done (e ∷ es) = do
  x ← put_in values e
  all_put_in values (done ++ x ∷ []) es

-- ---- lists

-- each of some in its turn, behind those done, up to a cut
unfoldable pub each : {S T : Type 0} → (S → Run T) → List T → List S → Run (List T)
each f done [] values p = Ok (done, p)
each f done (s ∷ ss) values p = if p.is_cut then Ok (done, p) else (do
  r ← f s values p
  each f (done ++ r.0 ∷ []) ss values r.1)

-- a case item
unfoldable pub arm_in : {S : Type 0} → (S → Run Stmt) → Arm S → Run (Arm Stmt)
arm_in f a values p = do
  labels ← all_put_in values [] a.labels
  r ← f a.body values p
  Ok (record { place = a.place; labels = labels; body = r.0 }, r.1)

-- both sides of an `if`, the other one up to a cut
unfoldable pub other_side : {S : Type 0} → (S → Run Stmt) → Option S → Values → Stmt × Progress → Or_fault Sides
other_side f None values r = Ok (record { first = r.0; other = None; then = r.1 })
other_side f (Some s) values r = if r.1.is_cut then Ok (record { first = r.0; other = None; then = r.1 }) else (do
  q ← f s values r.1
  Ok (record { first = r.0; other = Some q.0; then = q.1 }))

abbrev pub sides : {S : Type 0} → (S → Run Stmt) → Option S → Values → Or_fault (Stmt × Progress) → Or_fault Sides
sides f b values first = first >>= other_side f b values

-- ---- statements

-- an assignment
unfoldable pub assignment : Place → Expr → Assigns → Expr → Run Stmt
assignment place target by value values p = do
  t ← put_in values target
  v ← put_in values value
  Ok (stmt.Assign place t by v, p)

-- by the parts of a statement, each beside what it becomes
unfoldable pub unroll_by_parts : Stmt-F (Stmt × Run Stmt) → Run Stmt
unroll_by_parts (Stmt-F.Empty place) values p = Ok (stmt.Empty place, p)
unroll_by_parts (Stmt-F.Block place label ss) values p = do
  r ← each (λ s. s.1) [] ss values p
  Ok (stmt.Block place label r.0, r.1)
unroll_by_parts (Stmt-F.Assign place target by value) values p = assignment place target by value values p
unroll_by_parts (Stmt-F.If place test a b) values p = do
  t ← put_in values test
  r ← sides (λ s. s.1) b values (a.1 values p)
  Ok (stmt.If place t r.first r.other, r.then)
unroll_by_parts (Stmt-F.Case place how selector arms) values p = do
  s ← put_in values selector
  r ← each (arm_in (λ s. s.1)) [] arms values p
  Ok (stmt.Case place how s r.0, r.1)
unroll_by_parts (Stmt-F.For place h body) values p = unroll_loop place h body.0 body.1 values p

unfoldable pub unroll : Stmt → Run Stmt
unroll = para-Stmt (Run Stmt) unroll_by_parts

-- what a body becomes, if no name of a header stands in the way
unfoldable pub unrolled_if : Stmt → Option Place → Or_fault Unrolled
unrolled_if s (Some place) = Err (Const (NotConstant place))
unrolled_if s None = do
  r ← unroll s no_values begun
  Ok (record { body = r.0; turns = r.1.turns; headers = r.1.headers; is_cut = r.1.is_cut })

-- a body without loops
unfoldable pub unrolled : Stmt → Or_fault Unrolled
unrolled s = unrolled_if s (unknown s no_values)
