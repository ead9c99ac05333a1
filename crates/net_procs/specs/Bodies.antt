-- Which gates a process body without loops is (IEEE 1364-2005, clause 9): statement by statement, as `proc_values` says what
-- it is worth.
--   run d reads bits s r         what a statement makes of r, in a process that assigns `bits` and whose later reads see what is
--                                assigned to `reads`
--   drawn d reads bits s nodes   the nodes that `bits` become, where each bit of the design has a node before
-- `if` and `case` draw all their sides from the same nodes, and select each bit that the process assigns, also one that no side
-- touches; what later reads see, at the bits of `reads` alone. A blocking assignment is seen by later reads, a nonblocking one
-- isn't.
use Rattle.std.specs.Prelude.{ℕ, List, [], ◌∷◌, Option, None, Some}
use Rattle.vlog_tree.specs.declared.expr.Expr.{Expr}
use Rattle.vlog_tree.specs.declared.stmt.Arm.{Arm}
use Rattle.vlog_tree.specs.declared.stmt.Assigns.{Assigns}
use Rattle.vlog_tree.specs.declared.stmt.Assigns.TheVariants.{Blocking, Nonblocking}
use Rattle.vlog_tree.specs.declared.stmt.Matching.{Matching}
use Rattle.vlog_tree.specs.declared.stmt.Stmt.{Stmt, fold-Stmt}
use Rattle.vlog_tree.specs.declared.stmt.Stmt.TheOpen.{Stmt-F}
use Rattle.vlog_const.specs.declared.shape.Shape.{Shape}
use Rattle.design_form.specs.declared.parts.Parts.{Parts}
use Rattle.design_sizes.specs.Sizes.{shape_of, case_shape}
use Rattle.proc_cases.specs.Full.{is_full, labels_of}
use Rattle.proc_values.specs.Cases.{standing}
use Rattle.net_words.specs.Builds.{Build, ◌>>=◌, return}
use Rattle.net_words.specs.Words.{any}
use Rattle.net_exprs.specs.Names.{wired_in}
use Rattle.net_exprs.specs.Lowered.{built_of, built_in, built_within}
use Rattle.net_procs.specs.declared.stroke.Stroke.{Stroke}
use Rattle.net_procs.specs.Runs.{Step, struck, chosen, nodes_of}
use Rattle.net_procs.specs.Targets.{strokes}
use Rattle.net_procs.specs.Labels.{any_hit}
use Rattle.net_procs.specs.Cases.{case_run}

-- ---- assignments

-- a write, which later reads see if it is blocking, and at `reads` alone
unfoldable pub written : List ℕ → List ℕ → Assigns → List Stroke → Step
written reads bits Blocking ks r = do
  next ← struck bits ks r.next
  now ← struck reads ks r.now
  return (record { now = now; next = next })
written reads bits Nonblocking ks r = do
  next ← struck bits ks r.next
  return (record { now = r.now; next = next })

-- what an assignment writes: the value as on the right of an assignment to the target's width, then the target
unfoldable pub strokes_of : Parts → Expr → Expr → List ℕ → Build (List Stroke)
strokes_of d target value now = do
  word ← built_within (wired_in d now) (shape_of d target).width value
  strokes d now target word

unfoldable pub assign : Parts → List ℕ → List ℕ → Expr → Assigns → Expr → Step
assign d reads bits target by value r = do
  ks ← strokes_of d target value r.now
  written reads bits by ks r

-- ---- choices

-- of a side that may be absent
unfoldable pub side : Option Step → Step
side None r = return r
side (Some f) r = f r

-- whether a test holds
unfoldable pub tested : Parts → Expr → List ℕ → Build ℕ
tested d test now = do
  word ← built_of (wired_in d now) test
  any word

unfoldable pub branch : Parts → List ℕ → List ℕ → Expr → Step → Step → Step
branch d reads bits test one other r = do
  c ← tested d test r.now
  x ← one r
  y ← other r
  chosen reads bits c x y

-- the items behind a selector that is drawn, where c is the shape of the selector and all labels together
abbrev pub cases_by : Parts → List ℕ → List ℕ → Matching → Shape → Option ℕ → List ℕ → List (Arm Step) → Step
cases_by d reads bits how c at selector arms r = case_run reads bits (any_hit d r.now how c selector) at arms r

unfoldable pub cases : Parts → List ℕ → List ℕ → Matching → Expr → List (Arm Step) → Step
cases d reads bits how selector arms r = do
  word ← built_in (wired_in d r.now) (case_shape d selector (labels_of arms)) selector
  cases_by d reads bits how (case_shape d selector (labels_of arms)) (standing (is_full d how selector (labels_of arms)) arms) word arms r

-- ---- statements

-- one after the other
unfoldable pub in_order : List Step → Step
in_order [] r = return r
in_order (f ∷ fs) r = do
  next ← f r
  in_order fs next

-- by the parts of a statement. No loop stands in it: one would be its body, run once
unfoldable pub run_by_parts : Parts → List ℕ → List ℕ → Stmt-F Step → Step
run_by_parts d reads bits (Stmt-F.Empty place) r = return r
run_by_parts d reads bits (Stmt-F.Block place label inner) r = in_order inner r
run_by_parts d reads bits (Stmt-F.Assign place target by value) r = assign d reads bits target by value r
run_by_parts d reads bits (Stmt-F.If place test a b) r = branch d reads bits test a (side b) r
run_by_parts d reads bits (Stmt-F.Case place how selector arms) r = cases d reads bits how selector arms r
run_by_parts d reads bits (Stmt-F.For place h body) r = body r

unfoldable pub run : Parts → List ℕ → List ℕ → Stmt → Step
run d reads bits = fold-Stmt Step (run_by_parts d reads bits)

-- the nodes that `bits` become
unfoldable pub drawn : Parts → List ℕ → List ℕ → Stmt → List ℕ → Build (List ℕ)
drawn d reads bits s nodes = do
  r ← run d reads bits s (record { now = nodes; next = nodes })
  return (nodes_of r.next bits)
