-- What a process body without loops is worth (IEEE 1364-2005, clause 9, over ternary values).
--     run d reads bits s r       what a statement makes of r, in a process that assigns `bits` and whose later reads see what is
--                                assigned to `reads`
--     worth d reads bits s state       what `bits` become from a state
-- `if` and `case` run all their sides from one state, and select each bit that the process assigns, also one that no side
-- touches. A blocking assignment is seen by later reads, a nonblocking one isn't.
-- For a process without edges a caller gives reads = bits. For one with edges, whose reads are of old values, it gives as `reads`
-- the bits of the variables of its loops, and none where nothing reads one behind its loop.
use Rattle.std.specs.Prelude.{ℕ, List, [], ◌∷◌, Option, None, Some}
use Rattle.vlog_tree.specs.declared.expr.Expr.{Expr}
use Rattle.vlog_tree.specs.declared.stmt.Arm.{Arm}
use Rattle.vlog_tree.specs.declared.stmt.Assigns.{Assigns}
use Rattle.vlog_tree.specs.declared.stmt.Assigns.TheVariants.{Blocking, Nonblocking}
use Rattle.vlog_tree.specs.declared.stmt.Matching.{Matching}
use Rattle.vlog_tree.specs.declared.stmt.Stmt.{Stmt, fold-Stmt}
use Rattle.vlog_tree.specs.declared.stmt.Stmt.TheOpen.{Stmt-F}
use Rattle.rdc_tern.specs.declared.value.Tern.{Tern}
use Rattle.rdc_tern.specs.Words.{any_of}
use Rattle.vlog_const.specs.declared.shape.Shape.{Shape}
use Rattle.design_form.specs.declared.parts.Parts.{Parts}
use Rattle.design_form.specs.Values.{word_of, word_in, word_within}
use Rattle.design_form.specs.State.{seen_in}
use Rattle.design_sizes.specs.Sizes.{shape_of, case_shape}
use Rattle.proc_cases.specs.Full.{is_full, labels_of}
use Rattle.proc_values.specs.declared.stroke.Stroke.{Stroke}
use Rattle.proc_values.specs.Runs.{Run, struck, chosen, values_of}
use Rattle.proc_values.specs.Targets.{strokes}
use Rattle.proc_values.specs.Labels.{any_hit}
use Rattle.proc_values.specs.Cases.{Step, standing, case_run}

-- ---- assignments

-- a write, which later reads see if it is blocking, and at `reads` alone
unfoldable pub written : List ℕ → List ℕ → Assigns → List Stroke → Step
written reads bits Blocking ks r = record { now = struck reads ks r.now; next = struck bits ks r.next }
written reads bits Nonblocking ks r = record { now = r.now; next = struck bits ks r.next }

-- the value as on the right of an assignment to the target's width
abbrev pub value_for : Parts → List Tern → Expr → Expr → List Tern
value_for d now target value = word_within (seen_in d now) (shape_of d target).width value

abbrev pub assign : Parts → List ℕ → List ℕ → Expr → Assigns → Expr → Step
assign d reads bits target by value r = written reads bits by (strokes d r.now target (value_for d r.now target value)) r

-- ---- choices

-- of a side that may be absent
unfoldable pub side : Option Step → Step
side None r = r
side (Some f) r = f r

abbrev pub branch : Parts → List ℕ → List ℕ → Expr → Step → Step → Step
branch d reads bits test one other r = chosen reads bits (any_of (word_of (seen_in d r.now) test)) (one r) (other r)

-- whether some labels match, where c is the shape of the selector and all labels together
abbrev pub hit_by : Parts → Run → Matching → Shape → Expr → List Expr → Tern
hit_by d r how c selector labels = any_hit d r.now how c (word_in (seen_in d r.now) c selector) labels

abbrev pub cases : Parts → List ℕ → List ℕ → Matching → Expr → List (Arm Step) → Step
cases d reads bits how selector arms r =
    case_run reads bits (hit_by d r how (case_shape d selector (labels_of arms)) selector) (standing (is_full d how selector (labels_of arms)) arms) arms r

-- ---- statements

-- one after the other
unfoldable pub in_order : List Step → Step
in_order [] r = r
in_order (f ∷ fs) r = in_order fs (f r)

-- by the parts of a statement. No loop stands in it: one would be its body, run once
unfoldable pub run_by_parts : Parts → List ℕ → List ℕ → Stmt-F Step → Step
run_by_parts d reads bits (Stmt-F.Empty place) r = r
run_by_parts d reads bits (Stmt-F.Block place label inner) r = in_order inner r
run_by_parts d reads bits (Stmt-F.Assign place target by value) r = assign d reads bits target by value r
run_by_parts d reads bits (Stmt-F.If place test a b) r = branch d reads bits test a (side b) r
run_by_parts d reads bits (Stmt-F.Case place how selector arms) r = cases d reads bits how selector arms r
run_by_parts d reads bits (Stmt-F.For place h body) r = body r

unfoldable pub run : Parts → List ℕ → List ℕ → Stmt → Step
run d reads bits = fold-Stmt Step (run_by_parts d reads bits)

-- what the bits that the process assigns become from a state
abbrev pub worth : Parts → List ℕ → List ℕ → Stmt → List Tern → List Tern
worth d reads bits s state = values_of (run d reads bits s (record { now = state; next = state })).next bits
