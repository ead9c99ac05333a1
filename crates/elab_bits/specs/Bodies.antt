-- Bodies of processes. Their loops are unrolled, so what a `for` still holds is its body.
--     assigned ss kind s      the bits that assignments of a kind assign, of any kind where none is given
--     body_reads ss s         what values, tests, selectors, labels and indices read, in the order of the text
use Rattle.std.specs.Prelude.{ℕ, Bool, true, false, if◌then◌else◌, List, [], ◌++◌, Option, Some, None}
use Rattle.std.specs.List.{flat_map}
use Rattle.vlog_tree.specs.declared.stmt.Assigns.{Assigns}
use Rattle.vlog_tree.specs.declared.stmt.Assigns.TheVariants.{Blocking, Nonblocking}
use Rattle.vlog_tree.specs.declared.stmt.Arm.{Arm}
use Rattle.vlog_tree.specs.declared.stmt.Stmt.{Stmt, fold-Stmt}
use Rattle.vlog_tree.specs.declared.stmt.Stmt.TheOpen.{Stmt-F}
use Rattle.design_form.specs.declared.signal.Signal.{Signal}
use Rattle.elab_bits.specs.declared.touch.Touch.{Touch}
use Rattle.elab_bits.specs.Reads.{reads}
use Rattle.elab_bits.specs.Targets.{targets, target_reads}

-- whether an assignment is of a kind
unfoldable pub is_of : Option Assigns → Assigns → Bool
is_of None by = true
is_of (Some Blocking) Blocking = true
is_of (Some Blocking) Nonblocking = false
is_of (Some Nonblocking) Blocking = false
is_of (Some Nonblocking) Nonblocking = true

-- of a side that may be absent
unfoldable pub side : {A : Type 0} → Option (List A) → List A
side None = []
side (Some xs) = xs

-- the bits that a statement assigns, by its parts
unfoldable pub assigned_by_parts : List Signal → Option Assigns → Stmt-F (List ℕ) → List ℕ
assigned_by_parts ss kind (Stmt-F.Empty place) = []
assigned_by_parts ss kind (Stmt-F.Block place label inner) = flat_map (λ ns. ns) inner
assigned_by_parts ss kind (Stmt-F.Assign place target by value) = if is_of kind by then targets ss target else []
assigned_by_parts ss kind (Stmt-F.If place test a b) = a ++ side b
assigned_by_parts ss kind (Stmt-F.Case place how selector arms) = flat_map (λ arm. arm.body) arms
assigned_by_parts ss kind (Stmt-F.For place h body) = body

unfoldable pub assigned : List Signal → Option Assigns → Stmt → List ℕ
assigned ss kind = fold-Stmt (List ℕ) (assigned_by_parts ss kind)

-- a case item
abbrev pub arm_reads : {S : Type 0} → List Signal → (S → List Touch) → Arm S → List Touch
arm_reads ss f arm = flat_map (reads ss) arm.labels ++ f arm.body

-- what a statement reads, by its parts
unfoldable pub body_by_parts : List Signal → Stmt-F (List Touch) → List Touch
body_by_parts ss (Stmt-F.Empty place) = []
body_by_parts ss (Stmt-F.Block place label inner) = flat_map (λ ts. ts) inner
body_by_parts ss (Stmt-F.Assign place target by value) = target_reads ss target ++ reads ss value
body_by_parts ss (Stmt-F.If place test a b) = reads ss test ++ (a ++ side b)
body_by_parts ss (Stmt-F.Case place how selector arms) = reads ss selector ++ flat_map (arm_reads ss (λ ts. ts)) arms
body_by_parts ss (Stmt-F.For place h body) = body

unfoldable pub body_reads : List Signal → Stmt → List Touch
body_reads ss = fold-Stmt (List Touch) (body_by_parts ss)
