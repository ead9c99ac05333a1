-- The paths of a body without loops, in a process that waits for no edge: what all of them assign, and what is read before.
-- `done` are the bits that each path so far has assigned, in ascending order; `bits` are those that the process assigns.
--     certain ss e               the bits that an assignment to a target assigns for sure
--     ready ss bits done         a variable of the process may be read where all of its bits are done
--     passes_by d how selector arms     whether a path leads past the items of a `case`
--     Walk                       the bits that are done behind a statement, or the first `Latch` in it
--     walk d bits s              a statement
--     complete place ss bits done       all bits of the process are done at the end, or `Latch` at its place
--     paths_checked d p bits body       both
use Rattle.std.specs.Prelude.{if◌then◌else◌, ℕ, Bool, true, false, not, ◌&&◌, List, [], ◌∷◌, Option, Some, None, Ok, Err}
use Rattle.std.specs.List.{flat_map, list_all, list_any}
use Rattle.rdc_outside.specs.declared.source.Place.{Place}
use Rattle.vlog_tree.specs.declared.expr.Expr.{Expr, para-Expr}
use Rattle.vlog_tree.specs.declared.expr.Expr.TheOpen.{Expr-F}
use Rattle.vlog_tree.specs.declared.stmt.Arm.{Arm}
use Rattle.vlog_tree.specs.declared.stmt.Matching.{Matching}
use Rattle.vlog_tree.specs.declared.stmt.Stmt.{Stmt, fold-Stmt}
use Rattle.vlog_tree.specs.declared.stmt.Stmt.TheOpen.{Stmt-F}
use Rattle.vlog_const.specs.declared.whole.Whole.{Whole}
use Rattle.design_form.specs.declared.signal.Signal.{Signal}
use Rattle.design_form.specs.declared.parts.Parts.{Parts}
use Rattle.elab_bits.specs.Touches.{entered, is_among, once}
use Rattle.elab_bits.specs.Selects.{all_bits, constant, indexed, selected}
use Rattle.proc_cases.specs.Full.{is_full, labels_of}
use Rattle.vlog_proc.specs.declared.fault.ProcFault.TheVariants.{Latch}
use Rattle.vlog_proc.specs.Faults.{Or_fault, ◌>>=◌, all_checked}
use Rattle.vlog_proc.specs.Names.{owner}
use Rattle.vlog_proc.specs.Uses.{Test, uses, target_uses}

-- ---- what is assigned for sure

unfoldable pub is_number : Option Whole → Bool
is_number None = false
is_number (Some i) = true

-- a write by an index that isn't constant selects each bit between two values, and assigns none for sure
unfoldable pub certain_by_parts : List Signal → Expr-F (Expr × List ℕ) → List ℕ
certain_by_parts ss (Expr-F.Name place name) = all_bits ss name
certain_by_parts ss (Expr-F.Index place name i) = if is_number (constant i.0) then indexed ss name i.0 else []
certain_by_parts ss (Expr-F.Select how place name i j) = if is_number (constant i.0) && is_number (constant j.0) then selected ss how name i.0 j.0 else []
certain_by_parts ss (Expr-F.Concat place members) = flat_map (λ a. a.1) members
certain_by_parts ss _ = []

-- the bits that an assignment to a target assigns for sure
unfoldable pub certain : List Signal → Expr → List ℕ
certain ss = para-Expr (List ℕ) (certain_by_parts ss)

-- ---- what is read

-- a variable of the process, of which not all bits are done
unfoldable pub is_early : List Signal → List ℕ → List ℕ → List ℕ → Bool
is_early ss bits done name = list_any (is_among bits) (all_bits ss name) && not (list_all (is_among done) (all_bits ss name))

-- a variable of the process may be read where all of its bits are done
unfoldable pub ready : List Signal → List ℕ → List ℕ → Test
ready ss bits done place name = if is_early ss bits done name then Err (Latch name place) else Ok tt

-- ---- statements

-- the bits that are done behind a statement, or the first `Latch` in it, by what is done before it
abbrev pub Walk : Type 0
Walk = List ℕ → Or_fault (List ℕ)

-- a bit, if a list has it
unfoldable pub kept_in : List ℕ → ℕ → List ℕ
kept_in ms n = if is_among ms n then n ∷ [] else []

-- the bits of one list that the other one has too
unfoldable pub shared : List ℕ → List ℕ → List ℕ
shared ns ms = once (flat_map (kept_in ms) ns)

-- an assignment
unfoldable pub assign_walk : Parts → List ℕ → Expr → Expr → Walk
assign_walk d bits target value done = do
  u ← target_uses (ready d.signals bits done) target
  v ← uses (ready d.signals bits done) value
  Ok (entered done (certain d.signals target))

-- one behind the other
unfoldable pub in_turn : {S : Type 0} → (S → Walk) → List S → Walk
in_turn f [] done = Ok done
in_turn f (s ∷ ss) done = do
  x ← f s done
  in_turn f ss x

-- the other side of an `if` whose first one leaves x; without it nothing more is done
unfoldable pub other_side : {S : Type 0} → (S → Walk) → Option S → List ℕ → Walk
other_side f None x done = Ok done
other_side f (Some s) x done = do
  y ← f s done
  Ok (shared x y)

-- what is done behind an expression that may be read, which is what was done
unfoldable pub tested : Parts → List ℕ → Expr → Walk
tested d bits e done = do
  u ← uses (ready d.signals bits done) e
  Ok done

unfoldable pub choice_walk : {S : Type 0} → Parts → List ℕ → (S → Walk) → Expr → S → Option S → Walk
choice_walk d bits f test a b done = do
  own ← tested d bits test done
  x ← f a own
  other_side f b x done

-- the same behind labels
unfoldable pub begun : Parts → List ℕ → List Expr → Walk
begun d bits es done = do
  u ← all_checked (uses (ready d.signals bits done)) es
  Ok done

-- a case item
unfoldable pub item_walk : {S : Type 0} → Parts → List ℕ → (S → Walk) → Arm S → Walk
item_walk d bits f a done = do
  own ← begun d bits a.labels done
  f a.body own

-- what an item shares with those before it, if there are some
unfoldable pub met_with : Option (List ℕ) → List ℕ → List ℕ
met_with None y = y
met_with (Some x) y = shared x y

-- what all share, where there are some
unfoldable pub or_done : List ℕ → Option (List ℕ) → List ℕ
or_done done None = done
or_done done (Some x) = x

-- what further items share with those before
unfoldable pub also : {S : Type 0} → (S → Walk) → List S → Option (List ℕ) → Walk
also f [] x done = Ok (or_done done x)
also f (a ∷ more) x done = do
  y ← f a done
  also f more (Some (met_with x y)) done

-- what all of some items share
abbrev pub together : {S : Type 0} → (S → Walk) → List S → Walk
together f arms done = also f arms None done

-- whether one of some items is the default
unfoldable pub is_default : List Expr → Bool
is_default [] = true
is_default (e ∷ es) = false

unfoldable pub has_default : {S : Type 0} → List (Arm S) → Bool
has_default arms = list_any (λ a. is_default a.labels) arms

-- whether a path leads past the items of a `case`
unfoldable pub passes_by : {S : Type 0} → Parts → Matching → Expr → List (Arm S) → Bool
passes_by d how selector arms = not (has_default arms) && not (is_full d how selector (labels_of arms))

-- what is done behind a `case` whose items share x
unfoldable pub settled : {S : Type 0} → Parts → Matching → Expr → List (Arm S) → List ℕ → List ℕ → Or_fault (List ℕ)
settled d how selector arms done x = Ok (if passes_by d how selector arms then done else x)

unfoldable pub case_walk : {S : Type 0} → Parts → List ℕ → (S → Walk) → Matching → Expr → List (Arm S) → Walk
case_walk d bits f how selector arms done = do
  own ← tested d bits selector done
  x ← together (item_walk d bits f) arms own
  settled d how selector arms done x

unfoldable pub walk_by_parts : Parts → List ℕ → Stmt-F Walk → Walk
walk_by_parts d bits (Stmt-F.Empty place) done = Ok done
walk_by_parts d bits (Stmt-F.Block place label inner) done = in_turn (λ w. w) inner done
walk_by_parts d bits (Stmt-F.Assign place target by value) done = assign_walk d bits target value done
walk_by_parts d bits (Stmt-F.If place test a b) done = choice_walk d bits (λ w. w) test a b done
walk_by_parts d bits (Stmt-F.Case place how selector arms) done = case_walk d bits (λ w. w) how selector arms done
walk_by_parts d bits (Stmt-F.For place h body) done = Ok done

-- a statement without loops
unfoldable pub walk : Parts → List ℕ → Stmt → Walk
walk d bits = fold-Stmt Walk (walk_by_parts d bits)

-- ---- processes

unfoldable pub is_done : Place → List Signal → List ℕ → ℕ → Or_fault (Unit {0})
is_done place ss done n = if is_among done n then Ok tt else Err (Latch (owner ss n) place)

-- all bits of the process are done at the end, or `Latch` at its place
abbrev pub complete : Place → List Signal → List ℕ → List ℕ → Or_fault (Unit {0})
complete place ss bits done = all_checked (is_done place ss done) bits

unfoldable pub paths_checked : Parts → Place → List ℕ → Stmt → Or_fault (Unit {0})
paths_checked d place bits body = do
  done ← walk d bits body []
  complete place d.signals bits done
