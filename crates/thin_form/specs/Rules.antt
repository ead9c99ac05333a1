-- The rules on the names of a module of the form.
--     declared m, processes m, assignments m, names_of ds, cleared ps, targets assigns, clocks ps      what a module lists
--     is_among name names, is_declared ds name, is_a class ds name      what a name is
--     IsProcessOf ds p, IsAssignmentOf ds a      each keeps the rules of its own
--     IsForward assigns, HasNoCycle assigns      the assignments read each other in one direction
--     IsOfForm m      the module keeps all rules
use Rattle.std.specs.Prelude.{◌≡◌, ℕ, Bool, true, false, ◌&&◌, IsTrue, List, [], ◌∷◌, ◌++◌, map}
use Rattle.std.specs.List.{AllByRecursion, IsDistinct, list_any}
use Rattle.std.specs.List.Sorted.{IsPermutation}
use Rattle.std.specs.Str.{bytes_eq}
use Rattle.thin_tree.specs.declared.tree.Class.{Class}
use Rattle.thin_tree.specs.declared.tree.Class.TheVariants.{Input, Net, Register}
use Rattle.thin_tree.specs.Tree.{Expr, Declared, Assignment, Process, Module}
use Rattle.thin_tree.specs.Grammar.{names_in}

-- what is declared
abbrev pub declared : Module → List Declared
declared m = m.declared

-- the processes of a module
abbrev pub processes : Module → List Process
processes m = m.processes

-- the assignments of a module
abbrev pub assignments : Module → List Assignment
assignments m = m.assignments

-- the names that are declared
abbrev pub names_of : List Declared → List (List ℕ)
names_of ds = map (λ d. d.name) ds

-- the names that the processes assign after `if`
abbrev pub cleared : List Process → List (List ℕ)
cleared ps = map (λ p. p.cleared) ps

-- the names that the assignments assign
abbrev pub targets : List Assignment → List (List ℕ)
targets assigns = map (λ a. a.target) assigns

-- the names at whose rising edge a process runs
abbrev pub clocks : List Process → List (List ℕ)
clocks ps = map (λ p. p.clock) ps

-- the expressions of a module
abbrev pub expressions : List Assignment → List Process → List Expr
expressions assigns ps = map (λ a. a.value) assigns ++ map (λ p. p.data) ps

-- the name is one of these
abbrev pub is_among : List ℕ → List (List ℕ) → Bool
is_among name names = list_any (bytes_eq name) names

-- the name is declared
abbrev pub is_declared : List Declared → List ℕ → Bool
is_declared ds name = list_any (λ d. bytes_eq name d.name) ds

-- the same class
abbrev pub class_eq : Class → Class → Bool
class_eq Input Input = true
class_eq Input Net = false
class_eq Input Register = false
class_eq Net Input = false
class_eq Net Net = true
class_eq Net Register = false
class_eq Register Input = false
class_eq Register Net = false
class_eq Register Register = true

-- the name is declared as one of this class
abbrev pub is_a : Class → List Declared → List ℕ → Bool
is_a class ds name = list_any (λ d. bytes_eq name d.name && class_eq class d.class) ds

-- each name is declared once
abbrev pub IsDeclaredOnce : List Declared → Type 0
IsDeclaredOnce ds = IsDistinct bytes_eq (names_of ds)

-- each name in the expression is declared
abbrev pub ReadsDeclared : List Declared → Expr → Type 0
ReadsDeclared ds e = AllByRecursion (λ name. IsTrue (is_declared ds name)) (names_in e)

-- the clock and the tested name are input ports, and what is read is declared
pub record UsesDeclared (ds : List Declared) (p : Process) : Type 0 where
  pub clock : IsTrue (is_a Input ds p.clock)
  pub tested : IsTrue (is_a Input ds p.tested)
  pub «data» : ReadsDeclared ds p.data

-- `!` stands exactly with `negedge`, and the tested name is the second event's
pub record TestsItsEvent (p : Process) : Type 0 where
  pub negated : p.negated ≡ p.falling
  pub tested : p.tested ≡ p.event

-- both branches assign one register
pub record AssignsRegister (ds : List Declared) (p : Process) : Type 0 where
  pub both : p.loaded ≡ p.cleared
  pub register : IsTrue (is_a Register ds p.cleared)

-- a process keeps the rules of its own
pub record IsProcessOf (ds : List Declared) (p : Process) : Type 0 where
  pub uses : UsesDeclared ds p
  pub tests : TestsItsEvent p
  pub assigns : AssignsRegister ds p

-- an assignment assigns a wire or a plain output, and what it reads is declared
pub record IsAssignmentOf (ds : List Declared) (a : Assignment) : Type 0 where
  pub target : IsTrue (is_a Net ds a.target)
  pub value : ReadsDeclared ds a.value

-- these names are those of the class, each once
pub record IsAssignedOnce (class : Class) (ds : List Declared) (names : List (List ℕ)) : Type 0 where
  pub once : IsDistinct bytes_eq names
  pub each : AllByRecursion (λ d. d.class ≡ class → IsTrue (is_among d.name names)) ds

-- none of these names stands in the expression
abbrev pub ReadsNone : List (List ℕ) → Expr → Type 0
ReadsNone names e = AllByRecursion (λ name. is_among name names ≡ false) (names_in e)

-- no clock is tested, and none stands in an expression
pub record KeepsClocks (ps : List Process) (assigns : List Assignment) : Type 0 where
  pub tested : AllByRecursion (λ p. is_among p.tested (clocks ps) ≡ false) ps
  pub read : AllByRecursion (ReadsNone (clocks ps)) (expressions assigns ps)

-- each reads nothing that it or a later one assigns
abbrev pub IsForward : List Assignment → Type 0
IsForward [] = Unit {0}
IsForward (a ∷ assigns) = ReadsNone (targets (a ∷ assigns)) a.value × IsForward assigns

-- the assignments have no cycle: they can be listed so that each reads nothing that it or a later one assigns
pub record HasNoCycle (assigns : List Assignment) : Type 0 where
  pub order : List Assignment
  pub same : IsPermutation assigns order
  pub forward : IsForward order

-- the processes and assignments keep the rules
pub record KeepsRules (ds : List Declared) (ps : List Process) (assigns : List Assignment) : Type 0 where
  pub each_process : AllByRecursion (IsProcessOf ds) ps
  pub each_assignment : AllByRecursion (IsAssignmentOf ds) assigns
  pub registers : IsAssignedOnce Register ds (cleared ps)
  pub nets : IsAssignedOnce Net ds (targets assigns)
  pub clocks_kept : KeepsClocks ps assigns
  pub acyclic : HasNoCycle assigns

-- the module keeps all rules
pub record IsOfForm (m : Module) : Type 0 where
  pub declared_once : IsDeclaredOnce (declared m)
  pub rules : KeepsRules (declared m) (processes m) (assignments m)
