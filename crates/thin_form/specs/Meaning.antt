-- What a module means: the design of its names, with a flop for each process and a formula for each expression.
--     place ns name          where the name stands
--     process_for name ps, value_for name assigns      the process that assigns the name, and the expression
--     IsFormulaOf ns assigns e f  what an expression computes from the sources of these names
--     IsDesignOf m d         the design of a module
use Rattle.std.specs.Prelude.{◌≡◌, ℕ, ◌+◌, false, not, if◌then◌else◌, IsTrue, List, [], ◌∷◌, map, Option, Some, None}
use Rattle.std.specs.List.{AllByRecursion}
use Rattle.std.specs.Str.{bytes_eq}
use Rattle.thin_tree.specs.Tree as tree
use Rattle.thin_tree.specs.declared.tree.Class.TheVariants.{Net}
use Rattle.thin_form.specs.Rules.{declared, processes, assignments, is_a, is_declared, is_among}
use Rattle.thin_form.specs.Formula as formula
use Rattle.thin_form.specs.Design.{Flop, Kind, Input, Register, Design, IsAscending, names}

-- where a name stands in a list
abbrev pub place : List (List ℕ) → List ℕ → ℕ
place [] name = 0
place (n ∷ ns) name = if bytes_eq n name then 0 else 1 + place ns name

-- the process that assigns a name
abbrev pub process_for : List ℕ → List tree.Process → Option tree.Process
process_for name [] = None
process_for name (p ∷ ps) = if bytes_eq p.cleared name then Some p else process_for name ps

-- the expression that is assigned to a name
abbrev pub value_for : List ℕ → List tree.Assignment → Option tree.Expr
value_for name [] = None
value_for name (a ∷ assigns) = if bytes_eq a.target name then Some a.value else value_for name assigns

-- what an expression computes from the sources of these names, each wire replaced by what is assigned to it
pub data IsFormulaOf (ns : List (List ℕ)) (assigns : List tree.Assignment) : tree.Expr → formula.Formula → Type 0 where
  a_source : (name : List ℕ) → IsTrue (is_among name ns) → IsFormulaOf ns assigns (tree.Name name) (formula.Source (place ns name))
  a_wire : (name : List ℕ) (value : tree.Expr) (f : formula.Formula) → is_among name ns ≡ false → value_for name assigns ≡ Some value
      → IsFormulaOf ns assigns value f → IsFormulaOf ns assigns (tree.Name name) f
  brackets : (a : tree.Expr) (f : formula.Formula) → IsFormulaOf ns assigns a f → IsFormulaOf ns assigns (tree.Brackets a) f
  negation : (a : tree.Expr) (f : formula.Formula) → IsFormulaOf ns assigns a f → IsFormulaOf ns assigns (tree.Not a) (formula.Not f)
  both : (a b : tree.Expr) (f g : formula.Formula) → IsFormulaOf ns assigns a f → IsFormulaOf ns assigns b g → IsFormulaOf ns assigns (tree.And a b) (formula.And f g)
  either : (a b : tree.Expr) (f g : formula.Formula) → IsFormulaOf ns assigns a f → IsFormulaOf ns assigns b g → IsFormulaOf ns assigns (tree.Or a b) (formula.Or f g)

-- the flop of a process, with its names as places in a list
pub record IsFlopOf (ns : List (List ℕ)) (assigns : List tree.Assignment) (p : tree.Process) (f : Flop) : Type 0 where
  pub clock : f.clock ≡ place ns p.clock
  pub pin : f.pin ≡ place ns p.event
  pub high : f.high ≡ not p.falling
  pub reset : f.reset ≡ p.value
  pub next : IsFormulaOf ns assigns p.data f.next

-- a name that a process assigns is a register; any other is an input
abbrev pub IsKindOf : List (List ℕ) → List tree.Assignment → Option tree.Process → Kind → Type 0
IsKindOf ns assigns None kind = kind ≡ Input
IsKindOf ns assigns (Some p) kind = (f : Flop) × (kind ≡ Register f) × IsFlopOf ns assigns p f

-- the sources of a module: the names of its inputs and registers in order, each with its kind
pub record AreSourcesOf (m : tree.Module) (d : Design) : Type 0 where
  pub ascending : IsAscending (names d)
  pub declared_names : (name : List ℕ) → is_among name (names d) ≡ (if is_a Net (declared m) name then false else is_declared (declared m) name)
  pub kinds : AllByRecursion (λ s. IsKindOf (names d) (assignments m) (process_for s.name (processes m)) s.kind) d.sources

-- the wires of a module: the names of its wires and plain outputs in order, each with its formula
pub record AreWiresOf (m : tree.Module) (d : Design) : Type 0 where
  pub ascending : IsAscending (map (λ w. w.name) d.wires)
  pub declared_names : (name : List ℕ) → is_among name (map (λ w. w.name) d.wires) ≡ is_a Net (declared m) name
  pub values : AllByRecursion (λ w. IsFormulaOf (names d) (assignments m) (tree.Name w.name) w.value) d.wires

-- the design of a module
pub record IsDesignOf (m : tree.Module) (d : Design) : Type 0 where
  pub sources : AreSourcesOf m d
  pub wires : AreWiresOf m d
