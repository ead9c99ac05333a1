-- The first form of source: which flat designs are of it, and what they say in it. A reading is None where a part isn't of the form.
--     said e                         an expression of names, brackets, `~`, `&` and `|`
--     test_of e, bit_of e            a name behind `!` or not; the number 1'b0 or 1'b1
--     choice_of s, events_of c       what a process does, and at which events
--     process_of c s                 a process of the template
--     signal_in inputs s             a signal of one bit
--     class_at d name                what a signal of that name is
--     assignment_in d x, process_in d p       a driver of a wire; a process, its clock and its reset at their roots
--     is_clock d ps name             whether a name leads to a clock
--     form_of d                      a flat design
use Rattle.std.specs.Prelude.{ℕ, Bool, true, false, not, ◌&&◌, ◌==◌, if◌then◌else◌, List, [], ◌∷◌, map, filter, Option, Some, None}
use Rattle.std.specs.Option.{option_map, is_some}
use Rattle.rdc_outside.specs.declared.source.Place.{Place}
use Rattle.vlog_tree.specs.declared.ident.Ident.{Ident}
use Rattle.vlog_tree.specs.declared.number.Base.{Base}
use Rattle.vlog_tree.specs.declared.number.Base.TheVariants as base
use Rattle.vlog_tree.specs.declared.number.Number.{Number}
use Rattle.vlog_tree.specs.declared.operator.Unary.{Unary}
use Rattle.vlog_tree.specs.declared.operator.Unary.TheVariants as unary
use Rattle.vlog_tree.specs.declared.operator.Binary.{Binary}
use Rattle.vlog_tree.specs.declared.operator.Binary.TheVariants as binary
use Rattle.vlog_tree.specs.declared.expr.Expr.{Expr, fold-Expr, out-Expr}
use Rattle.vlog_tree.specs.declared.expr.Expr.TheOpen.{Expr-F}
use Rattle.vlog_tree.specs.declared.stmt.Assigns.{Assigns}
use Rattle.vlog_tree.specs.declared.stmt.Assigns.TheVariants as assigns
use Rattle.vlog_tree.specs.declared.stmt.Stmt.{Stmt, out-Stmt}
use Rattle.vlog_tree.specs.declared.stmt.Stmt.TheOpen.{Stmt-F}
use Rattle.vlog_tree.specs.declared.stmt.Edge.{Edge}
use Rattle.vlog_tree.specs.declared.stmt.Edge.TheVariants as edge
use Rattle.vlog_tree.specs.declared.stmt.Event.{Event}
use Rattle.vlog_tree.specs.declared.stmt.Control.{Control}
use Rattle.vlog_tree.specs.declared.stmt.Control.TheVariants as control
use Rattle.design_form.specs.declared.signal.Signal.{Signal}
use Rattle.design_form.specs.declared.signal.SignalKind.{SignalKind}
use Rattle.design_form.specs.declared.signal.SignalKind.TheVariants as kinds
use Rattle.design_form.specs.declared.parts.Side.{Side}
use Rattle.design_form.specs.declared.parts.Side.TheVariants as sides
use Rattle.design_form.specs.declared.parts.TopPort.{TopPort}
use Rattle.design_form.specs.declared.parts.Driver.{Driver}
use Rattle.design_form.specs.declared.parts.Process as flat
use Rattle.design_form.specs.declared.parts.Parts.{Parts}
use Rattle.design_form.specs.Signals.{is_single}
use Rattle.design_form.specs.Numbers.{index_of, signal_of}
use Rattle.thin_tree.specs.Copies.{name_of, copies, root}
use Rattle.thin_tree.specs.Grammar.{is_ascii}
use Rattle.thin_tree.specs.Tree as tree

-- what f makes of a value that is there
unfoldable pub and_then : {A B : Type 0} → Option A → (A → Option B) → Option B
and_then None f = None
and_then (Some x) f = f x

infixl 10 ◌>>=◌
abbrev pub ◌>>=◌ : {A B : Type 0} → Option A → (A → Option B) → Option B
r >>= f = and_then r f

-- what f makes of each, where it makes something of all
unfoldable pub all_of : {A B : Type 0} → (A → Option B) → List A → Option (List B)
all_of f [] = Some []
all_of f (x ∷ xs) = do
  y ← f x
  ys ← all_of f xs
  Some (y ∷ ys)

-- the value, where the test holds
unfoldable pub where_so : {A : Type 0} → Bool → A → Option A
where_so b a = if b then Some a else None

-- ~
unfoldable pub inverted : Unary → Option tree.Expr → Option tree.Expr
inverted unary.Invert u = option_map tree.Not u
inverted op u = None

-- & and |
unfoldable pub joined : Binary → Option tree.Expr → Option tree.Expr → Option tree.Expr
joined binary.And a b = do
  x ← a
  y ← b
  Some (tree.And x y)
joined binary.Or a b = do
  x ← a
  y ← b
  Some (tree.Or x y)
joined op a b = None

-- an expression by its parts
unfoldable pub said_by_parts : Expr-F (Option tree.Expr) → Option tree.Expr
said_by_parts (Expr-F.Name place name) = Some (tree.Name name)
said_by_parts (Expr-F.Brackets place inner) = option_map tree.Brackets inner
said_by_parts (Expr-F.Unary place op inner) = inverted op inner
said_by_parts (Expr-F.Binary place op left right) = joined op left right
said_by_parts e = None

-- an expression of names, brackets, `~`, `&` and `|`
unfoldable pub said : Expr → Option tree.Expr
said = fold-Expr (Option tree.Expr) said_by_parts

-- ! before a name
unfoldable pub negated : Unary → Expr → Option (Bool × List ℕ)
negated unary.Not inner = option_map (λ name. (true, name)) (name_of inner)
negated op inner = None

unfoldable pub test_in : Expr-F Expr → Option (Bool × List ℕ)
test_in (Expr-F.Name place name) = Some (false, name)
test_in (Expr-F.Unary place op inner) = negated op inner
test_in e = None

-- a name, and whether `!` stands before it
unfoldable pub test_of : Expr → Option (Bool × List ℕ)
test_of e = test_in (out-Expr e)

unfoldable pub is_binary : Base → Bool
is_binary base.Binary = true
is_binary b = false

-- of one bit, written as such: 1'b0 and 1'b1
unfoldable pub is_bit : Number → Bool
is_bit n = n.sized && not n.signed && is_binary n.base && n.width == 1 && n.z == 0

unfoldable pub bit_in : Expr-F Expr → Option Bool
bit_in (Expr-F.Number place n) = where_so (is_bit n) (not (n.bits == 0))
bit_in e = None

-- whether the number 1'b0 or 1'b1 is the second
unfoldable pub bit_of : Expr → Option Bool
bit_of e = bit_in (out-Expr e)

unfoldable pub is_absent : {A : Type 0} → Option A → Bool
is_absent None = true
is_absent (Some x) = false

unfoldable pub is_nonblocking : Assigns → Bool
is_nonblocking assigns.Blocking = false
is_nonblocking assigns.Nonblocking = true

unfoldable pub load_in : Stmt-F Stmt → Option (List ℕ × Expr)
load_in (Stmt-F.Assign place target by value) = do
  name ← name_of target
  where_so (is_nonblocking by) (name, value)
load_in s = None

-- NAME <= VALUE;
unfoldable pub load_of : Stmt → Option (List ℕ × Expr)
load_of s = load_in (out-Stmt s)

-- what a process does behind its events: ([!]TESTED), (CLEARED, VALUE) and (LOADED, DATA)
abbrev pub Branches : Type 0
Branches = (Bool × List ℕ) × (List ℕ × Bool) × (List ℕ × tree.Expr)

unfoldable pub branches_of : Expr → Stmt → Stmt → Option Branches
branches_of test chosen other = do
  t ← test_of test
  clear ← load_of chosen
  value ← bit_of clear.1
  load ← load_of other
  next ← said load.1
  Some (t, (clear.0, value), (load.0, next))

unfoldable pub choice_in : Stmt-F Stmt → Option Branches
choice_in (Stmt-F.If place test chosen (Some other)) = branches_of test chosen other
choice_in s = None

-- if ([!]TESTED) CLEARED <= VALUE; else LOADED <= DATA;
unfoldable pub choice_of : Stmt → Option Branches
choice_of s = choice_in (out-Stmt s)

-- a name without an index
unfoldable pub event_name : Event → Option (List ℕ)
event_name e = where_so (is_absent e.index) e.name.name

unfoldable pub is_rising : Edge → Bool
is_rising edge.Rising = true
is_rising e = false

-- whether the event is a `negedge`, of the two that are edges
unfoldable pub falls : Edge → Option Bool
falls edge.Rising = Some false
falls edge.Falling = Some true
falls edge.Any = None

-- posedge CLOCK or EDGE EVENT
unfoldable pub two_events : Event → Event → Option (List ℕ × Bool × List ℕ)
two_events first second = do
  clock ← event_name first
  event ← event_name second
  falling ← falls second.edge
  where_so (is_rising first.edge) (clock, falling, event)

unfoldable pub events_in : List Event → Option (List ℕ × Bool × List ℕ)
events_in (first ∷ second ∷ []) = two_events first second
events_in es = None

unfoldable pub events_of : Control → Option (List ℕ × Bool × List ℕ)
events_of (control.Events es) = events_in es
events_of control.Reads = None

-- always @(posedge CLOCK or EDGE EVENT) if ([!]TESTED) CLEARED <= VALUE; else LOADED <= DATA;
unfoldable pub process_of : Control → Stmt → Option tree.Process
process_of c s = do
  e ← events_of c
  b ← choice_of s
  Some (record { clock = e.0; falling = e.1; event = e.2; negated = b.0.0; tested = b.0.1; cleared = b.1.0; value = b.1.1; loaded = b.2.0; «data» = b.2.1 })

-- ---- signals

-- whether a name is one of these
abbrev pub is_among : List (List ℕ) → List ℕ → Bool
is_among names name = is_some (index_of names name)

unfoldable pub is_input : Side → Bool
is_input sides.Input = true
is_input sides.Output = false

-- the names of the input ports
abbrev pub input_names : List TopPort → List (List ℕ)
input_names ports = map (λ p. p.name) (filter (λ p. is_input p.side) ports)

unfoldable pub class_in : SignalKind → tree.Class
class_in kinds.Register = tree.Register
class_in k = tree.Net

-- an input port of the top, a register, or a wire
unfoldable pub class_of : List (List ℕ) → Signal → tree.Class
class_of inputs s = if is_among inputs s.name then tree.Input else class_in s.kind

-- a signal of one bit, whose name is printed without an index
unfoldable pub signal_in : List (List ℕ) → Signal → Option tree.Declared
signal_in inputs s = where_so (is_single s && is_ascii s.name) (record { class = class_of inputs s; name = s.name })

-- what a signal of that name is
abbrev pub class_at : Parts → List ℕ → Option tree.Class
class_at d name = option_map (class_of (input_names d.ports)) (signal_of d.signals name)

unfoldable pub is_net : tree.Class → Bool
is_net tree.Net = true
is_net c = false

unfoldable pub is_wire : Option tree.Class → Bool
is_wire None = false
is_wire (Some c) = is_net c

unfoldable pub is_register : Option tree.Class → Bool
is_register (Some tree.Register) = true
is_register c = false

-- ---- drivers and processes

-- a driver of a wire
unfoldable pub assignment_in : Parts → Driver → Option tree.Assignment
assignment_in d x = do
  target ← name_of x.target
  value ← said x.value
  where_so (is_wire (class_at d target)) (record { target = target; value = value })

-- the name that copies lead to
abbrev pub root_in : Parts → List ℕ → List ℕ
root_in d name = root (copies d.drivers) name

-- a process whose clock, second event and tested name stand for what they copy
abbrev pub rooted : Parts → tree.Process → tree.Process
rooted d p = record {
  clock = root_in d p.clock;
  falling = p.falling;
  event = root_in d p.event;
  negated = p.negated;
  tested = root_in d p.tested;
  cleared = p.cleared;
  value = p.value;
  loaded = p.loaded;
  «data» = p.data;
}

-- a process that loads a register
unfoldable pub process_in : Parts → flat.Process → Option tree.Process
process_in d x = do
  p ← process_of x.control x.body
  where_so (is_register (class_at d p.loaded)) (rooted d p)

-- ---- the whole

-- whether a name leads to the clock of a process
unfoldable pub is_clock : Parts → List tree.Process → List ℕ → Bool
is_clock d ps name = is_among (map (λ p. p.clock) ps) (root_in d name)

-- a wire that leads to a clock is the clock itself, and left out
unfoldable pub stays : Parts → List tree.Process → tree.Declared → Bool
stays d ps s = not (is_net s.class && is_clock d ps s.name)

abbrev pub without_clocks : Parts → List tree.Declared → List tree.Assignment → List tree.Process → tree.Module
without_clocks d ss assigns ps = record { declared = filter (stays d ps) ss; assignments = filter (λ a. not (is_clock d ps a.target)) assigns; processes = ps }

unfoldable pub is_empty : {A : Type 0} → List A → Bool
is_empty [] = true
is_empty (x ∷ xs) = false

-- a flat design without boxes and gates
unfoldable pub form_of : Parts → Option tree.Module
form_of d = do
  ss ← all_of (signal_in (input_names d.ports)) d.signals
  assigns ← all_of (assignment_in d) d.drivers
  ps ← all_of (process_in d) d.processes
  where_so (is_empty d.boxes && is_empty d.gates) (without_clocks d ss assigns ps)
