-- How deep a tree is. A name, a number and an empty statement are 1 deep; each operator, pair of brackets, select,
-- concatenation, statement and generate construct is one deeper than its deepest part, and nothing else adds to it.
--     depth e, depth_of_stmt s, depth_of_item i, depth_of_module m, depth_of_modules ms
use Rattle.std.specs.Prelude.{ℕ, ◌+◌, max, List, [], ◌∷◌, map, Option, Some, None}
use Rattle.vlog_tree.specs.declared.ident.Ident.{Ident}
use Rattle.vlog_tree.specs.declared.expr.Expr.{Expr, fold-Expr}
use Rattle.vlog_tree.specs.declared.expr.Expr.TheOpen.{Expr-F}
use Rattle.vlog_tree.specs.declared.port.Range.{Range}
use Rattle.vlog_tree.specs.declared.port.Shape.{Shape}
use Rattle.vlog_tree.specs.declared.port.Port.{Port}
use Rattle.vlog_tree.specs.declared.port.Port.TheVariants as port
use Rattle.vlog_tree.specs.declared.stmt.Arm.{Arm}
use Rattle.vlog_tree.specs.declared.stmt.Loop.{Loop}
use Rattle.vlog_tree.specs.declared.stmt.Stmt.{Stmt, fold-Stmt}
use Rattle.vlog_tree.specs.declared.stmt.Stmt.TheOpen.{Stmt-F}
use Rattle.vlog_tree.specs.declared.stmt.Event.{Event}
use Rattle.vlog_tree.specs.declared.stmt.Control.{Control}
use Rattle.vlog_tree.specs.declared.stmt.Control.TheVariants as control
use Rattle.vlog_tree.specs.declared.item.Net.{Net}
use Rattle.vlog_tree.specs.declared.item.Binding.{Binding}
use Rattle.vlog_tree.specs.declared.item.Assignment.{Assignment}
use Rattle.vlog_tree.specs.declared.item.Gate.{Gate}
use Rattle.vlog_tree.specs.declared.item.NamedConnection.{NamedConnection}
use Rattle.vlog_tree.specs.declared.item.Connections.{Connections}
use Rattle.vlog_tree.specs.declared.item.Connections.TheVariants as connections
use Rattle.vlog_tree.specs.declared.item.Instance.{Instance}
use Rattle.vlog_tree.specs.declared.item.Block.{Block}
use Rattle.vlog_tree.specs.declared.item.Item.{Item, fold-Item}
use Rattle.vlog_tree.specs.declared.item.Item.TheOpen.{Item-F}
use Rattle.vlog_tree.specs.declared.module.Parameter.{Parameter}
use Rattle.vlog_tree.specs.declared.module.Module.{Module}

-- the greatest of some depths, or 0
unfoldable pub deepest : List ℕ → ℕ
deepest [] = 0
deepest (n ∷ ns) = max n (deepest ns)

-- of a part that may be absent
unfoldable pub deepest_if : Option ℕ → ℕ
deepest_if None = 0
deepest_if (Some n) = n

-- the depth of an expression by those of its parts
unfoldable pub depth_by_parts : Expr-F ℕ → ℕ
depth_by_parts (Expr-F.Number place n) = 1
depth_by_parts (Expr-F.Name place called) = 1
depth_by_parts (Expr-F.Index place called i) = 1 + i
depth_by_parts (Expr-F.Select part place called i j) = 1 + max i j
depth_by_parts (Expr-F.Brackets place i) = 1 + i
depth_by_parts (Expr-F.Concat place is) = 1 + deepest is
depth_by_parts (Expr-F.Repeat place c is) = 1 + max c (deepest is)
depth_by_parts (Expr-F.Unary place op u) = 1 + u
depth_by_parts (Expr-F.Binary place op a b) = 1 + max a b
depth_by_parts (Expr-F.Conditional place test a b) = 1 + max test (max a b)

-- the depth of an expression
unfoldable pub depth : Expr → ℕ
depth = fold-Expr ℕ depth_by_parts

-- the deepest of some things
abbrev pub deepest_of : {X : Type 0} → (X → ℕ) → List X → ℕ
deepest_of f xs = deepest (map f xs)

unfoldable pub depth_if : Option Expr → ℕ
depth_if None = 0
depth_if (Some e) = depth e

-- a name, where one is written
unfoldable pub depth_of_label : Option Ident → ℕ
depth_of_label None = 0
depth_of_label (Some name) = 1

unfoldable pub depth_of_loop : Loop → ℕ
depth_of_loop h = deepest (1 ∷ depth h.start ∷ depth h.test ∷ depth h.step ∷ [])

-- a case item: its labels, and what they lead to
unfoldable pub depth_of_arm : Arm ℕ → ℕ
depth_of_arm a = max (deepest_of depth a.labels) a.body

-- the depth of a statement by those of the statements in it
unfoldable pub stmt_by_parts : Stmt-F ℕ → ℕ
stmt_by_parts (Stmt-F.Empty place) = 1
stmt_by_parts (Stmt-F.Block place label ss) = 1 + max (depth_of_label label) (deepest ss)
stmt_by_parts (Stmt-F.Assign place target by value) = 1 + max (depth target) (depth value)
stmt_by_parts (Stmt-F.If place test a b) = 1 + deepest (depth test ∷ a ∷ deepest_if b ∷ [])
stmt_by_parts (Stmt-F.Case place matching selector arms) = 1 + max (depth selector) (deepest_of depth_of_arm arms)
stmt_by_parts (Stmt-F.For place header body) = 1 + max (depth_of_loop header) body

-- the depth of a statement
unfoldable pub depth_of_stmt : Stmt → ℕ
depth_of_stmt = fold-Stmt ℕ stmt_by_parts

-- an event's index is a select
unfoldable pub depth_of_event : Event → ℕ
depth_of_event e = 1 + depth_if e.index

unfoldable pub depth_of_control : Control → ℕ
depth_of_control control.Reads = 0
depth_of_control (control.Events es) = deepest_of depth_of_event es

unfoldable pub depth_of_range : Option Range → ℕ
depth_of_range None = 0
depth_of_range (Some r) = max (depth r.msb) (depth r.lsb)

unfoldable pub depth_of_shape : Shape → ℕ
depth_of_shape s = depth_of_range s.range

unfoldable pub depth_of_net : Net → ℕ
depth_of_net n = max 1 (depth_if n.driver)

unfoldable pub depth_of_binding : Binding → ℕ
depth_of_binding b = max 1 (depth b.value)

unfoldable pub depth_of_assignment : Assignment → ℕ
depth_of_assignment a = max (depth a.target) (depth a.value)

unfoldable pub depth_of_gate : Gate → ℕ
depth_of_gate g = max (depth_of_label g.name) (deepest_of depth g.terminals)

unfoldable pub depth_of_named : NamedConnection → ℕ
depth_of_named c = max 1 (depth_if c.value)

unfoldable pub depth_of_connections : Connections → ℕ
depth_of_connections (connections.Ordered es) = deepest_of depth_if es
depth_of_connections (connections.Named cs) = deepest_of depth_of_named cs

unfoldable pub depth_of_instance : Instance → ℕ
depth_of_instance i = max 1 (depth_of_connections i.connections)

-- a block of a generate construct is part of the construct
unfoldable pub depth_of_block : Block (List ℕ) → ℕ
depth_of_block b = max (depth_of_label b.name) (deepest b.items)

unfoldable pub depth_of_block_if : Option (Block (List ℕ)) → ℕ
depth_of_block_if None = 0
depth_of_block_if (Some b) = depth_of_block b

unfoldable pub depth_of_item_arm : Arm (Block (List ℕ)) → ℕ
depth_of_item_arm a = max (deepest_of depth a.labels) (depth_of_block a.body)

-- the depth of an item by those of the items in it
unfoldable pub item_by_parts : Item-F ℕ → ℕ
item_by_parts (Item-F.Ports place d shape names) = max (depth_of_shape shape) 1
item_by_parts (Item-F.Wires place shape nets) = max (depth_of_shape shape) (deepest_of depth_of_net nets)
item_by_parts (Item-F.Registers place shape names) = max (depth_of_shape shape) 1
item_by_parts (Item-F.Integers place names) = 1
item_by_parts (Item-F.Genvars place names) = 1
item_by_parts (Item-F.Parameters place shape bindings) = max (depth_of_shape shape) (deepest_of depth_of_binding bindings)
item_by_parts (Item-F.Constants place shape bindings) = max (depth_of_shape shape) (deepest_of depth_of_binding bindings)
item_by_parts (Item-F.Assign place assignments) = deepest_of depth_of_assignment assignments
item_by_parts (Item-F.Always place c s) = max (depth_of_control c) (depth_of_stmt s)
item_by_parts (Item-F.Gates place which gates) = deepest_of depth_of_gate gates
item_by_parts (Item-F.Instances place called passed instances) = max (depth_of_connections passed) (deepest_of depth_of_instance instances)
item_by_parts (Item-F.Generate place items) = 1 + deepest items
item_by_parts (Item-F.For place header label items) = 1 + max (depth_of_loop header) (deepest items)
item_by_parts (Item-F.If place test a b) = 1 + deepest (depth test ∷ depth_of_block a ∷ depth_of_block_if b ∷ [])
item_by_parts (Item-F.Case place selector arms) = 1 + max (depth selector) (deepest_of depth_of_item_arm arms)

-- the depth of an item
unfoldable pub depth_of_item : Item → ℕ
depth_of_item = fold-Item ℕ item_by_parts

unfoldable pub depth_of_parameter : Parameter → ℕ
depth_of_parameter p = max (depth_of_shape p.shape) (depth_of_binding p.binding)

unfoldable pub depth_of_port : Port → ℕ
depth_of_port (port.Declared d shape name) = max (depth_of_shape shape) 1
depth_of_port (port.Named name) = 1

-- the depth of a module; its name is 1 deep
unfoldable pub depth_of_module : Module → ℕ
depth_of_module m = deepest (1 ∷ deepest_of depth_of_parameter m.parameters ∷ deepest_of depth_of_port m.ports ∷ deepest_of depth_of_item m.items ∷ [])

unfoldable pub depth_of_modules : List Module → ℕ
depth_of_modules ms = deepest_of depth_of_module ms
