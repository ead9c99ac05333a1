-- What declarations are made of, as it is read; `room` is how deep an expression may be.
--     shape, direction                            what stands before a declared name
--     value, net, binding, assignment             names and what they are bound to
--     gate, named, connections, passed, instance  gates and instances
use Rattle.std.specs.Prelude.{ℕ, Bool, true, false, not, ◌||◌, if◌then◌else◌, List, [], map, Option, Some, None, codes}
use Rattle.vlog_tree.specs.declared.expr.Expr.{Expr}
use Rattle.vlog_tree.specs.declared.port.Range.{Range}
use Rattle.vlog_tree.specs.declared.port.Shape.{Shape}
use Rattle.vlog_tree.specs.declared.port.Direction.{Direction}
use Rattle.vlog_tree.specs.declared.port.Direction.TheVariants.{Input, Output, Register}
use Rattle.vlog_tree.specs.declared.item.Net.{Net}
use Rattle.vlog_tree.specs.declared.item.Binding.{Binding}
use Rattle.vlog_tree.specs.declared.item.Assignment.{Assignment}
use Rattle.vlog_tree.specs.declared.item.Gate.{Gate}
use Rattle.vlog_tree.specs.declared.item.NamedConnection.{NamedConnection}
use Rattle.vlog_tree.specs.declared.item.Connections.{Connections}
use Rattle.vlog_tree.specs.declared.item.Connections.TheVariants.{Ordered, Named}
use Rattle.vlog_tree.specs.declared.item.Instance.{Instance}
use Rattle.vlog_tree.specs.Lexemes.{Lexeme}
use Rattle.vlog_expr.specs.Reading.{Reader, ◌>>=◌, ◌>>◌, pure, peek, place_if, name_if, sees, expect, sees_word, expect_word}
use Rattle.vlog_stmt.specs.Targets.{target}
use Rattle.vlog_parse.specs.Lists.{plain_expr, flag, ident, optional, commas}

-- "[" expr ":" expr "]"
unfoldable pub range : ℕ → Reader Range
range room = do
  expect (codes "[")
  msb ← plain_expr room
  expect (codes ":")
  lsb ← plain_expr room
  expect (codes "]")
  pure (record { msb = msb; lsb = lsb })

-- [ "signed" ] [ range ]
unfoldable pub shape : ℕ → Reader Shape
shape room = do
  signed ← flag (codes "signed")
  across ← optional (sees (codes "[")) (range room)
  pure (record { signed = signed; range = across })

-- "input" [ "wire" ]
unfoldable pub input : Reader Direction
input = do
  expect_word (codes "input")
  wired ← flag (codes "wire")
  pure Input

-- [ "wire" | "reg" ] behind "output"
unfoldable pub driven : Reader Direction
driven = do
  held ← flag (codes "reg")
  if held then pure Register else (do wired ← flag (codes "wire"); pure Output)

-- "output" [ "wire" | "reg" ]
unfoldable pub output : Reader Direction
output = expect_word (codes "output") >> driven

-- "input" [ "wire" ] | "output" [ "wire" | "reg" ]
unfoldable pub direction : Reader Direction
direction = do
  inward ← peek (sees_word (codes "input"))
  if inward then input else output

-- "=" expr
unfoldable pub value : ℕ → Reader Expr
value room = expect (codes "=") >> plain_expr room

-- id [ "=" expr ]
unfoldable pub net : ℕ → Reader Net
net room = do
  name ← ident
  driver ← optional (sees (codes "=")) (value room)
  pure (record { name = name; driver = driver })

-- id "=" expr
unfoldable pub binding : ℕ → Reader Binding
binding room = do
  name ← ident
  bound ← value room
  pure (record { name = name; value = bound })

-- lval "=" expr
unfoldable pub assignment : ℕ → Reader Assignment
assignment room = do
  to ← target room
  driver ← value room
  pure (record { target = to; value = driver })

-- the lexeme is a name
unfoldable pub is_name : Option (List ℕ) → Bool
is_name None = false
is_name (Some name) = true

unfoldable pub names : Option Lexeme → Bool
names o = is_name (name_if o)

-- [ id ] "(" L(expr) ")"
unfoldable pub gate : ℕ → Reader Gate
gate room = do
  place ← peek place_if
  name ← optional names ident
  expect (codes "(")
  terminals ← commas (plain_expr room)
  expect (codes ")")
  pure (record { place = place; name = name; terminals = terminals })

-- the lexeme is none that ends a connection
unfoldable pub goes_on : Option Lexeme → Bool
goes_on o = not (sees (codes ",") o || sees (codes ")") o)

-- "." id "(" [ expr ] ")"
unfoldable pub named : ℕ → Reader NamedConnection
named room = do
  expect (codes ".")
  name ← ident
  expect (codes "(")
  bound ← optional goes_on (plain_expr room)
  expect (codes ")")
  pure (record { name = name; value = bound })

-- named connections, or others as they are read
unfoldable pub named_or : ℕ → Reader Connections → Reader Connections
named_or room ordered = do
  there ← peek (sees (codes "."))
  if there then commas (named room) >>= (λ ns. pure (Named ns)) else ordered

-- [ expr ] { "," [ expr ] }
unfoldable pub ordered : ℕ → Reader Connections
ordered room = commas (optional goes_on (plain_expr room)) >>= (λ es. pure (Ordered es))

-- [ conns ], where `)` stands behind
unfoldable pub connections : ℕ → Reader Connections
connections room = do
  none ← peek (sees (codes ")"))
  if none then pure (Ordered []) else named_or room (ordered room)

-- L(expr)
unfoldable pub listed : ℕ → Reader Connections
listed room = commas (plain_expr room) >>= (λ es. pure (Ordered (map Some es)))

-- "#" "(" ( L(expr) | L(named) ) ")"
unfoldable pub parameters_passed : ℕ → Reader Connections
parameters_passed room = do
  expect (codes "#")
  expect (codes "(")
  passed ← named_or room (listed room)
  expect (codes ")")
  pure passed

-- [ "#" "(" ( L(expr) | L(named) ) ")" ]
unfoldable pub passed : ℕ → Reader Connections
passed room = do
  there ← peek (sees (codes "#"))
  if there then parameters_passed room else pure (Ordered [])

-- id "(" [ conns ] ")"
unfoldable pub instance : ℕ → Reader Instance
instance room = do
  name ← ident
  expect (codes "(")
  connected ← connections room
  expect (codes ")")
  pure (record { name = name; connections = connected })
