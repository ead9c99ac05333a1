-- Modules as they are read; `room` is how deep a module may be.
--     parameters, ports        the head
--     module_of                a module
use Rattle.std.specs.Prelude.{ℕ, if◌then◌else◌, List, [], ◌∷◌, codes}
use Rattle.vlog_tree.specs.declared.port.Port.{Port}
use Rattle.vlog_tree.specs.declared.port.Port.TheVariants.{Declared, Named}
use Rattle.vlog_tree.specs.declared.module.Parameter.{Parameter}
use Rattle.vlog_tree.specs.declared.module.Module.{Module}
use Rattle.vlog_expr.specs.Reading.{Reader, ◌>>=◌, ◌>>◌, pure, peek, place_if, sees, expect, expect_word}
use Rattle.vlog_parse.specs.Lists.{flag, ident, others, commas, until}
use Rattle.vlog_parse.specs.Parts.{shape, direction, binding, names}
use Rattle.vlog_parse.specs.Items.{item}

-- [ "signed" ] [ range ] id "=" expr
unfoldable pub parameter : ℕ → Reader Parameter
parameter room = do
  s ← shape room
  b ← binding room
  pure (record { shape = s; binding = b })

-- [ "parameter" ] pbind
unfoldable pub further : ℕ → Reader Parameter
further room = flag (codes "parameter") >>= (λ said. parameter room)

-- "parameter" pbind { "," [ "parameter" ] pbind }
unfoldable pub parameter_list : ℕ → Reader (List Parameter)
parameter_list room = do
  expect_word (codes "parameter")
  p ← parameter room
  ps ← others (further room)
  pure (p ∷ ps)

-- "#" "(" .. ")"
unfoldable pub parameters_there : ℕ → Reader (List Parameter)
parameters_there room = do
  expect (codes "#")
  expect (codes "(")
  ps ← parameter_list room
  expect (codes ")")
  pure ps

-- [ "#" "(" .. ")" ]
unfoldable pub parameters : ℕ → Reader (List Parameter)
parameters room = do
  there ← peek (sees (codes "#"))
  if there then parameters_there room else pure []

-- id
unfoldable pub bare : Reader Port
bare = ident >>= (λ i. pure (Named i))

-- dir [ "signed" ] [ range ] id
unfoldable pub ansi : ℕ → Reader Port
ansi room = do
  d ← direction
  s ← shape room
  i ← ident
  pure (Declared d s i)

-- ansi or id
unfoldable pub port : ℕ → Reader Port
port room = do
  called ← peek names
  if called then bare else ansi room

-- ansi { "," ( ansi | id ) }
unfoldable pub ansi_list : ℕ → Reader (List Port)
ansi_list room = do
  p ← ansi room
  ps ← others (port room)
  pure (p ∷ ps)

-- L(id) | ansi { "," ( ansi | id ) }
unfoldable pub port_list : ℕ → Reader (List Port)
port_list room = do
  called ← peek names
  if called then commas bare else ansi_list room

-- [ ports ], where `)` stands behind
unfoldable pub some_ports : ℕ → Reader (List Port)
some_ports room = do
  none ← peek (sees (codes ")"))
  if none then pure [] else port_list room

-- "(" [ ports ] ")"
unfoldable pub ports_there : ℕ → Reader (List Port)
ports_there room = do
  expect (codes "(")
  ps ← some_ports room
  expect (codes ")")
  pure ps

-- [ "(" [ ports ] ")" ]
unfoldable pub ports : ℕ → Reader (List Port)
ports room = do
  there ← peek (sees (codes "("))
  if there then ports_there room else pure []

-- "module" id [ parameters ] [ "(" [ ports ] ")" ] ";" { item } "endmodule"
unfoldable pub module_of : ℕ → Reader Module
module_of room = do
  place ← peek place_if
  expect_word (codes "module")
  name ← ident
  qs ← parameters room
  ps ← ports room
  expect (codes ";")
  items ← until (codes "endmodule") (item room)
  pure (record { place = place; name = name; parameters = qs; ports = ps; items = items })
