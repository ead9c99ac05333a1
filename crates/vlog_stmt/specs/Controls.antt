-- What a process waits for, as it is read (IEEE 1364-2005, A.6.5): what stands behind `@`.
--     control depth                   a control of such a depth at most
use Rattle.std.specs.Prelude.{ℕ, zero, suc, Bool, ◌||◌, if◌then◌else◌, List, ◌∷◌, Option, Some, None, codes}
use Rattle.vlog_tree.specs.declared.expr.Expr.{Expr}
use Rattle.vlog_tree.specs.declared.stmt.Edge.{Edge}
use Rattle.vlog_tree.specs.declared.stmt.Edge.TheVariants as edges
use Rattle.vlog_tree.specs.declared.stmt.Event.{Event}
use Rattle.vlog_tree.specs.declared.stmt.Control.{Control}
use Rattle.vlog_tree.specs.declared.stmt.Control.TheVariants as controls
use Rattle.vlog_tree.specs.Lexemes.{Lexeme}
use Rattle.vlog_expr.specs.declared.stuck.Stuck.TheVariants.{Wrong, Deep}
use Rattle.vlog_expr.specs.Reading.{Reader, ◌>>=◌, ◌>>◌, pure, stop, peek, advance, sees, sees_word, expect}
use Rattle.vlog_stmt.specs.Lists.{known, within, many, took, ident}
use Rattle.vlog_stmt.specs.Targets.{value}

unfoldable pub edge_if : Option Lexeme → Option Edge
edge_if o = if sees_word (codes "posedge") o then Some edges.Rising else (if sees_word (codes "negedge") o then Some edges.Falling else None)

-- [ "posedge" | "negedge" ]
unfoldable pub edge : Reader Edge
edge = known edge_if (λ e. pure e) (pure edges.Any)

-- [ "[" expr "]" ]
unfoldable pub index : ℕ → Reader (Option Expr)
index room = do
  there ← peek (sees (codes "["))
  if there then within room (expect (codes "[") >> (value room >>= (λ i. expect (codes "]") >> pure (Some i)))) else pure None

-- [ "posedge" | "negedge" ] id [ "[" expr "]" ]
unfoldable pub event : ℕ → Reader Event
event zero = stop Deep
event (suc room) = do
  change ← edge
  name ← ident
  i ← index room
  pure (record { edge = change; name = name; index = i })

-- "or" or ","
unfoldable pub is_between : Option Lexeme → Bool
is_between o = sees_word (codes "or") o || sees (codes ",") o

unfoldable pub further_event : ℕ → Reader Event
further_event depth = peek is_between >>= (λ there. if there then advance else stop Wrong) >> event depth

-- ev { ( "or" | "," ) ev }
unfoldable pub events : ℕ → Reader (List Event)
events depth = do
  x ← event depth
  xs ← many is_between (further_event depth)
  pure (x ∷ xs)

-- ( "*" | ev { ( "or" | "," ) ev } ) ")"
unfoldable pub in_brackets : ℕ → Reader Control
in_brackets depth = do
  star ← took (codes "*")
  if star then (expect (codes ")") >> pure controls.Reads) else (events depth >>= (λ es. expect (codes ")") >> pure (controls.Events es)))

-- "*" | "(" "*" ")" | "(" ev { ( "or" | "," ) ev } ")"
unfoldable pub control : ℕ → Reader Control
control depth = do
  star ← took (codes "*")
  if star then pure controls.Reads else (expect (codes "(") >> in_brackets depth)
