-- What may be assigned, as it is read. `room` is how deep a part may be, and `inner` reads a target in a concatenation.
--     target depth                    a target of such a depth at most
use Rattle.std.specs.Prelude.{ℕ, zero, suc, Bool, true, false, ◌||◌, if◌then◌else◌, List, Option, Some, None, codes}
use Rattle.rdc_outside.specs.declared.source.Place.{Place}
use Rattle.vlog_tree.specs.declared.expr.Expr.{Expr}
use Rattle.vlog_tree.specs.declared.expr.Expr.TheVariants as e
use Rattle.vlog_tree.specs.declared.expr.Part.{Part}
use Rattle.vlog_tree.specs.Lexemes.{Lexeme}
use Rattle.vlog_expr.specs.declared.stuck.Stuck.TheVariants.{Wrong, Deep}
use Rattle.vlog_expr.specs.Reading.{Reader, ◌>>=◌, ◌>>◌, pure, stop, peek, place_if, name_if, sees, expect}
use Rattle.vlog_expr.specs.Exprs.{part_if, expr}
use Rattle.vlog_expr.specs.Plain.{plain}
use Rattle.vlog_stmt.specs.Lists.{known, within, commas}

-- an expression without z digits
abbrev pub value : ℕ → Reader Expr
value room = plain (expr room 0)

unfoldable pub is_named : Option (List ℕ) → Bool
is_named None = false
is_named (Some name) = true

-- a target begins with a name or a brace
unfoldable pub begins_target : Option Lexeme → Bool
begins_target o = is_named (name_if o) || sees (codes "{") o

module _ (room : ℕ) (inner : Reader Expr) where
  -- [ part expr ] "]" behind a name, "[" and an expression
  unfoldable pub index_end : Place → List ℕ → Expr → Reader Expr
  index_end place called i = expect (codes "]") >> pure (e.Index place called i)

  unfoldable pub part_end : Place → List ℕ → Expr → Part → Reader Expr
  part_end place called i part = do
    j ← value room
    expect (codes "]")
    pure (e.Select part place called i j)

  unfoldable pub select : Place → List ℕ → Reader Expr
  select place called = do
    expect (codes "[")
    i ← value room
    known part_if (part_end place called i) (index_end place called i)

  -- [ sel ] behind a name
  unfoldable pub named : Place → List ℕ → Reader Expr
  named place called = do
    there ← peek (sees (codes "["))
    if there then within room (select place called) else pure (e.Name place called)

  -- "{" lval { "," lval } "}"
  unfoldable pub members : Place → Reader Expr
  members place = do
    expect (codes "{")
    es ← commas inner
    expect (codes "}")
    pure (e.Concat place es)

  unfoldable pub braced : Place → Reader Expr
  braced place = do
    there ← peek (sees (codes "{"))
    if there then within room (members place) else stop Wrong

  -- id [ sel ] | "{" lval { "," lval } "}"
  unfoldable pub whole_target : Reader Expr
  whole_target = do
    place ← peek place_if
    known name_if (named place) (braced place)

-- a lexeme that begins no target is wrong, however deep one may be
unfoldable pub no_target : Reader Expr
no_target = do
  there ← peek begins_target
  if there then stop Deep else stop Wrong

-- a target no deeper than the number
unfoldable pub target : ℕ → Reader Expr
target zero = no_target
target (suc room) = whole_target room (target room)
