-- Expressions as they are read, from left to right. `room` is how deep a part may be, and `inner level` reads one.
--     next_at level o                 the operator that an operand goes on with, if it is of such a level at least
--     index, bracketed, braced, primary, operand, climb      pieces of an expression
--     expr depth level                an expression of such a depth at most, to stand at such a level
use Rattle.std.specs.Prelude.{ℕ, zero, suc, ◌+◌, Bool, true, false, ◌&&◌, ◌==◌, nat_le, if◌then◌else◌, List, [], ◌∷◌, length, Option, Some, None, codes}
use Rattle.rdc_outside.specs.declared.source.Place.{Place}
use Rattle.vlog_tree.specs.declared.expr.Expr.{Expr}
use Rattle.vlog_tree.specs.declared.expr.Expr.TheVariants as e
use Rattle.vlog_tree.specs.declared.expr.Part.{Part}
use Rattle.vlog_tree.specs.declared.number.Number.{Number}
use Rattle.vlog_tree.specs.declared.operator.Unary.{Unary}
use Rattle.vlog_tree.specs.declared.operator.Binary.{Binary}
use Rattle.vlog_tree.specs.Lexemes.{Lexeme}
use Rattle.vlog_tree.specs.Operators.{unary_of, binary_of, part_of, level_of}
use Rattle.vlog_tree.specs.Depth.{depth}
use Rattle.vlog_expr.specs.declared.stuck.Stuck.{Stuck}
use Rattle.vlog_expr.specs.declared.stuck.Stuck.TheVariants.{Wrong, Deep}
use Rattle.vlog_expr.specs.declared.cursor.Next.{Next}
use Rattle.vlog_expr.specs.declared.cursor.Next.TheVariants.{Operator, Question, End}
use Rattle.vlog_expr.specs.Reading.{Reader, ◌>>=◌, ◌>>◌, pure, stop, peek, advance, place_if, mark_if, name_if, number_if, sees, expect}

-- the operator, where it is of such a level at least
unfoldable pub operator_from : ℕ → Option Binary → Next
operator_from level None = End
operator_from level (Some op) = if nat_le level (level_of op) then Operator op else End

-- what an operand goes on with: `?` at level 0 alone
unfoldable pub next_at : ℕ → Option Lexeme → Next
next_at level o = if level == 0 && sees (codes "?") o then Question else operator_from level (binary_of (mark_if o))

-- the operator in front of a primary, at a level that may have one
unfoldable pub unary_at : ℕ → Option Lexeme → Option Unary
unary_at level o = if nat_le level 12 then unary_of (mark_if o) else None

unfoldable pub part_if : Option Lexeme → Option Part
part_if o = part_of (mark_if o)

module _ (room : ℕ) (inner : ℕ → Reader Expr) where
  -- what may stand one deeper, where there is room
  abbrev pub within : {A : Type 0} → Reader A → Reader A
  within p = if nat_le 1 room then p else stop Deep

  -- [ ":" expr ] "]" behind a name, `[` and an expression
  unfoldable pub select_by : Place → List ℕ → Expr → Option Part → Reader Expr
  select_by place called i None = expect (codes "]") >> pure (e.Index place called i)
  select_by place called i (Some part) = do
    advance
    j ← inner 0
    expect (codes "]")
    pure (e.Select part place called i j)

  unfoldable pub select : Place → List ℕ → Reader Expr
  select place called = do
    advance
    i ← inner 0
    part ← peek part_if
    select_by place called i part

  -- id [ sel ], behind the name
  unfoldable pub named : Place → List ℕ → Reader Expr
  named place called = do
    there ← peek (sees (codes "["))
    if there then within (select place called) else pure (e.Name place called)

  -- "(" expr ")"
  unfoldable pub brackets : Place → Reader Expr
  brackets place = do
    advance
    i ← inner 0
    expect (codes ")")
    pure (e.Brackets place i)

  -- { "," expr }; the number bounds the turns
  unfoldable pub others_from : ℕ → Reader (List Expr)
  others_from zero = pure []
  others_from (suc n) = do
    there ← peek (sees (codes ","))
    if there then (do advance; x ← inner 0; xs ← others_from n; pure (x ∷ xs)) else pure []

  unfoldable pub others : Reader (List Expr)
  others = λ ls. others_from (length ls) ls

  -- "}" "}", behind the members of a replication
  abbrev pub closed : Place → Expr → List Expr → Reader Expr
  closed place count members = do
    expect (codes "}")
    expect (codes "}")
    pure (e.Repeat place count members)

  -- expr { "," expr } "}" "}", behind the count of a replication and its `{`
  unfoldable pub repeat : Place → Expr → Reader Expr
  repeat place count = do
    advance
    x ← inner 0
    xs ← others
    closed place count (x ∷ xs)

  -- { "," expr } "}", behind the first member
  unfoldable pub concat : Place → Expr → Reader Expr
  concat place x = do
    xs ← others
    expect (codes "}")
    pure (e.Concat place (x ∷ xs))

  -- "{" expr { "," expr } "}" or "{" expr "{" expr { "," expr } "}" "}"
  unfoldable pub braces : Place → Reader Expr
  braces place = do
    advance
    x ← inner 0
    there ← peek (sees (codes "{"))
    if there then repeat place x else concat place x

  -- a primary that begins with a brace
  unfoldable pub braced : Place → Reader Expr
  braced place = do
    there ← peek (sees (codes "{"))
    if there then within (braces place) else stop Wrong

  -- a primary that begins with a mark
  unfoldable pub group : Place → Reader Expr
  group place = do
    there ← peek (sees (codes "("))
    if there then within (brackets place) else braced place

  unfoldable pub name_by : Place → Option (List ℕ) → Reader Expr
  name_by place (Some called) = advance >> named place called
  name_by place None = group place

  unfoldable pub primary_by : Place → Option Number → Reader Expr
  primary_by place (Some n) = advance >> pure (e.Number place n)
  primary_by place None = peek name_if >>= name_by place

  -- number | id [ sel ] | "(" expr ")" | "{" .. "}"
  unfoldable pub primary : Place → Reader Expr
  primary place = peek number_if >>= primary_by place

  -- an operator and a primary
  unfoldable pub negated : Place → Unary → Reader Expr
  negated place op = do
    advance
    u ← inner 13
    pure (e.Unary place op u)

  unfoldable pub operand_by : Place → Option Unary → Reader Expr
  operand_by place (Some op) = within (negated place op)
  operand_by place None = primary place

  -- [ operator ] primary
  unfoldable pub operand : ℕ → Place → Reader Expr
  operand level place = peek (unary_at level) >>= operand_by place

  -- ":" expr, behind the first side of a choice
  abbrev pub otherwise : Place → Expr → Expr → Reader Expr
  otherwise place test a = do
    expect (codes ":")
    b ← inner 0
    pure (e.Conditional place test a b)

  -- "?" expr ":" expr
  unfoldable pub choice : Place → Expr → Reader Expr
  choice place test = do
    advance
    a ← inner 0
    otherwise place test a

  -- the right operand of an operator
  unfoldable pub right : Binary → Reader Expr
  right op = advance >> inner (level_of op + 1)

  -- what an operand goes on with, and then onwards
  unfoldable pub step_by : (Expr → Reader Expr) → Place → Expr → Next → Reader Expr
  step_by onwards place left (Operator op) = if nat_le (depth left) room then right op >>= (λ b. onwards (e.Binary place op left b)) else stop Deep
  step_by onwards place left Question = if nat_le (depth left) room then choice place left else stop Deep
  step_by onwards place left End = pure left

  -- what stands behind an operand, from left to right; the number bounds the turns
  unfoldable pub climb : ℕ → ℕ → Place → Expr → Reader Expr
  climb zero level place left = stop Deep
  climb (suc n) level place left = peek (next_at level) >>= step_by (climb n level place) place left

  -- an expression with parts no deeper than there is room
  unfoldable pub whole : ℕ → Reader Expr
  whole level = do
    place ← peek place_if
    x ← operand level place
    climb (room + 2) level place x

-- an expression no deeper than the first number
unfoldable pub expr : ℕ → ℕ → Reader Expr
expr zero level = stop Deep
expr (suc room) level = whole room (expr room) level
