-- Statements, as they are read (IEEE 1364-2005, A.6). `room` is how deep a part may be, and `inner` reads a statement in
-- a statement.
--     form_if o                       which statement a lexeme begins
--     header room                     what stands behind `for`
--     stmt depth                      a statement of such a depth at most
use Rattle.std.specs.Prelude.{ℕ, zero, suc, Bool, true, false, not, ◌&&◌, if◌then◌else◌, List, [], ◌∷◌, ◌++◌, Option, Some, None, codes}
use Rattle.rdc_outside.specs.declared.source.Place.{Place}
use Rattle.vlog_tree.specs.declared.ident.Ident.{Ident}
use Rattle.vlog_tree.specs.declared.expr.Expr.{Expr}
use Rattle.vlog_tree.specs.declared.stmt.Assigns.{Assigns}
use Rattle.vlog_tree.specs.declared.stmt.Matching.{Matching}
use Rattle.vlog_tree.specs.declared.stmt.Matching.TheVariants.{Exact, Wildcard}
use Rattle.vlog_tree.specs.declared.stmt.Arm.{Arm}
use Rattle.vlog_tree.specs.declared.stmt.Loop.{Loop}
use Rattle.vlog_tree.specs.declared.stmt.Stmt.{Stmt}
use Rattle.vlog_tree.specs.declared.stmt.Stmt.TheVariants as s
use Rattle.vlog_tree.specs.Lexemes.{Lexeme}
use Rattle.vlog_tree.specs.Statements.{assigns_of}
use Rattle.vlog_expr.specs.declared.stuck.Stuck.TheVariants.{Wrong, Deep}
use Rattle.vlog_expr.specs.Reading.{Reader, ◌>>=◌, ◌>>◌, pure, stop, peek, place_if, mark_if, sees, sees_word, expect, expect_word}
use Rattle.vlog_expr.specs.Exprs.{expr}
use Rattle.vlog_stmt.specs.declared.form.Form.{Form}
use Rattle.vlog_stmt.specs.declared.form.Form.TheVariants as form
use Rattle.vlog_stmt.specs.Lists.{known, within, commas, many, took, took_word, ident, label}
use Rattle.vlog_stmt.specs.Targets.{value, begins_target, target}

unfoldable pub assigns_if : Option Lexeme → Option Assigns
assigns_if o = assigns_of (mark_if o)

-- which statement the lexeme begins
unfoldable pub form_if : Option Lexeme → Form
form_if o =
    if sees (codes ";") o then form.Empty
    else (if sees_word (codes "begin") o then form.Block
    else (if sees_word (codes "if") o then form.If
    else (if sees_word (codes "case") o then form.Case
    else (if sees_word (codes "casez") o then form.Casez
    else (if sees_word (codes "for") o then form.For
    else (if begins_target o then form.Target
    else form.Other))))))

-- "(" id "=" expr ";" expr ";" id "=" expr ")"
unfoldable pub header : ℕ → Reader Loop
header room = do
  expect (codes "(")
  variable ← ident
  expect (codes "=")
  start ← value room
  expect (codes ";")
  test ← value room
  expect (codes ";")
  stepped ← ident
  expect (codes "=")
  step ← value room
  expect (codes ")")
  pure (record { variable = variable; start = start; test = test; stepped = stepped; step = step })

-- the same from its last name on, and from its test on
unfoldable pub header_step : ℕ → Ident → Expr → Expr → Reader Loop
header_step room variable start test = do
  stepped ← ident
  expect (codes "=")
  step ← value room
  expect (codes ")")
  pure (record { variable = variable; start = start; test = test; stepped = stepped; step = step })

unfoldable pub header_test : ℕ → Ident → Expr → Reader Loop
header_test room variable start = do
  test ← value room
  expect (codes ";")
  header_step room variable start test

-- a label of a case item: z digits stand in those of `casez` alone
unfoldable pub choice : ℕ → Matching → Reader Expr
choice room Exact = value room
choice room Wildcard = expr room 0

-- up to such a word
unfoldable pub before : List ℕ → Option Lexeme → Bool
before word o = not (sees_word word o)

-- one more case item with labels: up to `endcase`, and in front of the default up to `default`
unfoldable pub before_arm : Bool → Option Lexeme → Bool
before_arm in_front o = before (codes "endcase") o && not (in_front && sees_word (codes "default") o)

module _ (room : ℕ) (inner : Reader Stmt) where
  -- lval ( "=" | "<=" ) expr ";"
  unfoldable pub assigned : Place → Expr → Assigns → Reader Stmt
  assigned place t by = do
    v ← value room
    expect (codes ";")
    pure (s.Assign place t by v)

  unfoldable pub assign : Place → Reader Stmt
  assign place = do
    t ← target room
    known assigns_if (assigned place t) (stop Wrong)

  -- "begin" [ ":" id ] { stmt } "end"
  unfoldable pub block : Place → Reader Stmt
  block place = do
    expect_word (codes "begin")
    name ← label room
    ss ← many (before (codes "end")) inner
    expect_word (codes "end")
    pure (s.Block place name ss)

  -- [ "else" stmt ], where an `else` belongs to the nearest `if`
  unfoldable pub otherwise : Place → Expr → Stmt → Reader Stmt
  otherwise place test a = do
    there ← took_word (codes "else")
    if there then (inner >>= (λ b. pure (s.If place test a (Some b)))) else pure (s.If place test a None)

  -- "if" "(" expr ")" stmt [ "else" stmt ]
  unfoldable pub branch : Place → Reader Stmt
  branch place = do
    expect_word (codes "if")
    expect (codes "(")
    test ← value room
    expect (codes ")")
    a ← inner
    otherwise place test a

  -- expr { "," expr } ":" stmt
  unfoldable pub labelled : Matching → Reader (Arm Stmt)
  labelled matching = do
    place ← peek place_if
    labels ← commas (choice room matching)
    expect (codes ":")
    body ← inner
    pure (record { place = place; labels = labels; body = body })

  -- "default" [ ":" ] stmt
  unfoldable pub default : Reader (Arm Stmt)
  default = do
    place ← peek place_if
    expect_word (codes "default")
    colon ← took (codes ":")
    body ← inner
    pure (record { place = place; labels = []; body = body })

  -- case items behind those with labels, at most one of them the default
  unfoldable pub arms_behind : Matching → List (Arm Stmt) → Reader (List (Arm Stmt))
  arms_behind matching xs = do
    there ← peek (sees_word (codes "default"))
    if there then (default >>= (λ x. many (before_arm false) (labelled matching) >>= (λ ys. pure (xs ++ x ∷ ys)))) else pure xs

  -- { case item }
  unfoldable pub arms : Matching → Reader (List (Arm Stmt))
  arms matching = many (before_arm true) (labelled matching) >>= arms_behind matching

  -- ( "case" | "casez" ) "(" expr ")" { case item } "endcase"
  unfoldable pub cases : Place → List ℕ → Matching → Reader Stmt
  cases place word matching = do
    expect_word word
    expect (codes "(")
    selector ← value room
    expect (codes ")")
    items ← arms matching
    expect_word (codes "endcase")
    pure (s.Case place matching selector items)

  -- "for" header stmt
  unfoldable pub repeated : Place → Reader Stmt
  repeated place = do
    expect_word (codes "for")
    head ← header room
    body ← inner
    pure (s.For place head body)

  unfoldable pub by_form : Place → Form → Reader Stmt
  by_form place form.Empty = expect (codes ";") >> pure (s.Empty place)
  by_form place form.Block = block place
  by_form place form.If = within room (branch place)
  by_form place form.Case = within room (cases place (codes "case") Exact)
  by_form place form.Casez = within room (cases place (codes "casez") Wildcard)
  by_form place form.For = within room (repeated place)
  by_form place form.Target = within room (assign place)
  by_form place form.Other = stop Wrong

  unfoldable pub whole_stmt : Reader Stmt
  whole_stmt = do
    place ← peek place_if
    form ← peek form_if
    by_form place form

-- a lexeme that begins no statement is wrong, however deep one may be
unfoldable pub deep_by : Form → Reader Stmt
deep_by form.Empty = stop Deep
deep_by form.Block = stop Deep
deep_by form.If = stop Deep
deep_by form.Case = stop Deep
deep_by form.Casez = stop Deep
deep_by form.For = stop Deep
deep_by form.Target = stop Deep
deep_by form.Other = stop Wrong

-- a statement no deeper than the number
unfoldable pub stmt : ℕ → Reader Stmt
stmt zero = peek form_if >>= deep_by
stmt (suc room) = whole_stmt room (stmt room)
