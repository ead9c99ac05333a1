-- Expressions in a scope: each signal under its printed name, and a number in the place of each constant. Parts come
-- before the whole, and the fault is that of the first part in the order of reading.
--     meant place name m                  the constant or the signal that a name means
--     put_in frames e                     an expression
--     constant frames e, constant_within frames w e      its value, alone and as on the right of an assignment to w bits
use Rattle.std.specs.Prelude.{ℕ, List, Option, Some, None, Ok, Err}
use Rattle.rdc_outside.specs.declared.source.Place.{Place}
use Rattle.vlog_tree.specs.declared.expr.Expr.{Expr, fold-Expr}
use Rattle.vlog_tree.specs.declared.expr.Expr.TheVariants as expr
use Rattle.vlog_tree.specs.declared.expr.Expr.TheOpen.{Expr-F}
use Rattle.vlog_tree.specs.declared.expr.Part.{Part}
use Rattle.vlog_const.specs.declared.answer.ConstValue.{ConstValue}
use Rattle.vlog_const.specs.declared.answer.ConstFault.TheVariants.{NotConstant}
use Rattle.vlog_const.specs.Names.{no_values}
use Rattle.vlog_const.specs.Constants.{value_of, value_within}
use Rattle.elab_names.specs.declared.fault.ElabFault.TheVariants.{Undeclared, Const}
use Rattle.elab_names.specs.declared.meaning.Meaning.{Meaning}
use Rattle.elab_names.specs.declared.meaning.Meaning.TheVariants.{Constant, Signal, Other}
use Rattle.elab_names.specs.Answers.{Or_fault, ◌>>=◌, gathered, lifted}
use Rattle.elab_names.specs.Meanings.{Frames, found}
use Rattle.elab_names.specs.Selects.{as_number, bit_in, part_in}

-- what a name means that has a value
unfoldable pub meant : Place → List ℕ → Option Meaning → Or_fault Meaning
meant place name None = Err (Undeclared name place)
meant place name (Some Other) = Err (Const (NotConstant place))
meant place name (Some m) = Ok m

-- name
unfoldable pub named : Place → Meaning → Or_fault Expr
named place (Constant v) = Ok (as_number place v)
named place (Signal s) = Ok (expr.Name place s.printed)
named place Other = Err (Const (NotConstant place))

-- name [ i ]
unfoldable pub indexed : Place → Meaning → Expr → Or_fault Expr
indexed place (Constant v) i = bit_in place v i
indexed place (Signal s) i = Ok (expr.Index place s.printed i)
indexed place Other i = Err (Const (NotConstant place))

-- name [ i : j ], name [ i +: j ], name [ i -: j ]
unfoldable pub selected : Place → Meaning → Part → Expr → Expr → Or_fault Expr
selected place (Constant v) how i j = part_in place v how i j
selected place (Signal s) how i j = Ok (expr.Select how place s.printed i j)
selected place Other how i j = Err (Const (NotConstant place))

-- an expression, from its parts
unfoldable pub put_by_parts : Frames → Expr-F (Or_fault Expr) → Or_fault Expr
put_by_parts frames (Expr-F.Number place n) = Ok (expr.Number place n)
put_by_parts frames (Expr-F.Name place name) = do
  m ← meant place name (found frames name)
  named place m
put_by_parts frames (Expr-F.Index place name i) = do
  m ← meant place name (found frames name)
  a ← i
  indexed place m a
put_by_parts frames (Expr-F.Select how place name i j) = do
  m ← meant place name (found frames name)
  a ← i
  b ← j
  selected place m how a b
put_by_parts frames (Expr-F.Brackets place inner) = do
  a ← inner
  Ok (expr.Brackets place a)
put_by_parts frames (Expr-F.Concat place members) = do
  es ← gathered members
  Ok (expr.Concat place es)
put_by_parts frames (Expr-F.Repeat place count members) = do
  n ← count
  es ← gathered members
  Ok (expr.Repeat place n es)
put_by_parts frames (Expr-F.Unary place op operand) = do
  a ← operand
  Ok (expr.Unary place op a)
put_by_parts frames (Expr-F.Binary place op left right) = do
  a ← left
  b ← right
  Ok (expr.Binary place op a b)
put_by_parts frames (Expr-F.Conditional place test left right) = do
  t ← test
  a ← left
  b ← right
  Ok (expr.Conditional place t a b)

-- an expression
unfoldable pub put_in : Frames → Expr → Or_fault Expr
put_in frames = fold-Expr (Or_fault Expr) (put_by_parts frames)

-- the value of a constant expression that stands alone
unfoldable pub constant : Frames → Expr → Or_fault ConstValue
constant frames e = do
  a ← put_in frames e
  lifted (value_of no_values a)

-- the value as on the right of an assignment to w bits
unfoldable pub constant_within : Frames → ℕ → Expr → Or_fault ConstValue
constant_within frames w e = do
  a ← put_in frames e
  lifted (value_within no_values w a)
