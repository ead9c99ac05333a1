-- The value of a constant expression, of at most 128 bits (IEEE 1364-2005, clause 5).
-- The faults are looked for in the parts first, from left to right; both sides of `?:`, of `&&` and of `||` count.
--     worth values e                                    an expression by itself, where names stand for those values
--     value_of values e, value_within values w e        its value alone, and in a context of at least w bits
--     value_in values c e                               its value in a context
use Rattle.std.specs.Prelude.{ℕ, max, Ok}
use Rattle.vlog_tree.specs.declared.expr.Expr.{Expr, fold-Expr}
use Rattle.vlog_tree.specs.declared.expr.Expr.TheOpen.{Expr-F}
use Rattle.vlog_const.specs.declared.shape.Shape.{Shape}
use Rattle.vlog_const.specs.declared.answer.ConstValue.{ConstValue}
use Rattle.vlog_const.specs.Names.{Values}
use Rattle.vlog_const.specs.Widths.{within}
use Rattle.vlog_const.specs.Worths.{Or_fault, ◌>>=◌, Worth, narrow, in_context, alone, is_true, number, named}
use Rattle.vlog_const.specs.Selects.{index_worth, select_worth, selected, joined, nothing, concat_worth, repeat_worth}
use Rattle.vlog_const.specs.Operations.{unary_worth, binary_worth, choice_worth}

-- an expression by itself, from its parts
unfoldable pub worth_by_parts : Values → Expr-F (Or_fault Worth) → Or_fault Worth
worth_by_parts values (Expr-F.Number place n) = number place n
worth_by_parts values (Expr-F.Name place name) = named values place name
worth_by_parts values (Expr-F.Index place name index) = do
  v ← selected values place name
  i ← index
  at ← alone i
  Ok (index_worth place v at)
worth_by_parts values (Expr-F.Select part place name first second) = do
  v ← selected values place name
  a ← first
  i ← alone a
  b ← second
  j ← alone b
  select_worth place v part i j
worth_by_parts values (Expr-F.Brackets place inner) = do
  a ← inner
  Ok (record a { place = place })
worth_by_parts values (Expr-F.Concat place members) = concat_worth place members
worth_by_parts values (Expr-F.Repeat place count members) = do
  a ← count
  n ← alone a
  v ← joined place nothing members
  repeat_worth place n v
worth_by_parts values (Expr-F.Unary place op operand) = do
  a ← operand
  unary_worth place op a
worth_by_parts values (Expr-F.Binary place op left right) = do
  a ← left
  b ← right
  binary_worth place op a b
worth_by_parts values (Expr-F.Conditional place test left right) = do
  t ← test
  v ← alone t
  a ← left
  b ← right
  Ok (choice_worth place (is_true v) a b)

-- an expression by itself
unfoldable pub worth : Values → Expr → Or_fault Worth
worth values = fold-Expr (Or_fault Worth) (worth_by_parts values)

-- the value of an expression that stands alone
unfoldable pub value_of : Values → Expr → Or_fault ConstValue
value_of values e = do
  a ← worth values e
  alone a

-- the value in a context of at least w bits, as on the right of an assignment to w bits
unfoldable pub value_within : Values → ℕ → Expr → Or_fault ConstValue
value_within values w e = do
  a ← worth values e
  n ← narrow a.place (max a.shape.width w)
  in_context a (within w a.shape)

-- what an expression by itself gives in a context, where that has at most 128 bits
unfoldable pub worth_in : Shape → Or_fault Worth → Or_fault ConstValue
worth_in c r = do
  a ← r
  n ← narrow a.place c.width
  in_context a c

-- the value in a context, as of a part of a longer expression
unfoldable pub value_in : Values → Shape → Expr → Or_fault ConstValue
value_in values c e = worth_in c (worth values e)
