-- What is assigned, in a scope: a signal, a select of one, or a concatenation of these. Indices are expressions in the scope.
--     assignable place name m        the signal that a name means
--     printed frames place name      its printed name
--     target_in frames e             a target
use Rattle.std.specs.Prelude.{ℕ, List, map, Option, Some, None, Ok, Err}
use Rattle.rdc_outside.specs.declared.source.Place.{Place}
use Rattle.vlog_tree.specs.declared.expr.Expr.{Expr, para-Expr}
use Rattle.vlog_tree.specs.declared.expr.Expr.TheVariants as expr
use Rattle.vlog_tree.specs.declared.expr.Expr.TheOpen.{Expr-F}
use Rattle.elab_names.specs.declared.fault.ElabFault.TheVariants.{Undeclared, NotAssignable}
use Rattle.elab_names.specs.declared.meaning.Known.{Known}
use Rattle.elab_names.specs.declared.meaning.Meaning.{Meaning}
use Rattle.elab_names.specs.declared.meaning.Meaning.TheVariants.{Constant, Signal, Other}
use Rattle.elab_names.specs.Answers.{Or_fault, ◌>>=◌, gathered}
use Rattle.elab_names.specs.Meanings.{Frames, found}
use Rattle.elab_names.specs.Expressions.{put_in}

-- the signal that a name means
unfoldable pub assignable : Place → List ℕ → Option Meaning → Or_fault Known
assignable place name None = Err (Undeclared name place)
assignable place name (Some (Signal s)) = Ok s
assignable place name (Some (Constant v)) = Err (NotAssignable place)
assignable place name (Some Other) = Err (NotAssignable place)

-- its printed name
unfoldable pub printed : Frames → Place → List ℕ → Or_fault (List ℕ)
printed frames place name = do
  s ← assignable place name (found frames name)
  Ok s.printed

-- a target, from its parts, each beside what it is as a target
unfoldable pub target_by_parts : Frames → Expr-F (Expr × Or_fault Expr) → Or_fault Expr
target_by_parts frames (Expr-F.Name place name) = do
  n ← printed frames place name
  Ok (expr.Name place n)
target_by_parts frames (Expr-F.Index place name i) = do
  n ← printed frames place name
  a ← put_in frames i.0
  Ok (expr.Index place n a)
target_by_parts frames (Expr-F.Select how place name i j) = do
  n ← printed frames place name
  a ← put_in frames i.0
  b ← put_in frames j.0
  Ok (expr.Select how place n a b)
target_by_parts frames (Expr-F.Concat place members) = do
  es ← gathered (map (λ a. a.1) members)
  Ok (expr.Concat place es)
target_by_parts frames (Expr-F.Number place n) = Err (NotAssignable place)
target_by_parts frames (Expr-F.Brackets place inner) = Err (NotAssignable place)
target_by_parts frames (Expr-F.Repeat place count members) = Err (NotAssignable place)
target_by_parts frames (Expr-F.Unary place op operand) = Err (NotAssignable place)
target_by_parts frames (Expr-F.Binary place op left right) = Err (NotAssignable place)
target_by_parts frames (Expr-F.Conditional place test left right) = Err (NotAssignable place)

-- a target
unfoldable pub target_in : Frames → Expr → Or_fault Expr
target_in frames = para-Expr (Or_fault Expr) (target_by_parts frames)
