-- What an operand goes on with.
use Rattle.std.proofs.Common.{◌≡◌, ◌≢◌, ℕ, zero, suc, ◌+◌, ◌<◌, ◌≤◌, Bool, true, false, ◌⊎◌, inl, inr, List, [], ◌∷◌, Option, Some, None, refl, sym, ap, ◌∙◌, subst, arith}
use Rattle.std.specs.Prelude.{nat_le, ◌==◌, ◌&&◌, if◌then◌else◌, codes}
use Rattle.std.specs.Str.{bytes_eq}
use Rattle.std.proofs.lemmas.Bool.{leb-true, le-leb, leb-false, eqb-true}
use Rattle.std.proofs.lemmas.Bool.Decides.{leb_tells, eqb_tells}
use Rattle.std.proofs.lemmas.Slice.Eq.{bytes_eq-Decides}
use Rattle.vlog_tree.specs.declared.operator.Binary.{Binary}
use Rattle.vlog_tree.specs.declared.operator.Binary.TheVariants as op
use Rattle.vlog_tree.specs.Lexemes.{Lexeme, mark_of, is_mark, IsMark}
use Rattle.vlog_tree.specs.Operators.{level_of, binary_of, binary_of_one, unary_of}
use Rattle.vlog_expr.specs.declared.cursor.Next.{Next}
use Rattle.vlog_expr.specs.declared.cursor.Next.TheVariants.{Operator, Question, End}
use Rattle.vlog_expr.specs.Reading.{first, mark_if, sees}
use Rattle.vlog_expr.specs.Exprs.{next_at, operator_from, unary_at}

pub some_level : (o : Binary) → 1 ≤ level_of o
unfolding level_of
some_level op.LogicalOr = omega arith
some_level op.LogicalAnd = omega arith
some_level op.Or = omega arith
some_level op.Xor = omega arith
some_level op.Xnor = omega arith
some_level op.And = omega arith
some_level op.Equal = omega arith
some_level op.NotEqual = omega arith
some_level op.CaseEqual = omega arith
some_level op.CaseNotEqual = omega arith
some_level op.Less = omega arith
some_level op.AtMost = omega arith
some_level op.Greater = omega arith
some_level op.AtLeast = omega arith
some_level op.ShiftLeft = omega arith
some_level op.ShiftRight = omega arith
some_level op.ArithmeticShiftLeft = omega arith
some_level op.ArithmeticShiftRight = omega arith
some_level op.Add = omega arith
some_level op.Subtract = omega arith
some_level op.Multiply = omega arith
some_level op.Divide = omega arith
some_level op.Remainder = omega arith
some_level op.Power = omega arith

pub low_level : (o : Binary) → level_of o ≤ 11
unfolding level_of
low_level op.LogicalOr = omega arith
low_level op.LogicalAnd = omega arith
low_level op.Or = omega arith
low_level op.Xor = omega arith
low_level op.Xnor = omega arith
low_level op.And = omega arith
low_level op.Equal = omega arith
low_level op.NotEqual = omega arith
low_level op.CaseEqual = omega arith
low_level op.CaseNotEqual = omega arith
low_level op.Less = omega arith
low_level op.AtMost = omega arith
low_level op.Greater = omega arith
low_level op.AtLeast = omega arith
low_level op.ShiftLeft = omega arith
low_level op.ShiftRight = omega arith
low_level op.ArithmeticShiftLeft = omega arith
low_level op.ArithmeticShiftRight = omega arith
low_level op.Add = omega arith
low_level op.Subtract = omega arith
low_level op.Multiply = omega arith
low_level op.Divide = omega arith
low_level op.Remainder = omega arith
low_level op.Power = omega arith

-- the operator is known, and of such a level at least
pub record IsOp (level : ℕ) (found : Option Binary) (o : Binary) : Type 0 where
  pub known : found ≡ Some o
  pub high : level ≤ level_of o

from_fits : (level : ℕ) (p o : Binary) (b : Bool) → nat_le level (level_of p) ≡ b → (if b then Operator p else End) ≡ Operator o → IsOp level (Some p) o
from_fits level p o true fits h = let same : p ≡ o = cc in record { known = ap (λ q. Some q) same; high = subst (λ q. level ≤ level_of q) same (leb-true level (level_of p) fits) }
from_fits level p o false fits h = cc

from_op : (level : ℕ) (found : Option Binary) (o : Binary) → operator_from level found ≡ Operator o → IsOp level found o
unfolding operator_from
from_op level None o h = cc
from_op level (Some p) o h = from_fits level p o (nat_le level (level_of p)) refl h

by_question : (level : ℕ) (found : Option Binary) (o : Binary) (q : Bool) → (if q then Question else operator_from level found) ≡ Operator o → IsOp level found o
by_question level found o true h = cc
by_question level found o false h = from_op level found o h

pub next_operator : (level : ℕ) (l : Option Lexeme) (o : Binary) → next_at level l ≡ Operator o → IsOp level (binary_of (mark_if l)) o
unfolding next_at
next_operator level l o h = by_question level (binary_of (mark_if l)) o (level == 0 && sees (codes "?") l) h

no_question_from : (level : ℕ) (found : Option Binary) → operator_from level found ≡ Question → ⊥
unfolding operator_from
no_question_from level None h = cc
no_question_from level (Some p) h = by (nat_le level (level_of p)) h
  where
    by : (b : Bool) → (if b then Operator p else End) ≡ Question → ⊥
    by true h = cc
    by false h = cc

both : (a b : Bool) → (a && b) ≡ true → (a ≡ true) × (b ≡ true)
both true b h = (refl, h)
both false b h = cc

asks : (level : ℕ) (found : Option Binary) (a b : Bool) → (if (a && b) then Question else operator_from level found) ≡ Question → (a ≡ true) × (b ≡ true)
asks level found true true h = (refl, refl)
asks level found true false h = absurd (no_question_from level found h)
asks level found false b h = absurd (no_question_from level found h)

pub next_question : (level : ℕ) (l : Option Lexeme) → next_at level l ≡ Question → (level ≡ 0) × (sees (codes "?") l ≡ true)
unfolding next_at
next_question level l h = let both_are = asks level (binary_of (mark_if l)) (level == 0) (sees (codes "?") l) h in (eqb-true level 0 both_are.0, both_are.1)

-- a question mark is no operator
question_mark : (mark : List ℕ) → mark ≡ codes "?" → binary_of mark ≡ None
unfolding binary_of binary_of_one
question_mark mark e = ap binary_of e

pub is_bytes : (xs ys : List ℕ) → bytes_eq xs ys ≡ true → xs ≡ ys
is_bytes xs ys h = (bytes_eq-Decides xs ys).0 h

unasked : (a : Bool) (x : Next) → (if (a && false) then Question else x) ≡ x
unasked true x = refl
unasked false x = refl

by_asked : (level : ℕ) (l : Lexeme) (o : Binary) → binary_of (mark_of l) ≡ Some o → level ≤ level_of o → (asked : Bool) → is_mark (codes "?") l ≡ asked → next_at level (Some l) ≡ Operator o
unfolding next_at operator_from sees mark_if is_mark
by_asked level l o known high true asked = let none = question_mark (mark_of l) (is_bytes (mark_of l) (codes "?") asked) in cc
by_asked level l o known high false asked =
    let fits : nat_le level (level_of o) ≡ true = le-leb level (level_of o) high in
    rw (asked, known, fits) (unasked (level == 0) (Operator o))

-- what stands for an operator
pub next_is : (level : ℕ) (l : Option Lexeme) (o : Binary) → binary_of (mark_if l) ≡ Some o → level ≤ level_of o → next_at level l ≡ Operator o
unfolding mark_if binary_of
next_is level None o known high = cc
next_is level (Some l) o known high = by_asked level l o known high (is_mark (codes "?") l) refl

-- an operator behind an operand of a level is of no higher one
pub next_later : (level k : ℕ) (l : Option Lexeme) (o : Binary) → next_at level l ≡ Operator o → next_at (k + 1) l ≡ End → level_of o ≤ k
next_later level k l o h done = by (nat_le (k + 1) (level_of o)) refl
  where
    by : (b : Bool) → nat_le (k + 1) (level_of o) ≡ b → level_of o ≤ k
    by true fits = let here = next_is (k + 1) l o (next_operator level l o h).known (leb-true (k + 1) (level_of o) fits) in cc
    by false fits = let low = leb-false (k + 1) (level_of o) fits in omega arith
