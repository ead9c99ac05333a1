-- One turn of `climb`.
use Rattle.std.proofs.Common.{◌≡◌, ℕ, suc, ◌+◌, ◌-◌, ◌≤◌, Bool, true, false, List, Option, Some, None, Ok, Err, ap, sym, ◌∙◌, refl, arith}
use Rattle.std.specs.Prelude.{nat_le}
use Rattle.std.proofs.lemmas.Bool.{le-leb}
use Rattle.rdc_outside.specs.declared.source.Place.{Place}
use Rattle.vlog_tree.specs.declared.expr.Expr.{Expr}
use Rattle.vlog_tree.specs.declared.expr.Expr.TheVariants as e
use Rattle.vlog_tree.specs.declared.operator.Binary.{Binary}
use Rattle.vlog_tree.specs.Lexemes.{Lexeme}
use Rattle.vlog_tree.specs.Depth.{depth}
use Rattle.vlog_expr.specs.declared.cursor.Next.{Next}
use Rattle.vlog_expr.specs.declared.cursor.Next.TheVariants.{Operator, Question, End}
use Rattle.vlog_expr.specs.Reading.{Reader, first}
use Rattle.vlog_expr.specs.Exprs.{next_at, right, step_by, climb}

pub one_more : (room : ℕ) (inner : ℕ → Reader Expr) (n level : ℕ) (place : Place) (left : Expr) (op : Binary) (b : Expr) (ls mid : List Lexeme)
    → next_at level (first ls) ≡ Operator op → depth left ≤ room → right room inner op ls ≡ (Ok b, mid)
    → climb room inner (suc n) level place left ls ≡ climb room inner n level place (e.Binary place op left b) mid
unfolding climb step_by
one_more room inner n level place left op b ls mid next within read =
    let fits : nat_le (depth left) room ≡ true = le-leb (depth left) room within in
    rw (next, fits, read)
