-- Whole texts of expressions, and what no expression begins with.
use Rattle.std.proofs.Common.{◌≡◌, ℕ, zero, suc, ◌+◌, ◌-◌, ◌<◌, ◌≤◌, max, Bool, true, false, List, [], ◌∷◌, ◌++◌, length, take, drop, Option, Some, None, Result, Ok, Err, refl, sym, ap, ◌∙◌, subst, append_assoc, append-nil, length-append, arith}
use Rattle.std.specs.Prelude.{codes}
use Rattle.vlog_tree.specs.declared.expr.Expr.{Expr}
use Rattle.vlog_tree.specs.Lexemes.{Lexeme}
use Rattle.vlog_tree.specs.Operators.{binary_of}
use Rattle.vlog_tree.specs.Expressions.{Spells}
use Rattle.vlog_tree.specs.Depth.{depth}
use Rattle.vlog_expr.specs.declared.stuck.Stuck.{Stuck}
use Rattle.vlog_expr.specs.declared.stuck.Stuck.TheVariants.{Memory, Wrong, Deep}
use Rattle.vlog_expr.specs.declared.cursor.Next.TheVariants.{End}
use Rattle.vlog_expr.specs.Reading.{Outcome, first, sees, mark_if}
use Rattle.vlog_expr.specs.Exprs.{next_at, expr}
use Rattle.vlog_expr.proofs.Readers.{Steps, wants_room}
use Rattle.vlog_expr.proofs.CalmLemmas.{expr_calm}
use Rattle.vlog_expr.proofs.MarkLemmas.{ends_at}
use Rattle.vlog_expr.proofs.SpelledLemmas.{sized}
use Rattle.vlog_expr.proofs.Complete.{complete, part_read}

pub at_end : (k : ℕ) → next_at k (first []) ≡ End
unfolding first sees mark_if binary_of
at_end k = ends_at k None refl refl

-- what is spelled is read whole
pub whole_read : (d : ℕ) (us : List Lexeme) (x : Expr) → Spells 0 us x → depth x ≤ d → expr d 0 us ≡ (Ok x, [])
unfolding first sees
whole_read d us x spelled shallow =
    ap (expr d 0) (sym (append-nil us))
    ∙ part_read (complete spelled) (sized spelled).some d 0 [] (omega arith) shallow (record { loose = λ e. at_end 0; tight = at_end 1 }) (λ open_end. refl) (at_end 0)
