use Rattle.std.proofs.Common.{◌≡◌, ℕ, ◌≤◌, max, List, [], ◌∷◌, ◌++◌, Some, None, Ok, Result, refl, sym, ap, ◌∙◌, arith}
use Rattle.vlog_tree.specs.declared.expr.Expr.{Expr}
use Rattle.vlog_tree.specs.Depth.{depth}
use Rattle.vlog_tree.specs.Lexemes.{Lexeme}
use Rattle.vlog_expr.specs.Reading.{Outcome}
use Rattle.vlog_expr.specs.Exprs.{expr}
use Rattle.vlog_expr.proofs.Inversion.{gave}
use Rattle.vlog_expr.proofs.Whole.{whole_read}
use Rattle.vlog_expr.proofs.Graft.{after_open}
use Rattle.vlog_expr.proofs.Answered.{answered}
use Rattle.vlog_expr.proofs.ShallowLemmas.{expr_steady}
use Rattle.vlog_expr.proofs.ParserLemmas.{deep_fault}
use Rattle.vlog_expr.proofs.laws.one_expression.Goals as goal

pub returns : goal.returns
returns c = λ ls x y one two.
    let d = max (depth x) (depth y) in
    let first = whole_read d ls x one (omega arith) in
    let second = whole_read d ls y two (omega arith) in
    (gave y [] x [] (sym second ∙ first)).same
