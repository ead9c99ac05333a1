use Rattle.std.proofs.Common.{◌≡◌, ℕ, ◌-◌, length, map, drop, refl, sym, ap, ◌∙◌, arith}
use Rattle.vlog_tree.specs.Lexemes.{lexemes}
use Rattle.vlog_expr.specs.Plain.{mask, seen}
use Rattle.vlog_expr.proofs.MaskLemmas as masks
use Rattle.vlog_expr.proofs.cursor.Cursor.new.Goals as goal

pub returns : goal.returns
returns c = masks.seen-true _
