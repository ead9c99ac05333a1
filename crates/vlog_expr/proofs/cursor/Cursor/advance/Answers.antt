use Rattle.std.proofs.Common.{◌≡◌, ℕ, ◌-◌, length, map, drop, refl, sym, ap, ◌∙◌, arith}
use Rattle.vlog_tree.specs.Lexemes.{lexemes}
use Rattle.vlog_expr.specs.Plain.{mask, seen}
use Rattle.vlog_expr.proofs.MaskLemmas as masks
use Rattle.vlog_expr.proofs.cursor.Cursor.advance.Goals as goal

pub returns : goal.returns
returns c = ap (seen c.self.inside.wild) c.behind-self-inside.ensures.value ∙ (masks.seen-drop c.self.inside.wild 1 _ ∙ ap (drop 1) c.self.view_is)
