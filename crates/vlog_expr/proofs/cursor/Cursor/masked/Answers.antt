use Rattle.std.proofs.Common.{◌≡◌, ℕ, ◌-◌, length, map, drop, refl, sym, ap, ◌∙◌, arith}
use Rattle.vlog_tree.specs.Lexemes.{lexemes}
use Rattle.vlog_expr.specs.Plain.{mask, seen}
use Rattle.vlog_expr.proofs.MaskLemmas as masks
use Rattle.vlog_expr.proofs.cursor.Cursor.masked.Goals as goal

pub returns : goal.returns
returns c = masks.seen-false _ ∙ (sym (masks.mask-seen c.self.inside.wild _) ∙ ap (map mask) c.self.view_is)
