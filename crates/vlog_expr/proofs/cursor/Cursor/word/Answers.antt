use Rattle.std.proofs.Common.{◌≡◌, ℕ, ◌-◌, length, map, drop, refl, sym, ap, ◌∙◌, arith}
use Rattle.vlog_tree.specs.Lexemes.{lexemes}
use Rattle.vlog_expr.specs.Reading.{first, place_if, mark_if, word_if, name_if, number_if}
use Rattle.vlog_expr.specs.Plain.{mask, seen}
use Rattle.vlog_expr.proofs.MaskLemmas as masks
use Rattle.vlog_expr.proofs.cursor.Cursor.word.Goals as goal

pub returns : goal.returns
returns c = c.word_in_front.ensures ∙ (sym (masks.seen-word c.self.inside.wild _) ∙ ap (λ z. word_if (first z)) c.self.view_is)
