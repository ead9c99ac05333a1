use Rattle.std.proofs.Common.{◌≡◌, ℕ, ◌-◌, length, map, drop, refl, sym, ap, ◌∙◌, arith}
use Rattle.vlog_tree.specs.Lexemes.{lexemes}
use Rattle.vlog_expr.specs.Reading.{first, place_if, mark_if, word_if, name_if, number_if}
use Rattle.vlog_expr.specs.Plain.{mask, seen}
use Rattle.vlog_expr.proofs.MaskLemmas as masks
use Rattle.vlog_expr.proofs.cursor.Cursor.left.Goals as goal

pub returns : goal.returns
returns c = sym (masks.seen_count c.self.inside.wild c.self.inside.bytes.now c.self.inside.places.now c.self.inside.rest.now) ∙ ap length c.self.view_is
