use Rattle.std.proofs.Common.{◌≡◌, ℕ, ◌-◌, length, map, drop, refl, sym, ap, ◌∙◌, arith}
use Rattle.vlog_tree.specs.Lexemes.{lexemes}
use Rattle.vlog_expr.specs.Plain.{mask, seen}
use Rattle.vlog_expr.proofs.MaskLemmas as masks
use Rattle.vlog_expr.proofs.cursor.Cursor.leave.Goals as goal

pub returns : goal.returns
returns c =
    let wild = c.self.inside.wild in
    let bytes = c.self.inside.bytes.now in
    let places = c.self.inside.places.now in
    let rest = c.self.inside.rest.now in
    let count = c.saturating_sub.result in
    let counted = masks.seen_count wild bytes places rest in
    let shown = ap length c.self.view_is in
    let same : count ≡ length c.args.self.now - c.args.left = omega (arith, c.saturating_sub.ensures, counted, shown) in
    ap (λ z. seen wild (lexemes bytes places z)) c.split_at.ensures.back
    ∙ (masks.seen-behind wild bytes places rest count
    ∙ (ap (drop count) c.self.view_is ∙ ap (λ n. drop n c.args.self.now) same))
