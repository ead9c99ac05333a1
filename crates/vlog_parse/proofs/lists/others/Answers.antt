use Rattle.std.proofs.Common.{◌≡◌, suc, ◌-◌, true, [], ◌∷◌, ◌++◌, length, drop, sym, ap, ◌∙◌, append_assoc, append-nil, length-drop, Ok, Err, arith}
use Rattle.std.proofs.lemmas.Result.{err_from_is_err_and}
use Rattle.std.specs.Prelude.{codes}
use Rattle.vlog_expr.specs.Reading.{first, sees}
use Rattle.vlog_parse.specs.Lists.{others_from}
use Rattle.vlog_parse.proofs.LoopLemmas.{behind, seen_some, others_begin, one_other, broken_other}
use Rattle.vlog_parse.proofs.lists.others.Goals as goal

pub pieces-init : goal.pieces-init
pieces-init g c = (length c.args.cursor.now, [], omega arith, sym (append-nil c.args.found.now), others_begin (g.P.Piece.reader c.args.piece.now) c.args.cursor.now)

pub returns-in_err-next : goal.returns-in_err-next
returns-in_err-next g c =
    let kept = c.pieces.invariant in
    let reader = g.P.Piece.reader c.args.piece.now in
    let seen : sees (codes ",") (first c.pieces.cursor) ≡ true = sym c.sees.ensures ∙ c.pieces-test.true in
    let some = seen_some (codes ",") c.pieces.cursor seen in
    let turn : suc (kept.0 - 1) ≡ kept.0 = omega arith in
    let p = err_from_is_err_and c.from_residual.result c.from_residual.ensures.1 in
    rw (p.1, p.2) (λ fresh.
    let read : reader (drop 1 c.pieces.cursor) ≡ (Err c.in_err-next.field-0.0, c.read.new.cursor) = ap reader (sym c.advance.ensures) ∙ c.in_err-next.ensures fresh in
    kept.4 ∙ (ap (λ n. behind kept.1 (others_from n reader c.pieces.cursor)) (sym turn)
    ∙ broken_other reader (kept.0 - 1) kept.1 c.pieces.cursor c.in_err-next.field-0.0 c.read.new.cursor seen read))

pub pieces-smaller : goal.pieces-smaller
pieces-smaller g c =
    let some = seen_some (codes ",") c.pieces.cursor (sym c.sees.ensures ∙ c.pieces-test.true) in
    let less = c.requires.keeps.leaves c.advance.new.self c.in_ok-next.next c.read.new.cursor c.in_ok-next.ensures in
    omega (arith, ap length c.advance.ensures, length-drop 1 c.pieces.cursor)

pub pieces-preserved : goal.pieces-preserved
pieces-preserved g c =
    let kept = c.pieces.invariant in
    let reader = g.P.Piece.reader c.args.piece.now in
    let seen : sees (codes ",") (first c.pieces.cursor) ≡ true = sym c.sees.ensures ∙ c.pieces-test.true in
    let some = seen_some (codes ",") c.pieces.cursor seen in
    let less = c.requires.keeps.leaves c.advance.new.self c.in_ok-next.next c.read.new.cursor c.in_ok-next.ensures in
    let read : reader (drop 1 c.pieces.cursor) ≡ (Ok c.in_ok-next.next, c.read.new.cursor) = ap reader (sym c.advance.ensures) ∙ c.in_ok-next.ensures in
    let turn : suc (kept.0 - 1) ≡ kept.0 = omega arith in (
      kept.0 - 1,
      kept.1 ++ c.in_ok-next.next ∷ [],
      omega (arith, ap length c.advance.ensures, length-drop 1 c.pieces.cursor),
      c.in_ok-push.ensures.ok ∙ (ap (λ found. found ++ c.in_ok-next.next ∷ []) kept.3 ∙ append_assoc c.args.found.now kept.1 (c.in_ok-next.next ∷ [])),
      kept.4 ∙ (ap (λ n. behind kept.1 (others_from n reader c.pieces.cursor)) (sym turn)
          ∙ one_other reader (kept.0 - 1) kept.1 c.pieces.cursor c.in_ok-next.next c.read.new.cursor seen read),
    )
