use Rattle.std.proofs.Common.{◌≡◌, suc, ◌-◌, true, [], ◌∷◌, ◌++◌, length, sym, ap, ◌∙◌, append_assoc, append-nil, arith}
use Rattle.std.proofs.lemmas.Result.{err_from_is_err_and}
use Rattle.vlog_expr.specs.Reading.{first}
use Rattle.vlog_stmt.specs.Lists.{many_from}
use Rattle.vlog_stmt.proofs.ManyLemmas.{behind, many_begin, turned, broken}
use Rattle.vlog_stmt.proofs.lists.many.Goals as goal

pub pieces-init : goal.pieces-init
pieces-init g c = (suc (length c.args.cursor.now), [], omega arith, sym (append-nil c.args.found.now), many_begin (g.P.Piece.goes_on c.args.piece.now) (g.P.Piece.reader c.args.piece.now) c.args.cursor.now)

pub returns-in_err-next : goal.returns-in_err-next
returns-in_err-next g c =
    let kept = c.pieces.invariant in
    let goes = g.P.Piece.goes_on c.args.piece.now in
    let reader = g.P.Piece.reader c.args.piece.now in
    let on : goes (first c.pieces.cursor) ≡ true = sym c.goes_on.ensures ∙ c.pieces-test.true in
    let turn : suc (kept.0 - 1) ≡ kept.0 = omega arith in
    let p = err_from_is_err_and c.from_residual.result c.from_residual.ensures.1 in
    rw (p.1, p.2) (λ fresh.
    kept.4 ∙ (ap (λ n. behind kept.1 (many_from n goes reader c.pieces.cursor)) (sym turn)
    ∙ broken goes reader (kept.0 - 1) kept.1 c.pieces.cursor c.in_err-next.field-0.0 c.read.new.cursor on (c.in_err-next.ensures fresh)))

pub pieces-smaller : goal.pieces-smaller
pieces-smaller g c = c.requires.eats.leaves c.pieces.cursor c.in_ok-next.next c.read.new.cursor c.in_ok-next.ensures

pub pieces-preserved : goal.pieces-preserved
pieces-preserved g c =
    let kept = c.pieces.invariant in
    let goes = g.P.Piece.goes_on c.args.piece.now in
    let reader = g.P.Piece.reader c.args.piece.now in
    let on : goes (first c.pieces.cursor) ≡ true = sym c.goes_on.ensures ∙ c.pieces-test.true in
    let less = c.requires.eats.leaves c.pieces.cursor c.in_ok-next.next c.read.new.cursor c.in_ok-next.ensures in
    let turn : suc (kept.0 - 1) ≡ kept.0 = omega arith in (
      kept.0 - 1,
      kept.1 ++ c.in_ok-next.next ∷ [],
      omega arith,
      c.in_ok-push.ensures.ok ∙ (ap (λ found. found ++ c.in_ok-next.next ∷ []) kept.3 ∙ append_assoc c.args.found.now kept.1 (c.in_ok-next.next ∷ [])),
      kept.4 ∙ (ap (λ n. behind kept.1 (many_from n goes reader c.pieces.cursor)) (sym turn)
          ∙ turned goes reader (kept.0 - 1) kept.1 c.pieces.cursor c.in_ok-next.next c.read.new.cursor on c.in_ok-next.ensures),
    )
