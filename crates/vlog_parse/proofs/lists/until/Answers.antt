use Rattle.std.proofs.Common.{◌≡◌, suc, ◌-◌, true, false, drop, sym, ap, ◌∙◌, append-nil, Ok, arith}
use Rattle.std.proofs.lemmas.Result.{err_from_is_err_and}
use Rattle.vlog_expr.specs.Reading.{first, sees_word}
use Rattle.vlog_parse.specs.Lists.{until_from}
use Rattle.vlog_parse.proofs.LoopLemmas.{behind, until_end, until_one, until_broken}
use Rattle.vlog_parse.proofs.lists.until.Goals as goal

pub returns-in_err-next : goal.returns-in_err-next
returns-in_err-next g c =
    let kept = c.pieces.invariant in
    let w = c.args.word.now in
    let reader = g.P.Piece.reader c.args.piece.now in
    let unseen : sees_word w (first c.pieces.cursor) ≡ false = grind (arith, c.sees_word.ensures, c.pieces-test.true) in
    let turn : suc (kept.0 - 1) ≡ kept.0 = omega arith in
    let p = err_from_is_err_and c.from_residual.result c.from_residual.ensures.1 in
    rw (p.1, p.2) (λ fresh.
    kept.2 ∙ (ap (λ n. behind c.pieces.found (until_from n w reader c.pieces.cursor)) (sym turn)
    ∙ until_broken w reader (kept.0 - 1) c.pieces.found c.pieces.cursor c.in_err-next.field-0.0 c.read.new.cursor unseen (c.in_err-next.ensures fresh)))

pub pieces-smaller : goal.pieces-smaller
pieces-smaller g c = c.requires.eats.leaves c.pieces.cursor c.in_ok-next.next c.read.new.cursor c.in_ok-next.ensures

pub pieces-preserved : goal.pieces-preserved
pieces-preserved g c =
    let kept = c.pieces.invariant in
    let w = c.args.word.now in
    let reader = g.P.Piece.reader c.args.piece.now in
    let unseen : sees_word w (first c.pieces.cursor) ≡ false = grind (arith, c.sees_word.ensures, c.pieces-test.true) in
    let less = c.requires.eats.leaves c.pieces.cursor c.in_ok-next.next c.read.new.cursor c.in_ok-next.ensures in
    let turn : suc (kept.0 - 1) ≡ kept.0 = omega arith in (
      kept.0 - 1,
      omega arith,
      kept.2 ∙ (ap (λ n. behind c.pieces.found (until_from n w reader c.pieces.cursor)) (sym turn)
          ∙ (until_one w reader (kept.0 - 1) c.pieces.found c.pieces.cursor c.in_ok-next.next c.read.new.cursor unseen c.in_ok-next.ensures
          ∙ ap (λ found. behind found (until_from (kept.0 - 1) w reader c.read.new.cursor)) (sym c.in_ok-push.ensures.ok))),
    )

pub returns : goal.returns
returns g c =
    let kept = c.pieces.invariant in
    let w = c.args.word.now in
    let reader = g.P.Piece.reader c.args.piece.now in
    let seen : sees_word w (first c.pieces.cursor) ≡ true = grind (arith, c.sees_word.ensures, c.pieces-test.false) in
    let turn : suc (kept.0 - 1) ≡ kept.0 = omega arith in
    kept.2 ∙ (ap (λ n. behind c.pieces.found (until_from n w reader c.pieces.cursor)) (sym turn)
    ∙ (until_end w reader (kept.0 - 1) c.pieces.found c.pieces.cursor seen
    ∙ (ap (λ found. (Ok found, drop 1 c.pieces.cursor)) (append-nil c.pieces.found)
    ∙ (ap (λ ls. (Ok c.pieces.found, ls)) (sym c.advance.ensures)
    ∙ ap (λ found. (Ok found, c.advance.new.self)) (sym c.in_ok-fitted.ensures)))))
