use Rattle.std.proofs.Common.{◌≡◌, ℕ, ◌+◌, List, length, drop, map, Ok, Err, refl, sym, ap, ◌∙◌, subst, arith}
use Rattle.std.proofs.lemmas.List.{drop-map}
use Rattle.std.proofs.lemmas.Result.{err_from_is_err_and}
use Rattle.vlog_tree.specs.Lexemes.{lexeme, lexemes, place_at}
use Rattle.vlog_expr.specs.Begins.{IsAnswer, IsFault}
use Rattle.vlog_expr.proofs.ParserLemmas.{same_lexemes}
use Rattle.vlog_expr.proofs.parser.parse_expr.Goals as goal

pub returns-in_err-found-clause-complete : goal.returns-in_err-found-clause-complete
returns-in_err-found-clause-complete c = λ x count a.
    let same = same_lexemes c.args.text.now.bytes c.as_slice.result.now c.args.text.now.places c.as_slice-2.result.now c.args.tokens.now c.split_at.result.1.now c.args.from c.as_slice.ensures c.as_slice-2.ensures c.split_at.ensures.back in
    let p = err_from_is_err_and c.from_residual.result c.from_residual.ensures.1 in
    rw (p.1, p.2) (c.in_err-found.ensures.complete x count (subst (λ z. IsAnswer z x count) (sym same) a))

pub returns-in_err-found-clause-cause : goal.returns-in_err-found-clause-cause
returns-in_err-found-clause-cause c =
    let same = same_lexemes c.args.text.now.bytes c.as_slice.result.now c.args.text.now.places c.as_slice-2.result.now c.args.tokens.now c.split_at.result.1.now c.args.from c.as_slice.ensures c.as_slice-2.ensures c.split_at.ensures.back in
    let end : place_at c.as_slice-2.result.now (length c.as_slice.result.now) ≡ place_at c.args.text.now.places (length c.args.text.now.bytes) =
    ap (λ p. place_at p (length c.as_slice.result.now)) c.as_slice-2.ensures ∙ ap (λ b. place_at c.args.text.now.places (length b)) c.as_slice.ensures in
    let p = err_from_is_err_and c.from_residual.result c.from_residual.ensures.1 in
    rw (p.1, p.2) (subst (λ z. IsFault (place_at c.args.text.now.places (length c.args.text.now.bytes)) z c.in_err-found.field-0.0) same
    (subst (λ e. IsFault e (lexemes c.as_slice.result.now c.as_slice-2.result.now c.split_at.result.1.now) c.in_err-found.field-0.0) end c.in_err-found.ensures.cause))

pub returns-clause-complete : goal.returns-clause-complete
returns-clause-complete c = λ x count a.
    let same = same_lexemes c.args.text.now.bytes c.as_slice.result.now c.args.text.now.places c.as_slice-2.result.now c.args.tokens.now c.split_at.result.1.now c.args.from c.as_slice.ensures c.as_slice-2.ensures c.split_at.ensures.back in
    let r = c.in_ok-found.ensures.complete x count (subst (λ z. IsAnswer z x count) (sym same) a) in
    (r.0, ap (λ n. c.args.from + n) r.1)
