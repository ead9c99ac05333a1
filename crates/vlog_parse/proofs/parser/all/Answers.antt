use Rattle.std.proofs.Common.{◌≡◌, ◌<◌, ◌≤◌, [], ◌∷◌, ◌++◌, length, drop, sym, ap, ◌∙◌, subst}
use Rattle.std.proofs.lemmas.List.{drop-map}
use Rattle.std.proofs.lemmas.List.Elements.{All-drop}
use Rattle.std.proofs.lemmas.Result.{err_from_is_err_and}
use Rattle.vlog_lex.specs.Tokens.{AreWithin}
use Rattle.vlog_tree.specs.Lexemes.{lexeme, lexemes}
use Rattle.vlog_parse.specs.Begins.{IsBehind}
use Rattle.vlog_parse.proofs.FrontLemmas.{none_behind, one_behind, stop_behind}
use Rattle.vlog_parse.proofs.parser.all.Goals as goal

pub modules-init : goal.modules-init
modules-init c =
    let ls = lexemes c.args.bytes.now c.args.places.now c.args.tokens.now in
    (c.requires.within, subst (λ m. IsBehind ls m ls) (sym c.new-found.ensures) (none_behind ls))

pub returns-in_err-next-clause-cause : goal.returns-in_err-next-clause-cause
returns-in_err-next-clause-cause c =
    let ls = lexemes c.args.bytes.now c.args.places.now c.args.tokens.now in
    let ahead = lexemes c.args.bytes.now c.args.places.now c.modules.ahead.now in
    let p = err_from_is_err_and c.from_residual.result c.from_residual.ensures.1 in
    rw (p.1, p.2) (stop_behind ls ahead c.modules.found c.in_err-next.field-0.0 c.modules.invariant.1 c.in_err-next.ensures.cause)

pub modules-preserved : goal.modules-preserved
modules-preserved c =
    let ls = lexemes c.args.bytes.now c.args.places.now c.args.tokens.now in
    let ahead = lexemes c.args.bytes.now c.args.places.now c.modules.ahead.now in
    let count = c.in_ok-next.count in
    let moved = one_behind ls ahead c.modules.found c.in_ok-next.next count c.modules.invariant.1 c.in_ok-next.ensures.value in
    let behind : drop count ahead ≡ lexemes c.args.bytes.now c.args.places.now c.split_at.result.1.now =
    drop-map (lexeme c.args.bytes.now c.args.places.now) count c.modules.ahead.now ∙ ap (lexemes c.args.bytes.now c.args.places.now) (sym c.split_at.ensures.back) in (
      subst (λ ts. AreWithin (length c.args.bytes.now) ts) (sym c.split_at.ensures.back) (All-drop (λ t. (t.from < t.to) × (t.to ≤ length c.args.bytes.now)) count c.modules.ahead.now c.modules.invariant.0),
      subst (λ m. IsBehind ls m (lexemes c.args.bytes.now c.args.places.now c.split_at.result.1.now)) (sym c.in_ok-push.ensures.ok) (subst (λ z. IsBehind ls (c.modules.found ++ c.in_ok-next.next ∷ []) z) behind moved),
    )
