use Rattle.std.proofs.Common.{◌≡◌, ap, ◌∙◌, subst}
use Rattle.vlog_tree.specs.Lexemes.{lexemes}
use Rattle.vlog_parse.specs.Begins.{IsAnswer}
use Rattle.vlog_parse.proofs.Given.{laws}
use Rattle.vlog_parse.proofs.OneTreeLemmas.{one_tree}
use Rattle.vlog_parse.proofs.parser.parse.Goals as goal

pub returns-in-Ok-clause-complete : goal.returns-in-Ok-clause-complete
returns-in-Ok-clause-complete c = λ ms a.
    let tokens = c.args.tokens.now in
    let same : lexemes c.as_slice-bytes.result.now c.as_slice-places.result.now tokens ≡ lexemes c.args.text.now.bytes c.args.text.now.places tokens =
    ap (λ b. lexemes b c.as_slice-places.result.now tokens) c.as_slice-bytes.ensures ∙ ap (λ p. lexemes c.args.text.now.bytes p tokens) c.as_slice-places.ensures in
    let found = subst (λ z. IsAnswer z c.in-Ok.found) same c.in-Ok.ensures.value in
    one_tree laws (lexemes c.args.text.now.bytes c.args.text.now.places tokens) c.in-Ok.found ms found.spelled a.spelled
