use Rattle.std.proofs.Common.{List, ℕ, subst}
use Rattle.rdcsign.specs.Request.{seen}
use Rattle.rdcsign.specs.Outcome.{refused}
use Rattle.rdcsign.specs.Answers.{outcome_of, EndsText}
use Rattle.rdcsign.proofs.EndsLemmas.{ends_at_sources, ends_with_text}
use Rattle.rdcsign.proofs.checking.check.Goals as goal

pub returns-in-Err-expand-clause-ends : goal.returns-in-Err-expand-clause-ends
returns-in-Err-expand-clause-ends g c =
    ends_at_sources (g.S.Shelf.files c.args.shelf.now) (g.S.Shelf.files c.load_file.new.shelf) (seen c.args.request.now) (refused c.stopped.result)
    (g.S.Shelf.calls c.args.shelf.now) (g.S.Shelf.calls c.load_file.new.shelf) (g.S.Shelf.calls c.expand.new.shelf) c.in-Ok.bytes.items c.in-Err-expand.stop
    c.load_file.ensures.files c.in-Ok.ensures.loaded c.in-Err-expand.ensures.value c.stopped.ensures c.in-Ok.ensures.listed

pub returns-clause-ends : goal.returns-clause-ends
returns-clause-ends g c =
    let r = seen c.args.request.now in
    let ended = subst (λ (constraints : List ℕ). EndsText r constraints c.in-Ok-expand.text (outcome_of c.judge_text.result)) c.deref.ensures.value c.judge_text.ensures in
    ends_with_text (g.S.Shelf.files c.args.shelf.now) (g.S.Shelf.files c.load_file.new.shelf) r (outcome_of c.judge_text.result)
    (g.S.Shelf.calls c.args.shelf.now) (g.S.Shelf.calls c.load_file.new.shelf) (g.S.Shelf.calls c.expand.new.shelf) c.in-Ok.bytes.items c.in-Ok-expand.text
    c.load_file.ensures.files c.in-Ok.ensures.loaded c.in-Ok-expand.ensures.value ended c.in-Ok.ensures.listed
