use Rattle.rdcsign.specs.Request.{seen, texts}
use Rattle.rdcsign.specs.Answers.{outcome_of}
use Rattle.rdcsign.proofs.EndsLemmas.{ends_words}
use Rattle.rdcsign.proofs.checking.answer.Goals as goal

pub returns-in-Some-clause-ends : goal.returns-in-Some-clause-ends
returns-in-Some-clause-ends g c =
    ends_words (g.S.Shelf.files c.args.shelf.now) (texts c.args.words.now) (seen c.in-Some.request) (outcome_of c.check.result) (g.S.Shelf.calls c.args.shelf.now) (g.S.Shelf.calls c.check.new.shelf)
    c.in-Some.ensures c.check.ensures.ends
