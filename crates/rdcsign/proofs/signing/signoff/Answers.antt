use Rattle.thin_form.proofs.OneDesign.{one_design_is}
use Rattle.rdcsign.specs.Request.{texts}
use Rattle.rdcsign.specs.Outcome.{Judged, refused}
use Rattle.rdcsign.proofs.EndsLemmas.{cause_of_call}
use Rattle.rdcsign.proofs.HeadlineLemmas.{clean_call_is_safe}
use Rattle.rdcsign.proofs.signing.signoff.Goals as goal

pub returns-in-Ok-clause-cause : goal.returns-in-Ok-clause-cause
returns-in-Ok-clause-cause g c =
    cause_of_call (g.S.Shelf.files c.args.shelf.now) (texts c.args.words.now) (Judged c.in-Ok.judgement.report.items c.in-Ok.judgement.crossing) c.in-Ok.ensures.ends.made c.conclude.result _ _ _ _
    c.in-Ok.ensures.ends.ends c.conclude.ensures

pub returns-in-Err-clause-cause : goal.returns-in-Err-clause-cause
returns-in-Err-clause-cause g c =
    cause_of_call (g.S.Shelf.files c.args.shelf.now) (texts c.args.words.now) (refused c.in-Err.refusal) c.in-Err.ensures.ends.made c.refuse.result _ _ _ _
    c.in-Err.ensures.ends.ends c.refuse.ensures

pub returns-in-Ok-clause-safe : goal.returns-in-Ok-clause-safe
returns-in-Ok-clause-safe g c =
    clean_call_is_safe one_design_is (g.S.Shelf.files c.args.shelf.now) (texts c.args.words.now) (Judged c.in-Ok.judgement.report.items c.in-Ok.judgement.crossing) c.in-Ok.ensures.ends.made c.conclude.result _ _ _ _
    c.in-Ok.ensures.ends.ends c.conclude.ensures

pub returns-in-Err-clause-safe : goal.returns-in-Err-clause-safe
returns-in-Err-clause-safe g c =
    clean_call_is_safe one_design_is (g.S.Shelf.files c.args.shelf.now) (texts c.args.words.now) (refused c.in-Err.refusal) c.in-Err.ensures.ends.made c.refuse.result _ _ _ _
    c.in-Err.ensures.ends.ends c.refuse.ensures
