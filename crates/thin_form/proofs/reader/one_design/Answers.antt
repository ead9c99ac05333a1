-- The law is the lemma.
use Rattle.thin_form.proofs.OneDesign.{one_design_is}
use Rattle.thin_form.proofs.reader.one_design.Goals as goal

pub returns : goal.returns
returns c = one_design_is
