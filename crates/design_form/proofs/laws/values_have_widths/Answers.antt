use Rattle.design_form.proofs.WidthLemmas.{length-word_in}
use Rattle.design_form.proofs.laws.values_have_widths.Goals as goal

pub returns : goal.returns
returns c = length-word_in
