use Rattle.design_form.specs.ConstantLaws.{written}
use Rattle.design_form.proofs.WrittenForms.{value_written, in_written, within_written}
use Rattle.design_form.proofs.ConstantValues.{alone_agrees, inside_agrees, assigned_agrees}
use Rattle.design_form.proofs.laws.values_agree_with_constants.Goals as goal

pub returns : goal.returns
returns c = record {
  alone = λ values names e v is. alone_agrees names (written values e) v (value_written values e v is);
  inside = λ values names c e v is. inside_agrees names c (written values e) v (in_written values c e v is);
  assigned = λ values names w e v is. assigned_agrees names w (written values e) v (within_written values w e v is);
}
