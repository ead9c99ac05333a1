use Rattle.std.proofs.Common.{refl}
use Rattle.rdcsign.proofs.MachineLemmas.{is_closed}
use Rattle.rdcsign.proofs.checking.read_design.Goals as goal

pub returns-in-Err-NotOfForm-clause-refused : goal.returns-in-Err-NotOfForm-clause-refused
returns-in-Err-NotOfForm-clause-refused c = (c.first_of.ensures, λ design says. c.in-Err-NotOfForm.ensures.not_of_form (rw c.in-Err-NotOfForm.field-0-is refl) design says)

pub returns-in-Ok-clause-closed : goal.returns-in-Ok-clause-closed
returns-in-Ok-clause-closed c = is_closed c.in-Ok.design c.sources-sources.ensures.lawful
