use Rattle.std.proofs.Common.{refl}
use Rattle.rdcsign.proofs.checking.read_roles.Goals as goal

pub returns-in-Err-NotOfForm-clause-refused : goal.returns-in-Err-NotOfForm-clause-refused
returns-in-Err-NotOfForm-clause-refused c = (refl, λ roles declares. c.in-Err-NotOfForm.ensures.not_of_form (rw c.in-Err-NotOfForm.field-0-is refl) roles declares)
