-- A line has the form that is read.
use Rattle.cons_file.proofs.FormsLemmas.{spells_read, read_alone}
use Rattle.cons_file.proofs.file.said.Goals as goal

pub returns-clause-some : goal.returns-clause-some
returns-clause-some c = spells_read c.args.text.now c.form.result c.if-not-is_ascii.ensures.cases c.form.ensures

pub returns-clause-none : goal.returns-clause-none
returns-clause-none c = read_alone c.args.text.now c.form.result c.form.ensures
