-- A row that is no line leaves no list of lines.
use Rattle.std.proofs.Common.{◌≡◌, ◌∷◌, ◌++◌, map, ap, ◌∙◌}
use Rattle.thin_cons.specs.Lines.{words_in, rows_of}
use Rattle.thin_cons.specs.Forms.{heading, words_of, declaration_of}
use Rattle.thin_cons.proofs.FormsLemmas.{no_file}
use Rattle.thin_cons.proofs.reader.read_lines.Goals as goal

pub returns-in_default-line-clause-not_of_form : goal.returns-in_default-line-clause-not_of_form
returns-in_default-line-clause-not_of_form c =
    let before = map declaration_of c.loop-text.lines.items in
    let row = words_in c.in-Some-next_row.text.now in
    let after = rows_of c.in-Some-next_row.after.now in
    let rows : rows_of c.args.bytes.now ≡ heading ∷ (map words_of before ++ row ∷ after) = c.loop-text.invariant ∙ ap (λ r. heading ∷ (map words_of before ++ r)) c.in-Some-next_row.ensures.some in
    λ _. no_file c.args.bytes.now before row after rows c.in_default-line.ensures.none
