-- A row that was read stands behind those before it, and their numbers ascend.
use Rattle.std.proofs.Common.{map, arith}
use Rattle.std.proofs.lemmas.List.{map-append}
use Rattle.cons_file.specs.Lines.{lines_of, rows_from, rows_of}
use Rattle.cons_file.specs.Front.{row_read}
use Rattle.cons_file.specs.File.{stated, form_said}
use Rattle.cons_file.proofs.FileLemmas.{goes_on, ends, file_ascends}
use Rattle.cons_file.proofs.file.read_constraints.Goals as goal

pub loop-row-preserved : goal.loop-row-preserved
loop-row-preserved c =
    let rows = rows_of c.args.bytes.now in
    let left = rows_from c.loop-row.number (lines_of c.loop-row.rest.now) in
    let after = rows_from c.in-Some-next_row.next (lines_of c.in-Some-next_row.after.now) in
    let row = row_read c.in-Some-next_row.row in
    record {
      read = rw (c.in_ok-push.ensures.items, map-append stated) (goes_on rows left after row (map stated c.loop-row.lines.items) (form_said c.in-Some-said.form) c.in-Some-next_row.ensures.some c.loop-row.invariant.read c.in-Some-said.ensures.some);
      within = omega (arith, c.in-Some-next_row.ensures.within);
    }

pub returns-clause-ascending : goal.returns-clause-ascending
returns-clause-ascending c =
    let rows = rows_of c.args.bytes.now in
    let left = rows_from c.loop-row.number (lines_of c.loop-row.rest.now) in
    let lines = map stated c.loop-row.lines.items in
    file_ascends c.args.bytes.now lines (ends rows left lines c.in_default-next_row.ensures.none c.loop-row.invariant.read)
