-- The first line is taken, and the others are left.
use Rattle.std.proofs.Common.{◌≡◌, ◌<◌, length, sym, ◌∙◌, arith}
use Rattle.std.proofs.lemmas.Bool.{eqb-true, eqb-false}
use Rattle.cons_file.proofs.LinesLemmas.{takes_last_line, takes_line}
use Rattle.cons_file.proofs.scanner.first_line.Goals as goal

pub returns-then-is_empty-clause-rows : goal.returns-then-is_empty-clause-rows
returns-then-is_empty-clause-rows c =
    let none : length c.split.result.1.now ≡ 0 = eqb-true _ _ (sym c.is_empty.ensures ∙ c.if-is_empty.true) in
    takes_last_line c.args.bytes.now c.split.result.0.now c.split.result.1.now c.place.result c.place.ensures c.split.ensures.front c.split.ensures.rest none

pub returns-clause-rows : goal.returns-clause-rows
returns-clause-rows c =
    let apart = eqb-false (length c.split.result.1.now) 0 (sym c.is_empty.ensures ∙ c.if-is_empty.false) in
    let some : 0 < length c.split.result.1.now = omega (arith, apart) in
    takes_line c.args.bytes.now c.split.result.0.now c.split.result.1.now c.shortened.result.now c.split_at.result.1.now c.place.result c.place.ensures c.split.ensures.front c.split.ensures.rest some c.shortened.ensures c.split_at.ensures.back
