use Rattle.std.proofs.Common.{◌≡◌, ◌≢◌, ℕ, ◌+◌, ◌-◌, ◌≤◌, List, length, take, drop, map, Ok, Err, inl, inr, refl, sym, ap, ◌∙◌, subst, arith}
use Rattle.std.proofs.lemmas.List.{length-map}
use Rattle.vlog_tree.specs.Lexemes.{lexeme, lexemes, place_at}
use Rattle.vlog_expr.specs.declared.stuck.Stuck.TheVariants.{Memory, Wrong, Deep}
use Rattle.vlog_expr.specs.Reading.{first}
use Rattle.vlog_expr.specs.Exprs.{expr}
use Rattle.vlog_expr.specs.Begins.{IsAnswer, named_place, refusal, last, fault_of}
use Rattle.vlog_expr.proofs.OthersLemmas.{read_shorter}
use Rattle.vlog_expr.proofs.Answered.{answered}
use Rattle.vlog_expr.proofs.ParserLemmas.{one_answer, no_answer, wrong_fault, deep_fault, stop_read, fresh_wrong, fresh_deep, place_cut, wrong_cut}
use Rattle.vlog_expr.proofs.parser.front.Goals as goal

pub overflow_sub-result : goal.overflow_sub-result
overflow_sub-result c =
    let ls = lexemes c.args.bytes.now c.args.places.now c.args.ahead.now in
    let read = ap (expr 255 0) (sym c.new-cursor.ensures) ∙ c.in-Ok.ensures.value in
    let less = read_shorter 255 0 ls (Ok c.in-Ok.found) c.expr.new.cursor read in
    omega (arith, c.left.ensures, length-map c.args.ahead.now (lexeme c.args.bytes.now c.args.places.now))

pub returns-in-Ok-clause-value : goal.returns-in-Ok-clause-value
returns-in-Ok-clause-value c =
    let ls = lexemes c.args.bytes.now c.args.places.now c.args.ahead.now in
    let read = ap (expr 255 0) (sym c.new-cursor.ensures) ∙ c.in-Ok.ensures.value in
    let count : length ls - length c.expr.new.cursor ≡ length c.args.ahead.now - c.left.result =
    omega (arith, c.left.ensures, length-map c.args.ahead.now (lexeme c.args.bytes.now c.args.places.now)) in
    subst (λ n. IsAnswer ls c.into_expr.result n) count (subst (λ x. IsAnswer ls x (length ls - length c.expr.new.cursor)) (sym c.into_expr.ensures) (answered ls c.expr.new.cursor c.in-Ok.found read))

pub returns-in-Ok-clause-complete : goal.returns-in-Ok-clause-complete
returns-in-Ok-clause-complete c = λ x count a.
    let ls = lexemes c.args.bytes.now c.args.places.now c.args.ahead.now in
    let read = ap (expr 255 0) (sym c.new-cursor.ensures) ∙ c.in-Ok.ensures.value in
    let same = one_answer ls c.in-Ok.found x c.expr.new.cursor count read a in
    let counted = same.1 in
    (c.into_expr.ensures ∙ same.0, omega (arith, c.left.ensures, length-map c.args.ahead.now (lexeme c.args.bytes.now c.args.places.now)))

pub overflow_sub-ahead : goal.overflow_sub-ahead
overflow_sub-ahead c =
    let bytes = c.args.bytes.now in
    let places = c.args.places.now in
    let ahead = c.args.ahead.now in
    let ls = lexemes bytes places ahead in
    let rest = c.expr.new.cursor in
    let read : expr 255 0 ls ≡ (Err Deep, rest) = stop_read ls c.new-cursor.result rest c.in-Err-Deep.field-0 Deep c.new-cursor.ensures c.in-Err-Deep.ensures.value c.in-Err-Deep.field-0-is fresh_deep in
    let less = read_shorter 255 0 ls (Err Deep) rest read in
    omega (arith, c.left-in-Err-Deep.ensures, length-map ahead (lexeme bytes places))

pub returns-in-Err-Deep-clause-complete : goal.returns-in-Err-Deep-clause-complete
returns-in-Err-Deep-clause-complete c = λ x count a.
    let bytes = c.args.bytes.now in
    let places = c.args.places.now in
    let ahead = c.args.ahead.now in
    let ls = lexemes bytes places ahead in
    let rest = c.expr.new.cursor in
    let read : expr 255 0 ls ≡ (Err Deep, rest) = stop_read ls c.new-cursor.result rest c.in-Err-Deep.field-0 Deep c.new-cursor.ensures c.in-Err-Deep.ensures.value c.in-Err-Deep.field-0-is fresh_deep in
    absurd (no_answer ls Deep x rest count read a)

pub returns-in-Err-Deep-clause-cause : goal.returns-in-Err-Deep-clause-cause
returns-in-Err-Deep-clause-cause c =
    let bytes = c.args.bytes.now in
    let places = c.args.places.now in
    let ahead = c.args.ahead.now in
    let ls = lexemes bytes places ahead in
    let rest = c.expr.new.cursor in
    let read : expr 255 0 ls ≡ (Err Deep, rest) = stop_read ls c.new-cursor.result rest c.in-Err-Deep.field-0 Deep c.new-cursor.ensures c.in-Err-Deep.ensures.value c.in-Err-Deep.field-0-is fresh_deep in
    let end = place_at places (length bytes) in
    let at = length ahead - c.left-in-Err-Deep.result in
    let count : at ≡ length ls - length rest = omega (arith, c.left-in-Err-Deep.ensures, length-map ahead (lexeme bytes places)) in
    deep_fault end ls rest at c.place_of.result read count (place_cut (lexeme bytes places) end ahead c.split_at.result.1.now at c.place_of.result c.split_at.ensures.back c.place_of.ensures)

pub overflow_sub-ahead-in-Err-Wrong : goal.overflow_sub-ahead-in-Err-Wrong
overflow_sub-ahead-in-Err-Wrong c =
    let bytes = c.args.bytes.now in
    let places = c.args.places.now in
    let ahead = c.args.ahead.now in
    let ls = lexemes bytes places ahead in
    let rest = c.expr.new.cursor in
    let read : expr 255 0 ls ≡ (Err Wrong, rest) = stop_read ls c.new-cursor.result rest c.in-Err-Wrong.field-0 Wrong c.new-cursor.ensures c.in-Err-Wrong.ensures.value c.in-Err-Wrong.field-0-is fresh_wrong in
    let less = read_shorter 255 0 ls (Err Wrong) rest read in
    omega (arith, c.left-in-Err-Wrong.ensures, length-map ahead (lexeme bytes places))

pub returns-in-Err-Wrong-clause-complete : goal.returns-in-Err-Wrong-clause-complete
returns-in-Err-Wrong-clause-complete c = λ x count a.
    let bytes = c.args.bytes.now in
    let places = c.args.places.now in
    let ahead = c.args.ahead.now in
    let ls = lexemes bytes places ahead in
    let rest = c.expr.new.cursor in
    let read : expr 255 0 ls ≡ (Err Wrong, rest) = stop_read ls c.new-cursor.result rest c.in-Err-Wrong.field-0 Wrong c.new-cursor.ensures c.in-Err-Wrong.ensures.value c.in-Err-Wrong.field-0-is fresh_wrong in
    absurd (no_answer ls Wrong x rest count read a)

pub returns-in-Err-Wrong-clause-cause : goal.returns-in-Err-Wrong-clause-cause
returns-in-Err-Wrong-clause-cause c =
    let bytes = c.args.bytes.now in
    let places = c.args.places.now in
    let ahead = c.args.ahead.now in
    let ls = lexemes bytes places ahead in
    let rest = c.expr.new.cursor in
    let read : expr 255 0 ls ≡ (Err Wrong, rest) = stop_read ls c.new-cursor.result rest c.in-Err-Wrong.field-0 Wrong c.new-cursor.ensures c.in-Err-Wrong.ensures.value c.in-Err-Wrong.field-0-is fresh_wrong in
    let end = place_at places (length bytes) in
    let at = length ahead - c.left-in-Err-Wrong.result in
    let count : at ≡ length ls - length rest = omega (arith, c.left-in-Err-Wrong.ensures, length-map ahead (lexeme bytes places)) in
    wrong_fault end ls rest at c.wrong_at.result read count
    (wrong_cut (lexeme bytes places) end ahead c.split_at-in-Err-Wrong.result.0.now c.split_at-in-Err-Wrong.result.1.now at c.wrong_at.result c.split_at-in-Err-Wrong.ensures.front c.split_at-in-Err-Wrong.ensures.back c.wrong_at.ensures)
