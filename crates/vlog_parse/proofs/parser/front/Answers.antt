use Rattle.std.proofs.Common.{◌-◌, ◌<◌, ◌≤◌, length, Ok, sym, subst, arith}
use Rattle.std.proofs.lemmas.List.{length-map}
use Rattle.vlog_tree.specs.Lexemes.{lexeme, lexemes}
use Rattle.vlog_parse.specs.Begins.{StopsWrong, IsStop, stop_of}
use Rattle.vlog_parse.proofs.CutLemmas.{next_shorter}
use Rattle.vlog_parse.proofs.ParserLemmas.{chunk_of, more_arm, whole_arm, stop_arm}
use Rattle.vlog_parse.proofs.parser.front.Goals as goal

pub overflow_sub-count : goal.overflow_sub-count
overflow_sub-count c =
    let less = next_shorter (lexemes c.args.bytes.now c.args.places.now c.args.ahead.now) in
    omega (arith, c.left_from_module-behind.ensures, length-map c.args.ahead.now (lexeme c.args.bytes.now c.args.places.now))

pub returns-then-left-behind-clause-cause : goal.returns-then-left-behind-clause-cause
returns-then-left-behind-clause-cause c =
    let f = lexeme c.args.bytes.now c.args.places.now in
    let ahead = c.args.ahead.now in
    let behind = c.left_from_module-behind.result in
    let mid = c.module_of-read.new.cursor in
    let part = chunk_of f ahead c.split_at.result.0.now behind c.new-cursor.result mid (Ok c.in-Ok.found) c.requires.some c.left_from_module-behind.ensures c.split_at.ensures.front c.new-cursor.ensures c.in-Ok.ensures in
    let some = c.if-left-behind.true in
    let more : behind < length ahead - (length ahead - behind - c.left.result) = omega (arith, c.saturating_sub.ensures) in
    subst (λ k. StopsWrong (lexemes c.args.bytes.now c.args.places.now ahead) (length ahead - k)) (sym c.saturating_sub.ensures)
    (more_arm f ahead behind (length ahead - behind) mid c.left.result c.in-Ok.found part c.left.ensures more)

pub returns-else-left-behind-clause-value : goal.returns-else-left-behind-clause-value
returns-else-left-behind-clause-value c =
    let f = lexeme c.args.bytes.now c.args.places.now in
    let ahead = c.args.ahead.now in
    let behind = c.left_from_module-behind.result in
    let mid = c.module_of-read.new.cursor in
    let part = chunk_of f ahead c.split_at.result.0.now behind c.new-cursor.result mid (Ok c.in-Ok.found) c.requires.some c.left_from_module-behind.ensures c.split_at.ensures.front c.new-cursor.ensures c.in-Ok.ensures in
    let none = c.if-left-behind.false in
    let whole : length ahead - (length ahead - behind - c.left.result) ≤ behind = omega (arith, c.saturating_sub.ensures) in
    whole_arm f ahead behind (length ahead - behind) mid c.left.result c.in-Ok.found part c.left.ensures whole

pub returns-in-Err-clause-cause : goal.returns-in-Err-clause-cause
returns-in-Err-clause-cause c =
    let f = lexeme c.args.bytes.now c.args.places.now in
    let ahead = c.args.ahead.now in
    let behind = c.left_from_module-behind.result in
    let ls = lexemes c.args.bytes.now c.args.places.now ahead in
    let stops = stop_arm f ahead c.split_at.result.0.now behind c.new-cursor.result c.module_of-read.new.cursor c.in-Err.why c.left.result c.requires.some c.left_from_module-behind.ensures c.split_at.ensures.front c.new-cursor.ensures c.in-Err.ensures c.left.ensures in
    subst (IsStop ls) (sym c.stop_at.ensures) (subst (λ k. IsStop ls (stop_of c.in-Err.why (length ahead - k))) (sym c.saturating_sub.ensures) stops)
