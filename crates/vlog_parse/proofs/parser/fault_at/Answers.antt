use Rattle.std.proofs.Common.{length, subst}
use Rattle.vlog_tree.specs.Lexemes.{lexeme, lexemes, place_at}
use Rattle.vlog_parse.specs.Begins.{IsStop}
use Rattle.vlog_parse.proofs.ParserLemmas.{wrong_named, deep_named}
use Rattle.vlog_parse.proofs.parser.fault_at.Goals as goal

pub returns-in-Wrong : goal.returns-in-Wrong
returns-in-Wrong c =
    let bytes = c.args.bytes.now in
    let places = c.args.places.now in
    let stops = subst (IsStop (lexemes bytes places c.args.tokens.now)) c.in-Wrong.is c.requires.stops in
    wrong_named (lexeme bytes places) (place_at places (length bytes)) c.args.tokens.now c.split_at.result.0.now c.split_at.result.1.now c.in-Wrong.left c.wrong_at.result c.same_fault.result
    stops c.split_at.ensures.front c.split_at.ensures.back c.wrong_at.ensures c.same_fault.ensures

pub returns-in-Deep : goal.returns-in-Deep
returns-in-Deep c =
    let bytes = c.args.bytes.now in
    let places = c.args.places.now in
    let stops = subst (IsStop (lexemes bytes places c.args.tokens.now)) c.in-Deep.is c.requires.stops in
    deep_named (lexeme bytes places) (place_at places (length bytes)) c.args.tokens.now c.split_at-in-Deep.result.1.now c.in-Deep.left c.place_of.result
    stops c.split_at-in-Deep.ensures.back c.place_of.ensures
