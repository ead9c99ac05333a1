-- What was found is spelled by what stands before the tokens that are left.
use Rattle.std.proofs.Common.{length}
use Rattle.vlog_lex.specs.Tokens.{AreWithin}
use Rattle.vlog_tree.specs.Lexemes.{lexemes}
use Rattle.vlog_parse.specs.Begins.{IsBehind}
use Rattle.vlog_parse.proofs.parser.all.Given as goal

abbrev pub invariant-modules : goal.invariant-modules
invariant-modules l =
    (AreWithin (length l.fn.bytes) l.ahead)
    × (IsBehind (lexemes l.fn.bytes l.fn.places l.fn.tokens) l.found (lexemes l.fn.bytes l.fn.places l.ahead))

abbrev pub decreases-modules : goal.decreases-modules
decreases-modules l = length l.ahead
