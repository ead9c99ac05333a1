-- Tokens of what is left complete those so far, and where what is left is stuck the text is.
use Rattle.std.proofs.Common.{◌≡◌, ℕ, ◌+◌, ◌≤◌, List, ◌++◌, length}
use Rattle.vlog_lex.specs.declared.tokens.Token.{Token}
use Rattle.vlog_lex.specs.declared.piece.Broken.{Broken}
use Rattle.vlog_lex.specs.Tokens.{AreTokens, IsStuckAt, AreWithin}
use Rattle.vlog_lex.proofs.lexer.scan.Given as goal

abbrev pub invariant-pieces : goal.invariant-pieces
invariant-pieces l = record {
  sound : (us : List Token) → AreTokens l.at l.rest us → AreTokens 0 l.bytes (l.tokens.items ++ us);
  stuck : (place : ℕ) (f : Broken) → IsStuckAt l.at l.rest place f → IsStuckAt 0 l.bytes place f;
  within : AreWithin l.at l.tokens.items;
  few : length l.tokens.items ≤ l.at;
  counted : l.at + length l.rest ≡ length l.bytes;
}

abbrev pub decreases-pieces : goal.decreases-pieces
decreases-pieces l = length l.rest
