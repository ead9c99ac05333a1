-- What completes what is left completes the attribute, and nothing else does.
use Rattle.std.proofs.Common.{◌≡◌, ℕ, ◌+◌, length}
use Rattle.vlog_lex.specs.declared.piece.Part.TheVariants.{BeforeName}
use Rattle.vlog_lex.specs.Attributes.{IsAttributeFrom}
use Rattle.vlog_lex.proofs.attribute.attribute_len.Given as goal

abbrev pub invariant-pieces : goal.invariant-pieces
invariant-pieces l = record {
  sound : (m : ℕ) → IsAttributeFrom l.part l.rest m → IsAttributeFrom BeforeName l.bytes (l.count + m);
  complete : (n : ℕ) → IsAttributeFrom BeforeName l.bytes n → (m : ℕ) × IsAttributeFrom l.part l.rest m;
  counted : l.count + length l.rest ≡ length l.bytes;
}

abbrev pub decreases-pieces : goal.decreases-pieces
decreases-pieces l = length l.rest
