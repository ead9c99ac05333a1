-- A piece more keeps what is left the judge of the whole, and a text that is stuck is a fault.
use Rattle.std.specs.Prelude.{slice_get}
use Rattle.std.proofs.Common.{◌+◌, ℕ, length, refl, sym, ap, ◌∙◌, arith, inr, false-eqb}
use Rattle.std.proofs.lemmas.Bool.{eqb-true}
use Rattle.std.proofs.lemmas.List.{nil_from_length}
use Rattle.vlog_lex.specs.Tokens.{here}
use Rattle.vlog_lex.proofs.TokenLemmas.{tokens_more, stuck_more, tokens_end, within_more, few_more}
use Rattle.vlog_lex.proofs.lexer.scan.Goals as goal

pub returns-in-Err-clause-err : goal.returns-in-Err-clause-err
returns-in-Err-clause-err c = inr (record {
  at = c.pieces.at;
  cause = c.in-Err.broken;
  place = c.place_of-place.result;
  stuck = c.pieces.invariant.stuck _ _ (here (λ ended. let none = ap length ended in absurd (omega (arith, false-eqb _ 0 c.pieces-test.ensures))) c.in-Err.ensures.err refl);
  place_is = ap (λ (n : ℕ). slice_get c.args.places.now (c.pieces.at + n)) (sym c.offset.ensures) ∙ c.place_of-place.ensures;
  fault_is = c.fault_at.ensures;
})

pub pieces-preserved : goal.pieces-preserved
pieces-preserved c = record {
  sound = tokens_more c.args.bytes.now c.pieces.rest.now c.split_at.result.1.now c.pieces.at c.len-len.result c.pieces.tokens.items c.push.new.tokens.items c.in-Ok.piece c.in-Ok.ensures.ok c.len-len.ensures c.split_at.ensures.back c.in-Ok-push.ensures c.pieces.invariant.sound;
  stuck = stuck_more c.args.bytes.now c.pieces.rest.now c.split_at.result.1.now c.pieces.at c.len-len.result c.in-Ok.piece c.in-Ok.ensures.ok c.len-len.ensures c.split_at.ensures.back c.pieces.invariant.stuck;
  within = within_more c.pieces.at c.len-len.result c.in-Ok.piece c.pieces.tokens.items c.push.new.tokens.items c.len-len.ensures c.in-Ok.ensures.within.0 c.in-Ok-push.ensures c.pieces.invariant.within;
  few = few_more c.pieces.at c.len-len.result c.in-Ok.piece c.pieces.tokens.items c.push.new.tokens.items c.len-len.ensures c.in-Ok.ensures.within.0 c.in-Ok-push.ensures c.pieces.invariant.few;
  counted = omega arith;
}

pub returns-clause-ok : goal.returns-clause-ok
returns-clause-ok c = tokens_end c.args.bytes.now c.pieces.rest.now c.pieces.at c.pieces.tokens.items (nil_from_length _ (eqb-true _ _ (sym c.pieces-test.ensures))) c.pieces.invariant.sound
