-- What is left decides whether an attribute ends, and where.
use Rattle.std.proofs.Common.{refl, sym, arith}
use Rattle.vlog_lex.specs.Attributes.{ends}
use Rattle.vlog_lex.proofs.AttributeLemmas.{sound_more, complete_more, none_from}
use Rattle.vlog_lex.proofs.attribute.attribute_len.Goals as goal

pub returns-then-ends-clause-found : goal.returns-then-ends-clause-found
returns-then-ends-clause-found c = c.pieces.invariant.sound 2 (ends (sym c.if-ends.ensures.value) refl)

pub returns-in_default-clause-none : goal.returns-in_default-clause-none
returns-in_default-clause-none c = λ n is.
    let left = c.pieces.invariant.complete n is in
    none_from c.pieces.part c.pieces.rest.now left.0 (sym c.if-ends.ensures.value) c.in_default.ensures.none left.1

pub pieces-preserved : goal.pieces-preserved
pieces-preserved c = record {
  sound = λ m more. sound_more c.pieces.part c.in-Some.next c.pieces.rest.now c.split_at.result.1.now c.args.bytes.now c.pieces.count c.in-Some.len c.in-Some.ensures.found c.split_at.ensures.back c.pieces.invariant.sound m more;
  complete = λ n is. let left = c.pieces.invariant.complete n is in complete_more c.pieces.part c.in-Some.next c.pieces.rest.now c.split_at.result.1.now left.0 c.in-Some.len c.in-Some.ensures.found c.split_at.ensures.back left.1;
  counted = omega arith;
}
