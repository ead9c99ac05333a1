-- Each answer by what was tested.
use Rattle.std.proofs.Common.{◌≡◌, arith, sym, ◌∙◌, length, false}
use Rattle.sat_chain.specs.Answer.{all_known, IsResult}
use Rattle.sat_chain.specs.Store.{cut}
use Rattle.sat_chain.specs.Marks.{at}
use Rattle.sat_chain.proofs.StoreLemmas.{length-cut}
use Rattle.sat_chain.proofs.JudgeLemmas.{some_and, known_is, seen_empty, seen_added}
use Rattle.sat_chain.proofs.judge.judge.Goals as goal

pub overflow_sub-count : goal.overflow_sub-count
overflow_sub-count c = let many = length-cut (length c.args.lits.now) c.args.bounds.now c.args.lits.now c.requires.places in omega arith

pub returns-then-not-knows_all-clause-value : goal.returns-then-not-knows_all-clause-value
returns-then-not-knows_all-clause-value c = λ yes. (let is : all_known (cut c.args.bounds.now c.args.lits.now) c.args.chain.now ≡ false = known_is _ c.args.bounds.now c.args.lits.now c.args.chain.now _ c.requires.places c.knows_all.ensures ∙ c.if-not-knows_all.true in cc)

pub unite-requires-clause-known : goal.unite-requires-clause-known
unite-requires-clause-known c = known_is _ c.args.bounds.now c.args.lits.now c.args.chain.now _ c.requires.places c.knows_all.ensures ∙ c.if-not-knows_all.false

pub returns-in-Err-clause-value : goal.returns-in-Err-clause-value
returns-in-Err-clause-value c = (known_is _ c.args.bounds.now c.args.lits.now c.args.chain.now _ c.requires.places c.knows_all.ensures ∙ c.if-not-knows_all.false, c.in-Err.ensures.0)

pub returns-then-not-ascends-clause-value : goal.returns-then-not-ascends-clause-value
returns-then-not-ascends-clause-value c = (
  known_is _ c.args.bounds.now c.args.lits.now c.args.chain.now _ c.requires.places c.knows_all.ensures ∙ c.if-not-knows_all.false,
  some_and _ (at c.unite.new.marks) (λ u. IsResult c.args.literals.now u → ⊥) c.in-Ok.ensures.0 (λ r. (let a = r.0 in let b = sym c.ascends.ensures ∙ c.if-not-ascends.true in cc)),
)

pub returns-in-Some-clause-value : goal.returns-in-Some-clause-value
returns-in-Some-clause-value c = (
  known_is _ c.args.bounds.now c.args.lits.now c.args.chain.now _ c.requires.places c.knows_all.ensures ∙ c.if-not-knows_all.false,
  some_and _ (at c.unite.new.marks) (λ u. IsResult c.args.literals.now u → ⊥) c.in-Ok.ensures.0 (λ r. c.in-Some.ensures.0 r.1),
)

pub returns-then-is_empty-clause-value : goal.returns-then-is_empty-clause-value
returns-then-is_empty-clause-value c = (
  known_is _ c.args.bounds.now c.args.lits.now c.args.chain.now _ c.requires.places c.knows_all.ensures ∙ c.if-not-knows_all.false,
  some_and _ (at c.unite.new.marks) (IsResult c.args.literals.now) c.in-Ok.ensures.0 (sym c.ascends.ensures ∙ c.if-not-ascends.false, c.in_default.ensures.0),
  seen_empty c.args.literals.now _ c.is_empty.ensures c.if-is_empty.true,
)

pub returns-else-is_empty-clause-value : goal.returns-else-is_empty-clause-value
returns-else-is_empty-clause-value c = (
  known_is _ c.args.bounds.now c.args.lits.now c.args.chain.now _ c.requires.places c.knows_all.ensures ∙ c.if-not-knows_all.false,
  some_and _ (at c.unite.new.marks) (IsResult c.args.literals.now) c.in-Ok.ensures.0 (sym c.ascends.ensures ∙ c.if-not-ascends.false, c.in_default.ensures.0),
  seen_added c.args.literals.now _ c.is_empty.ensures c.if-is_empty.false,
)

pub forget_all-requires-clause-known : goal.forget_all-requires-clause-known
forget_all-requires-clause-known c = known_is _ c.args.bounds.now c.args.lits.now c.args.chain.now _ c.requires.places c.knows_all.ensures ∙ c.if-not-knows_all.false

pub forget_all-requires-then-not-ascends-clause-known : goal.forget_all-requires-then-not-ascends-clause-known
forget_all-requires-then-not-ascends-clause-known c = known_is _ c.args.bounds.now c.args.lits.now c.args.chain.now _ c.requires.places c.knows_all.ensures ∙ c.if-not-knows_all.false

pub forget_all-requires-in-Some-clause-known : goal.forget_all-requires-in-Some-clause-known
forget_all-requires-in-Some-clause-known c = known_is _ c.args.bounds.now c.args.lits.now c.args.chain.now _ c.requires.places c.knows_all.ensures ∙ c.if-not-knows_all.false
