-- What is left decides what was read.
use Rattle.std.proofs.Common.{◌≡◌, ◌+◌, ◌≤◌, ◌++◌, ◌∷◌, [], arith, rules, sym, ap, ◌∙◌, take, vec_len, w32, SFits}
use Rattle.std.proofs.lemmas.Int.{to_z-of_z}
use Rattle.std.proofs.lemmas.Grind.{common_steps}
use Rattle.std.specs.Option.{option_copied}
use Rattle.sat_chain.specs.Text.{literals_of}
use Rattle.sat_chain.specs.Scan.{words_after, prefixed, left_of}
use Rattle.sat_chain.proofs.ListLemmas.{literals_more, literals_stop, literals_end_at, literals_none, words_at, words_over, left_less, spelled_some}
use Rattle.sat_chain.proofs.lists.append_literals.Goals as goal

pub returns-then-is_one-clause-value : goal.returns-then-is_one-clause-value
returns-then-is_one-clause-value c =
    let all : words_after (option_copied c.loop-left.left) ≡ c.first_word.result.0.now ∷ words_after (option_copied c.first_word.result.1) = words_at _ _ c.in-Some.is _ c.first_word.ensures.words in
    sym c.loop-left.invariant.value ∙ literals_end_at c.args.vars c.loop-left.lits.items _ c.first_word.result.0.now c.first_word.result.1 all (sym c.is_one.ensures.value ∙ c.if-is_one.true) _ c.is_none.ensures

pub returns-in_default-literal-clause-value : goal.returns-in_default-literal-clause-value
returns-in_default-literal-clause-value c =
    let all : words_after (option_copied c.loop-left.left) ≡ c.first_word.result.0.now ∷ words_after (option_copied c.first_word.result.1) = words_at _ _ c.in-Some.is _ c.first_word.ensures.words in
    sym c.loop-left.invariant.value ∙ ap (λ ws. prefixed c.loop-left.lits.items (literals_of c.args.vars ws)) all
    ∙ literals_stop c.args.vars c.loop-left.lits.items c.first_word.result.0.now (words_after (option_copied c.first_word.result.1)) (sym c.is_one.ensures.value ∙ c.if-is_one.false) (sym c.literal.ensures.value ∙ c.in_default-literal.is)

pub loop-left-preserved : goal.loop-left-preserved
loop-left-preserved c =
    let all : words_after (option_copied c.loop-left.left) ≡ c.first_word.result.0.now ∷ words_after (option_copied c.first_word.result.1) = words_at _ _ c.in-Some.is _ c.first_word.ensures.words in
    let fits : SFits w32 c.in-Some-literal.lit = search rules in
    let pushed : c.push_reserved.new.self.items ≡ c.loop-left.lits.items ++ c.in-Some-literal.lit ∷ [] = simp to_z-of_z at c.push_reserved.ensures.items in
    record {
      value =
          ap (λ ls. prefixed ls (literals_of c.args.vars (words_after (option_copied c.first_word.result.1)))) pushed
          ∙ literals_more c.args.vars c.loop-left.lits.items c.first_word.result.0.now (words_after (option_copied c.first_word.result.1)) c.in-Some-literal.lit (sym c.is_one.ensures.value ∙ c.if-is_one.false) (sym c.literal.ensures.value ∙ c.in-Some-literal.is)
          ∙ ap (λ ws. prefixed c.loop-left.lits.items (literals_of c.args.vars ws)) (sym all)
          ∙ c.loop-left.invariant.value;
      bytes =
          let less : left_of (option_copied c.first_word.result.1) + 2 ≤ left_of (option_copied c.loop-left.left) =
          left_less _ _ _ _ c.in-Some.is (spelled_some _ _ _ c.in-Some-literal.is c.literal.ensures.spelled) c.first_word.ensures.len in
          omega (arith, c.loop-left.invariant.bytes);
      longer = omega arith;
      front = ap (take (vec_len c.args.lits.now)) pushed ∙ grind (arith, common_steps, c.loop-left.invariant.front);
      capacity = c.push_reserved.ensures.capacity ∙ c.loop-left.invariant.capacity;
    }

pub returns-clause-value : goal.returns-clause-value
returns-clause-value c =
    sym c.loop-left.invariant.value ∙ ap (λ ws. prefixed c.loop-left.lits.items (literals_of c.args.vars ws)) (words_over _ c.in_default.not-Some) ∙ literals_none c.args.vars c.loop-left.lits.items
