-- What is left decides what was read.
use Rattle.std.proofs.Common.{◌≡◌, ◌+◌, ◌≤◌, ◌∷◌, arith, sym, ap, ◌∙◌}
use Rattle.std.specs.Option.{option_copied}
use Rattle.sat_chain.specs.Text.{chain_of}
use Rattle.sat_chain.specs.Scan.{words_after, numbers_behind, left_of}
use Rattle.sat_chain.proofs.ListLemmas.{chain_more, chain_stop, chain_end, chain_none, words_at, words_over, left_less, spelled_some}
use Rattle.sat_chain.proofs.lists.read_chain.Goals as goal

pub returns-then-is_one-clause-value : goal.returns-then-is_one-clause-value
returns-then-is_one-clause-value c =
    let all : words_after (option_copied c.loop-left.left) ≡ c.first_word.result.0.now ∷ words_after (option_copied c.first_word.result.1) = words_at _ _ c.in-Some.is _ c.first_word.ensures.words in
    sym c.loop-left.invariant.value ∙ ap (λ ws. numbers_behind c.loop-left.chain.items (chain_of ws)) all
    ∙ chain_end c.loop-left.chain.items c.first_word.result.0.now (words_after (option_copied c.first_word.result.1)) (sym c.is_one.ensures.value ∙ c.if-is_one.true)

pub returns-in_default-number-clause-value : goal.returns-in_default-number-clause-value
returns-in_default-number-clause-value c =
    let all : words_after (option_copied c.loop-left.left) ≡ c.first_word.result.0.now ∷ words_after (option_copied c.first_word.result.1) = words_at _ _ c.in-Some.is _ c.first_word.ensures.words in
    sym c.loop-left.invariant.value ∙ ap (λ ws. numbers_behind c.loop-left.chain.items (chain_of ws)) all
    ∙ chain_stop c.loop-left.chain.items c.first_word.result.0.now (words_after (option_copied c.first_word.result.1)) (sym c.is_one.ensures.value ∙ c.if-is_one.false) (sym c.number.ensures.value ∙ c.in_default-number.is)

pub loop-left-preserved : goal.loop-left-preserved
loop-left-preserved c =
    let all : words_after (option_copied c.loop-left.left) ≡ c.first_word.result.0.now ∷ words_after (option_copied c.first_word.result.1) = words_at _ _ c.in-Some.is _ c.first_word.ensures.words in
    record {
      value =
          ap (λ ns. numbers_behind ns (chain_of (words_after (option_copied c.first_word.result.1)))) c.push_reserved.ensures.items
          ∙ chain_more c.loop-left.chain.items c.first_word.result.0.now (words_after (option_copied c.first_word.result.1)) c.in-Some-number.n (sym c.is_one.ensures.value ∙ c.if-is_one.false) (sym c.number.ensures.value ∙ c.in-Some-number.is)
          ∙ ap (λ ws. numbers_behind c.loop-left.chain.items (chain_of ws)) (sym all)
          ∙ c.loop-left.invariant.value;
      bytes =
          let less : left_of (option_copied c.first_word.result.1) + 2 ≤ left_of (option_copied c.loop-left.left) =
          left_less _ _ _ _ c.in-Some.is (spelled_some _ _ _ c.in-Some-number.is c.number.ensures.spelled) c.first_word.ensures.len in
          omega (arith, c.loop-left.invariant.bytes);
      capacity = c.push_reserved.ensures.capacity ∙ c.loop-left.invariant.capacity;
    }

pub returns-clause-value : goal.returns-clause-value
returns-clause-value c =
    sym c.loop-left.invariant.value ∙ ap (λ ws. numbers_behind c.loop-left.chain.items (chain_of ws)) (words_over _ c.in_default.not-Some) ∙ chain_none c.loop-left.chain.items
