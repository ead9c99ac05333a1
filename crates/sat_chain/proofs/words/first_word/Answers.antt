-- The first space ends the first word.
use Rattle.std.proofs.Common.{arith}
use Rattle.sat_chain.proofs.TextLemmas.{words_front, words_whole}
use Rattle.sat_chain.proofs.words.first_word.Goals as goal

pub returns-then-b-eq32-clause-words : goal.returns-then-b-eq32-clause-words
returns-then-b-eq32-clause-words c =
    rw (c.split_at.ensures.front, c.split_at-then-b-eq32.ensures.back) (words_front c.args.text.now c.loop-i.i (omega arith) c.loop-i.invariant (omega arith))

pub returns-clause-words : goal.returns-clause-words
returns-clause-words c = words_whole c.args.text.now (λ k lt is. c.loop-i.invariant k (omega arith) is)
