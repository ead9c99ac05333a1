use Rattle.net_words.specs.Builds.{return}
use Rattle.net_words.specs.Sums.{carry_if}
use Rattle.net_words.proofs.BuildLemmas.{all_left, done}
use Rattle.net_words.proofs.sums.carry_if.Goals as goal

pub returns-then-more-clause-builds : goal.returns-then-more-clause-builds
unfolding carry_if
returns-then-more-clause-builds c = rw c.if-more.true c.carry_from.ensures.builds

pub returns-else-more-clause-builds : goal.returns-else-more-clause-builds
unfolding carry_if
returns-else-more-clause-builds c = rw c.if-more.false (done (λ n. n) c.args.c (all_left (return c.args.c) c.args.net.now))
