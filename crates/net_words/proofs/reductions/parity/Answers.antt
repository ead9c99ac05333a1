use Rattle.net_words.specs.Words.{parity}
use Rattle.net_words.proofs.reductions.parity.Goals as goal

pub returns-clause-builds : goal.returns-clause-builds
unfolding parity
returns-clause-builds c = c.reduce.ensures.builds
