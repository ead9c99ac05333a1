use Rattle.net_words.specs.Words.{any}
use Rattle.net_words.proofs.reductions.any.Goals as goal

pub returns-clause-builds : goal.returns-clause-builds
unfolding any
returns-clause-builds c = c.reduce.ensures.builds
