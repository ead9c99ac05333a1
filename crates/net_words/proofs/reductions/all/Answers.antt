use Rattle.net_words.specs.Words.{all}
use Rattle.net_words.proofs.reductions.all.Goals as goal

pub returns-clause-builds : goal.returns-clause-builds
unfolding all
returns-clause-builds c = c.reduce.ensures.builds
