use Rattle.net_words.proofs.WordSteps.{reduced_none, reduced_first}
use Rattle.net_words.proofs.reductions.reduce.Goals as goal

pub returns-in-empty-clause-builds : goal.returns-in-empty-clause-builds
returns-in-empty-clause-builds c = rw (reduced_none c.args.op c.args.none c.args.word.now c.in-empty.len_below) c.put.ensures.builds

pub returns-in-len1-up-clause-builds : goal.returns-in-len1-up-clause-builds
returns-in-len1-up-clause-builds c = rw (reduced_first c.args.op c.args.none c.args.word.now c.first-item.result c.in-len1-up.len_at_least c.first-item.is) c.reduce_from.ensures.builds
