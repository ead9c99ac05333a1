use Rattle.std.proofs.Common.{length}
use Rattle.net_words.proofs.BuildLemmas.{done}
use Rattle.net_exprs.proofs.BitSteps.{fill_top, not_empty}
use Rattle.net_exprs.proofs.extensions.fill.Goals as goal

pub returns-then-not-is_empty-clause-builds : goal.returns-then-not-is_empty-clause-builds
returns-then-not-is_empty-clause-builds c =
    done (λ n. n) c.index-word-word.result
    (fill_top c.args.net.now c.args.signed c.args.word.now c.index-word-word.result c.if-signed.true (not_empty (length c.args.word.now) c.is_empty.result c.is_empty.ensures c.if-not-is_empty.true) c.index-word-word.is)
