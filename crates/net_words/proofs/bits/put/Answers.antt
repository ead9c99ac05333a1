use Rattle.net_words.proofs.BuildLemmas.{put_answers}
use Rattle.net_words.proofs.bits.put.Goals as goal

pub returns-clause-builds : goal.returns-clause-builds
returns-clause-builds c = put_answers c.args.gate c.args.net.now c.add.new.self c.add.result c.add.ensures.node c.add.ensures.gates c.add.ensures.unchanged c.add.ensures.full
