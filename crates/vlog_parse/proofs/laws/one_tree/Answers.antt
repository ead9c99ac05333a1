use Rattle.vlog_parse.proofs.OneTreeLemmas.{one_tree}
use Rattle.vlog_parse.proofs.Given.{laws}
use Rattle.vlog_parse.proofs.laws.one_tree.Goals as goal

pub returns : goal.returns
returns c = λ ls ms ns one two. one_tree laws ls ms ns one two
