use Rattle.elab_bits.proofs.IndexLaws.{go_by_index}
use Rattle.elab_bits.proofs.laws.selects_go_by_index.Goals as goal

pub returns : goal.returns
returns c = go_by_index
