use Rattle.elab_bits.proofs.IndexLaws.{keeps_members}
use Rattle.elab_bits.proofs.laws.order_keeps_members.Goals as goal

pub returns : goal.returns
returns c = keeps_members
