use Rattle.net_view.proofs.ValuesLemmas.{settled_values}
use Rattle.net_view.proofs.laws.settled_in_settled_out.Goals as goal

pub returns : goal.returns
returns c = λ gates sources state found net plain all valued. settled_values gates sources state found net plain all valued
