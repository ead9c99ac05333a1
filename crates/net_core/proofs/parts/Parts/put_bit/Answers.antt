use Rattle.std.proofs.Common.{List, ap, subst}
use Rattle.net_view.specs.FlopNet.{Bit, IsBitAt}
use Rattle.net_core.specs.Net.{Net}
use Rattle.net_core.proofs.parts.Parts.put_bit.Goals as goal

pub push-requires : goal.push-requires
push-requires c = λ b bit is. c.requires b bit (subst (λ (l : List Bit). IsBitAt l b bit) (ap (λ (net : Net). net.bits) c.self.view_is) is)
