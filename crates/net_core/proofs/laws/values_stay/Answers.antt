use Rattle.std.proofs.Common.{◌++◌, append_assoc, List, subst}
use Rattle.net_view.specs.View.{Numbered}
use Rattle.net_view.specs.Values.{IsValuation}
use Rattle.net_core.proofs.laws.values_stay.Goals as goal

pub returns : goal.returns
returns c = λ gates more n g has further state found valued.
    has (more ++ further) state found (subst (λ (all : List Numbered). IsValuation all state found) (append_assoc gates more further) valued)
