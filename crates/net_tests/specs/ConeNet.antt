-- A small net for the tests: three sources out of order, and a gate of each kind.
use Rattle.std.specs.Prelude.{true, false, List, [], ◌∷◌}
use Rattle.net_view.specs.declared.gate.Gate.TheVariants.{Const, Source, Not, And, Or, Xor, Pick, Lift}
use Rattle.net_view.specs.View.{Numbered}

-- node 0 is source 2, node 1 source 0, node 2 source 1
abbrev pub small_gates : List Numbered
small_gates =
    Source 2 ∷ Source 0 ∷ Source 1 ∷ Not 0 ∷ And 3 1 ∷ Const true ∷ Or 4 4 ∷ Xor 6 2 ∷ Pick 2 5 3 ∷ Lift 1 3 false ∷ []
