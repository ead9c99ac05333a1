-- What a source is, as code says it.
use Rattle.std.specs.Prelude.{◌≡◌, ℕ, List, slice_get, Some}
use Rattle.net_view.specs.declared.flop_net.SrcKind.TheVariants.{Port, BoxOut}
use Rattle.net_view.specs.declared.flop_net.FlopOf.{FlopOf}
use Rattle.net_view.specs.FlopNet.{Kind, IsFlopAt}
use Rattle.cons_bind.specs.declared.sources.Sort.{Sort}
use Rattle.cons_bind.specs.declared.sources.Sort.TheVariants.{Input, Register, Foreign}

-- source s is of the sort
abbrev pub IsOfSort : List Kind → Sort → ℕ → Type 0
IsOfSort kinds Input s = slice_get kinds s ≡ Some Port
IsOfSort kinds Register s = (f : FlopOf ℕ) × IsFlopAt kinds s f
IsOfSort kinds Foreign s = slice_get kinds s ≡ Some BoxOut
