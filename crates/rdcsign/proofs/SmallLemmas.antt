-- What a flat design says is small.
use Rattle.std.proofs.Common.{◌≡◌, ◌<◌, ◌^◌, ℕ, List, Ok, arith}
use Rattle.design_form.specs.declared.parts.Parts.{Parts}
use Rattle.elab_items.specs.Instances.{Lib}
use Rattle.vlog_elab.specs.Flat.{Gives}
use Rattle.flat_laws.proofs.Small.{are_small}
use Rattle.thin_form.specs.Source.{IsSmall}

pub small : (lib : Lib) (top : List ℕ) (flat : Parts) → Gives lib top (Ok flat) → IsSmall flat
small lib top flat gives tree said = let few = are_small lib top flat tree gives said in omega (arith, few)
