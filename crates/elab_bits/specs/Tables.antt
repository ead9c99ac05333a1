-- The two places that come first among those of a bit.
--     firsts ps                        the first and the second one of some
--     with_place f p                   the same with one place more
--     HoldsFirsts table count ts       a table of these for each of so many bits
--     fault_by name f g                the fault of a bit, by the first places where it is driven and read
use Rattle.std.specs.Prelude.{◌≡◌, ℕ, ◌<◌, if◌then◌else◌, List, [], ◌∷◌, length, get_or, Option, Some, None}
use Rattle.rdc_outside.specs.declared.source.Place.{Place}
use Rattle.elab_names.specs.declared.fault.ElabFault.{ElabFault}
use Rattle.elab_names.specs.declared.fault.ElabFault.TheVariants.{Undriven, TwiceDriven}
use Rattle.elab_bits.specs.declared.touch.Touch.{Touch}
use Rattle.elab_bits.specs.declared.tables.Firsts.{Firsts}
use Rattle.elab_bits.specs.Orders.{is_before, places_at}

abbrev pub no_places : Firsts
no_places = record { least = None; next = None }

-- the first and the second one of some places
unfoldable pub firsts : List Place → Firsts
firsts [] = no_places
firsts (p ∷ []) = record { least = Some p; next = None }
firsts (p ∷ q ∷ ps) = record { least = Some p; next = Some q }

unfoldable pub sooner : Option Place → Place → Place
sooner None p = p
sooner (Some q) p = if is_before p q then p else q

unfoldable pub with_least : Option Place → Option Place → Place → Firsts
with_least None next p = record { least = Some p; next = next }
with_least (Some q) next p = if is_before p q then record { least = Some p; next = Some q } else record { least = Some q; next = Some (sooner next p) }

-- the same with one place more
unfoldable pub with_place : Firsts → Place → Firsts
with_place f p = with_least f.least f.next p

-- a table of these for each of so many bits
pub record HoldsFirsts (table : List Firsts) (count : ℕ) (ts : List Touch) : Type 0 where
  pub long : length table ≡ count
  pub holds : (n : ℕ) → n < count → get_or table n no_places ≡ firsts (places_at n ts)

unfoldable pub fault_if : List ℕ → Option Place → Option Place → Option Place → Option ElabFault
fault_if name least (Some e) read = Some (TwiceDriven name e)
fault_if name (Some d) None read = None
fault_if name None None (Some r) = Some (Undriven name r)
fault_if name None None None = None

-- the fault of a bit, by the first places where it is driven and read
unfoldable pub fault_by : List ℕ → Firsts → Firsts → Option ElabFault
fault_by name f g = fault_if name f.least f.next g.least
