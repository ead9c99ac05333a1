-- Faults of the bits of a design: one that is driven twice, and one that is read and not driven.
--     fault_of name drives reads       of a bit, by the places where it is driven and read, in their order
--     judged names drives reads        of the first bit that has one, in the order of their numbers
use Rattle.std.specs.Prelude.{ℕ, ◌+◌, List, [], ◌∷◌, Option, Some, None, Ok, Err}
use Rattle.rdc_outside.specs.declared.source.Place.{Place}
use Rattle.elab_names.specs.declared.fault.ElabFault.{ElabFault}
use Rattle.elab_names.specs.declared.fault.ElabFault.TheVariants.{Undriven, TwiceDriven}
use Rattle.elab_names.specs.Answers.{Or_fault}
use Rattle.elab_bits.specs.declared.touch.Touch.{Touch}
use Rattle.elab_bits.specs.Orders.{places_at}

-- of a bit: the second driver, or else the first read
unfoldable pub fault_of : List ℕ → List Place → List Place → Option ElabFault
fault_of name (d ∷ e ∷ drives) reads = Some (TwiceDriven name e)
fault_of name (d ∷ []) reads = None
fault_of name [] (r ∷ reads) = Some (Undriven name r)
fault_of name [] [] = None

-- a fault, or what the rest says
unfoldable pub or_else : Option ElabFault → Or_fault (Unit {0}) → Or_fault (Unit {0})
or_else (Some fault) rest = Err fault
or_else None rest = rest

-- of the bits from number k up, which have these names
unfoldable pub judged_from : ℕ → List (List ℕ) → List Touch → List Touch → Or_fault (Unit {0})
judged_from k [] drives reads = Ok tt
judged_from k (name ∷ names) drives reads = or_else (fault_of name (places_at k drives) (places_at k reads)) (judged_from (k + 1) names drives reads)

abbrev pub judged : List (List ℕ) → List Touch → List Touch → Or_fault (Unit {0})
judged names drives reads = judged_from 0 names drives reads
