-- No two bits of a design have one printed name. A bit's number is the place of its name among all, so no number is met twice.
--     bit_met ss place marks n           one more number, of a signal that is declared at the place
--     signal_met ss place marks s        the numbers of a signal's bits
--     met_from ss places k marks ts      those of signals, the first of which is declared at the place number k
--     once ss places                     those of all
use Rattle.std.specs.Prelude.{ℕ, ◌+◌, Bool, true, false, if◌then◌else◌, List, [], ◌∷◌, length, replicate, Option, Some, None, Ok, Err, slice_get, slice_index_or, slice_set}
use Rattle.std.specs.Option.{unwrap_or}
use Rattle.rdc_outside.specs.declared.source.Place.{Place}
use Rattle.design_form.specs.declared.signal.Signal.{Signal}
use Rattle.design_form.specs.Numbers.{bits_of, numbers_of, signal_of}
use Rattle.elab_names.specs.declared.fault.ElabFault.TheVariants.{TwiceDeclared}
use Rattle.elab_names.specs.Answers.{Or_fault, ◌>>=◌}
use Rattle.elab_scopes.specs.Threads.{threaded}

-- which numbers were met
abbrev pub Marks : Type 0
Marks = List Bool

abbrev pub name_at : List Signal → ℕ → List ℕ
name_at ss n = unwrap_or (slice_get (bits_of ss) n) []

unfoldable pub bit_met : List Signal → Place → Marks → ℕ → Or_fault Marks
bit_met ss place marks n = if slice_index_or marks n false then Err (TwiceDeclared (name_at ss n) place) else Ok (slice_set marks n true)

-- the numbers of the signal that a name means
unfoldable pub numbers_at : List Signal → Option Signal → List ℕ
numbers_at ss None = []
numbers_at ss (Some s) = numbers_of ss s

unfoldable pub signal_met : List Signal → Place → Marks → Signal → Or_fault Marks
signal_met ss place marks s = threaded (bit_met ss place) marks (numbers_at ss (signal_of ss s.name))

-- where no place is known
abbrev pub nowhere : Place
nowhere = record { file = 0; line = 0; col = 0 }

unfoldable pub met_from : List Signal → List Place → ℕ → Marks → List Signal → Or_fault Marks
met_from ss places k marks [] = Ok marks
met_from ss places k marks (t ∷ ts) = do
  m ← signal_met ss (slice_index_or places k nowhere) marks t
  met_from ss places (k + 1) m ts

abbrev pub once : List Signal → List Place → Or_fault Marks
once ss places = met_from ss places 0 (replicate (length (bits_of ss)) false) ss
