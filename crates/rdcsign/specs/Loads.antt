-- The loads of a call, and the counts that they raise.
use Rattle.std.specs.Prelude.{ℕ, List, [], ◌∷◌, Option, Result, Ok, Err, Vec, option_map}
use Rattle.std.specs.declared.alloc.Global.{Global}
use Rattle.rdc_outside.specs.Counts.{Rose}
use Rattle.rdc_outside.specs.Shelf.{Call, Calls, list_call}
use Rattle.rdcsign.specs.declared.refusal.Refusal.{Refusal}
use Rattle.rdcsign.specs.Outcome.{Outcome, Usage, Absent, Read, Source, NotYet, Memory, Judged, refused}
use Rattle.rdcsign.specs.Ends.{loads_of, load_unless_memory}

-- the calls and some more
abbrev pub list_calls : Calls → List Call → Calls
list_calls calls [] = calls
list_calls calls (c ∷ cs) = list_calls (list_call calls c) cs

-- the same, where a shelf may tell no calls
abbrev pub with_loads : Option Calls → List Call → Option Calls
with_loads calls made = option_map (λ told. list_calls told made) calls

-- the one load that was made, unless it wanted memory
abbrev pub load_of : List ℕ → Result (Vec ℕ Global) Refusal → List Call
load_of name (Ok bytes) = loads_of (name ∷ [])
load_of name (Err refusal) = load_unless_memory name (refused refusal)

-- a missing file and a failed load are counted
abbrev pub CountsRefusal : Outcome → ℕ → ℕ → ℕ → ℕ → Type 0
CountsRefusal (Absent name) absences absences' faults faults' = Rose absences absences'
CountsRefusal (Read name) absences absences' faults faults' = Rose faults faults'
CountsRefusal (Source details) absences absences' faults faults' = Unit {0}
CountsRefusal Usage absences absences' faults faults' = Unit {0}
CountsRefusal (NotYet name) absences absences' faults faults' = Unit {0}
CountsRefusal Memory absences absences' faults faults' = Unit {0}
CountsRefusal (Judged report crossing) absences absences' faults faults' = Unit {0}
