-- What a shelf of files tells, and what its loads and saves answer.
--     Files, Call, Calls                   what may be told: the files, and the calls made
--     no_calls, list_call, list_long_save  the calls, and one more
--     LoadAnswers                          what a load answers over told files
--     KeepsOthers, SaveAnswers             what a save does to told files
--     calls_after_load, FilesAfterSave, CallsAfterSave     the same where a shelf may tell nothing
use Rattle.std.specs.Prelude.{◌≡◌, ◌<◌, ◌⊎◌, ℕ, ◌++◌, List, [], ◌∷◌, length, Option, Some, None, Result, Ok, Err, Vec, IsSomeAnd, is_some, if◌then◌else◌, option_map, ⊤}
use Rattle.std.specs.declared.alloc.Global.{Global}
use Rattle.rdc_outside.specs.Counts.{counted}
use Rattle.rdc_outside.specs.declared.faults.LoadFault.{LoadFault}
use Rattle.rdc_outside.specs.declared.faults.LoadFault.TheVariants.{Memory, Absent, TooBig, Failed}
use Rattle.rdc_outside.specs.declared.faults.SaveFault.{SaveFault}

-- told files: from names to bytes
abbrev pub Files : Type 0
Files = List ℕ → Option (List ℕ)

-- what a shelf was asked for
pub data Call : Type 0 where
  -- to load the named file, if it has at most so many bytes
  Load : (name : List ℕ) (most : ℕ) → Call
  -- to save bytes under a name
  Save : (name bytes : List ℕ) → Call

-- the calls made, in order; of the first save that is too long to be listed the two lengths stand alone,
-- and the calls after it are only counted
pub record Calls : Type 0 where
  pub listed : List Call
  pub long : Option (ℕ × ℕ)
  pub more : ℕ

-- no calls yet
abbrev pub no_calls : Calls
no_calls = record { listed = []; long = None; more = 0 }

-- the calls and one more, which is only counted where a long save stands
abbrev pub list_call : Calls → Call → Calls
list_call calls call =
    if is_some calls.long then record calls { more = counted calls.more } else record calls { listed = calls.listed ++ call ∷ [] }

-- the calls and a save of which the lengths of its name and its bytes are listed alone
abbrev pub list_long_save : Calls → ℕ → ℕ → Calls
list_long_save calls name bytes =
    if is_some calls.long then record calls { more = counted calls.more } else record calls { long = Some (name, bytes) }

-- what a load of at most so many bytes answers, over told files
abbrev pub LoadAnswers : Files → List ℕ → ℕ → Result (Vec ℕ Global) LoadFault → Type 0
LoadAnswers files name most (Ok bytes) = files name ≡ Some bytes.items
LoadAnswers files name most (Err Absent) = files name ≡ None
LoadAnswers files name most (Err TooBig) = IsSomeAnd (files name) (λ bytes. most < length bytes)
LoadAnswers files name most (Err Failed) = ⊤
LoadAnswers files name most (Err Memory) = ⊤

-- the calls after a load; one that wanted memory is not listed
abbrev pub calls_after_load : Option Calls → List ℕ → ℕ → Result (Vec ℕ Global) LoadFault → Option Calls
calls_after_load calls name most (Err Memory) = calls
calls_after_load calls name most result = option_map (λ told. list_call told (Load name most)) calls

-- every other file is as it was
abbrev pub KeepsOthers : Files → Files → List ℕ → Type 0
KeepsOthers old new name = (other : List ℕ) → ¬ (other ≡ name) → new other ≡ old other

-- after Ok the name has the bytes; after a failure it may have any, or none
abbrev pub SaveAnswers : Files → Files → List ℕ → List ℕ → Result ⊤ SaveFault → Type 0
SaveAnswers old new name bytes (Ok _) = (new name ≡ Some bytes) × KeepsOthers old new name
SaveAnswers old new name bytes (Err _) = KeepsOthers old new name

-- the same, where a shelf may tell no files; told files stay told
abbrev pub FilesAfterSave : Option Files → Option Files → List ℕ → List ℕ → Result ⊤ SaveFault → Type 0
FilesAfterSave None new name bytes result = new ≡ None
FilesAfterSave (Some old) new name bytes result = IsSomeAnd new (λ told. SaveAnswers old told name bytes result)

-- a save is listed with its bytes; one that fails may be listed by its lengths alone
abbrev pub CallsAfterSave : Option Calls → Option Calls → List ℕ → List ℕ → Result ⊤ SaveFault → Type 0
CallsAfterSave old new name bytes (Ok _) = new ≡ option_map (λ told. list_call told (Save name bytes)) old
CallsAfterSave old new name bytes (Err _) =
    (new ≡ option_map (λ told. list_call told (Save name bytes)) old)
    ⊎ (new ≡ option_map (λ told. list_long_save told (length name) (length bytes)) old)
