-- A shelf in memory: what it holds, and what each load and each save does.
--     File, ShelfState                          what it holds
--     file_in                                   the file of a name
--     calls_made, is_to_fail                    which call is to fail
--     load_answer, IsOrWantsMemory, shelf_after_load      a load
--     save_fits, save_answer, shelf_after_save            a save
use Rattle.std.specs.Prelude.{◌≡◌, ◌==◌, ◌&&◌, ℕ, ◌+◌, ◌-◌, ◌++◌, Bool, not, List, [], ◌∷◌, length, nat_le, Option, Some, None, is_some, Result, Ok, Err, Vec, String, string_bytes, bytes_eq, if◌then◌else◌, ⊤}
use Rattle.std.specs.Option.{option_or}
use Rattle.std.specs.List.{list_any}
use Rattle.std.specs.declared.alloc.Global.{Global}
use Rattle.rdc_outside.specs.Counts.{counted}
use Rattle.rdc_outside.specs.Shelf.{Files, Calls, Load, Save, no_calls, list_call, list_long_save}
use Rattle.rdc_outside.specs.Pile.{Entry, room_taken}
use Rattle.rdc_outside.specs.declared.faults.LoadFault.{LoadFault}
use Rattle.rdc_outside.specs.declared.faults.LoadFault.TheVariants.{Memory, Absent, TooBig, Failed}
use Rattle.rdc_outside.specs.declared.faults.SaveFault.{SaveFault}
use Rattle.rdc_outside.specs.declared.faults.SaveFault.TheVariants as save

-- a name with the bytes saved under it
pub record File : Type 0 where
  pub name : List ℕ
  pub bytes : List ℕ

-- the file of an entry of a pile
abbrev pub file_of : Entry → File
file_of entry = record { name = entry.name; bytes = entry.bytes }

-- a file that was given as a pair
abbrev pub given_file : String Global × Vec ℕ Global → File
given_file pair = record { name = string_bytes pair.0; bytes = pair.1.items }

-- a shelf in memory
pub record ShelfState : Type 0 where
  -- the files, those saved last at the end
  pub contents : List File
  pub calls : Calls
  -- the numbers, from 1 on, of the calls that are to fail
  pub failing : List ℕ
  -- what saves may still take: each takes one, and the lengths of its name and its bytes
  pub room : ℕ
  pub faults : ℕ
  pub absences : ℕ
  pub excesses : ℕ

-- the bytes of a file, if it has the name
abbrev pub bytes_if : File → Files
bytes_if file name = if bytes_eq file.name name then Some file.bytes else None

-- the bytes of the last file of a name
abbrev pub file_in : List File → Files
file_in [] name = None
file_in (file ∷ later) name = option_or (file_in later name) (bytes_if file name)

-- how many calls were made
abbrev pub calls_made : Calls → ℕ
calls_made calls = length calls.listed + (if is_some calls.long then 1 else 0) + calls.more

-- the next call is to fail
abbrev pub is_to_fail : ShelfState → Bool
is_to_fail shelf = list_any (λ number. number == counted (calls_made shelf.calls)) shelf.failing

-- what a load of the bytes found answers
abbrev pub answer_of : Option (List ℕ) → ℕ → Result (List ℕ) LoadFault
answer_of None most = Err Absent
answer_of (Some bytes) most = if nat_le (length bytes) most then Ok bytes else Err TooBig

-- what the next load answers, want of memory aside
abbrev pub load_answer : ShelfState → List ℕ → ℕ → Result (List ℕ) LoadFault
load_answer shelf name most = if is_to_fail shelf then Err Failed else answer_of (file_in shelf.contents name) most

-- a load answers this, or it wants memory
abbrev pub IsOrWantsMemory : Result (Vec ℕ Global) LoadFault → Result (List ℕ) LoadFault → Type 0
IsOrWantsMemory (Ok bytes) answer = answer ≡ Ok bytes.items
IsOrWantsMemory (Err Memory) answer = ⊤
IsOrWantsMemory (Err fault) answer = answer ≡ Err fault

-- the shelf with one more call
abbrev pub shelf_with_load : ShelfState → List ℕ → ℕ → ShelfState
shelf_with_load shelf name most = record shelf { calls = list_call shelf.calls (Load name most) }

-- the shelf after a load, which changes nothing where it wants memory
abbrev pub shelf_after_load : ShelfState → List ℕ → ℕ → Result (Vec ℕ Global) LoadFault → ShelfState
shelf_after_load shelf name most (Ok _) = shelf_with_load shelf name most
shelf_after_load shelf name most (Err Memory) = shelf
shelf_after_load shelf name most (Err Absent) = record (shelf_with_load shelf name most) { absences = counted shelf.absences }
shelf_after_load shelf name most (Err TooBig) = record (shelf_with_load shelf name most) { excesses = counted shelf.excesses }
shelf_after_load shelf name most (Err Failed) = record (shelf_with_load shelf name most) { faults = counted shelf.faults }

-- there is room for a save
abbrev pub save_fits : ShelfState → List ℕ → List ℕ → Bool
save_fits shelf name bytes = nat_le (room_taken name bytes) shelf.room

-- what the next save answers
abbrev pub save_answer : ShelfState → List ℕ → List ℕ → Result ⊤ SaveFault
save_answer shelf name bytes = if save_fits shelf name bytes && not (is_to_fail shelf) then Ok tt else Err save.Failed

-- the shelf with one more save listed, and less room
abbrev pub shelf_with_save : ShelfState → List ℕ → List ℕ → ShelfState
shelf_with_save shelf name bytes =
    record shelf { calls = list_call shelf.calls (Save name bytes); room = shelf.room - room_taken name bytes }

-- the shelf with one more file
abbrev pub shelf_with_file : ShelfState → List ℕ → List ℕ → ShelfState
shelf_with_file shelf name bytes =
    record shelf { contents = shelf.contents ++ record { name = name; bytes = bytes } ∷ [] }

-- the shelf after a save for which there is room
abbrev pub shelf_after_fitting : ShelfState → List ℕ → List ℕ → ShelfState
shelf_after_fitting shelf name bytes =
    if is_to_fail shelf
    then record (shelf_with_save shelf name bytes) { faults = counted shelf.faults }
    else shelf_with_file (shelf_with_save shelf name bytes) name bytes

-- the shelf after a save
abbrev pub shelf_after_save : ShelfState → List ℕ → List ℕ → ShelfState
shelf_after_save shelf name bytes =
    if save_fits shelf name bytes
    then shelf_after_fitting shelf name bytes
    else record shelf { calls = list_long_save shelf.calls (length name) (length bytes); faults = counted shelf.faults }

-- a shelf of which nothing was asked yet
abbrev pub new_shelf : List File → List ℕ → ℕ → ShelfState
new_shelf files failing room =
    record {
      contents = files;
      calls = no_calls;
      failing = failing;
      room = room;
      faults = 0;
      absences = 0;
      excesses = 0;
    }
