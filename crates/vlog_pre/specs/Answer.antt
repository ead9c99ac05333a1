-- What a whole call answers.
--     calls_with                  the calls and some loads more
--     IsText, IsExpansion         the text that is the expansion of files
--     HasPlace, IsStop            where an expansion stops, and the names of the files so far
--     Answers, IsAnswer           the text or the fault, and the loads
--     CountsFault                 the faults that a shelf counts
--     IsSameText, OneText         one list of files has at most one text
--     NothingFails, OneAnswer     where nothing fails, it has at most one answer
use Rattle.std.specs.Prelude.{◌≡◌, ℕ, List, [], ◌∷◌, ◌++◌, map, Option, Some, Result, Ok, Err, option_map, string_bytes, ⊤}
use Rattle.rdc_outside.specs.Counts.{Rose}
use Rattle.rdc_outside.specs.Shelf.{Files, Calls, Load, list_call}
use Rattle.rdc_outside.specs.declared.source.Text.{Text}
use Rattle.vlog_pre.specs.declared.fault.PreFault.{PreFault}
use Rattle.vlog_pre.specs.declared.fault.Stopped.{Stopped}
use Rattle.vlog_pre.specs.declared.fault.PreFault.TheVariants.{Memory, Absent, Read, TooLong, UnknownDirective, Unbalanced, BadMacroUse, MacroLoop, TooDeep}
use Rattle.vlog_pre.specs.Known.{State}
use Rattle.vlog_pre.specs.Expansion.{Expands, first_state, first_items}

-- the calls and the loads of these names, each of 16,777,216 bytes at most
abbrev pub calls_with : Option Calls → List (List ℕ) → Option Calls
calls_with calls [] = calls
calls_with calls (name ∷ names) = calls_with (option_map (λ told. list_call told (Load name 16777216)) calls) names

-- the text is what is known at the end, with one place more for its end
pub record IsText (known : State) (text : Text) : Type 0 where
  pub bytes : text.bytes ≡ known.bytes
  pub places : text.places ≡ known.places ++ known.end ∷ []
  pub files : map string_bytes text.files ≡ known.files

-- the files have an expansion, and the text is it
pub record IsExpansion (told : Option Files) (names : List (List ℕ)) (loaded : List (List ℕ)) (text : Text) : Type 0 where
  pub known : State
  pub expands : Expands told first_state (first_items names) loaded (Ok known)
  pub is_text : IsText known text

-- the fault has a place; one without is want of memory, or names its file
abbrev pub HasPlace : PreFault → Type 0
HasPlace Memory = ⊥
HasPlace (Absent name) = ⊥
HasPlace (Read name) = ⊥
HasPlace (TooLong name) = ⊥
HasPlace (UnknownDirective place) = ⊤
HasPlace (Unbalanced place) = ⊤
HasPlace (BadMacroUse place) = ⊤
HasPlace (MacroLoop name place) = ⊤
HasPlace (TooDeep place) = ⊤

-- the expansion stops at the fault; where that has a place, each file that was loaded is named by its number, the n-th load's by n
pub record IsStop (told : Option Files) (names : List (List ℕ)) (loaded : List (List ℕ)) (stop : Stopped) : Type 0 where
  pub expands : Expands told first_state (first_items names) loaded (Err stop.fault)
  pub files : HasPlace stop.fault → map string_bytes stop.files ≡ loaded

-- the text is the expansion, or the fault is the first in the order of the text; want of memory may come anywhere
abbrev pub Answers : Option Files → List (List ℕ) → List (List ℕ) → Result Text Stopped → Type 0
Answers told names loaded (Ok text) = IsExpansion told names loaded text
Answers told names loaded (Err stop) = IsStop told names loaded stop

-- the answer, and the loads that are listed, in the order in which files are met
pub record IsAnswer (told : Option Files) (names : List (List ℕ)) (calls later : Option Calls) (result : Result Text Stopped) : Type 0 where
  pub loaded : List (List ℕ)
  pub answers : Answers told names loaded result
  pub listed : later ≡ calls_with calls loaded

-- a missing file and a failed load are counted by the shelf
abbrev pub CountsFault : PreFault → ℕ → ℕ → ℕ → ℕ → Type 0
CountsFault Memory absences absences' faults faults' = ⊤
CountsFault (Absent name) absences absences' faults faults' = Rose absences absences'
CountsFault (Read name) absences absences' faults faults' = Rose faults faults'
CountsFault (TooLong name) absences absences' faults faults' = ⊤
CountsFault (UnknownDirective place) absences absences' faults faults' = ⊤
CountsFault (Unbalanced place) absences absences' faults faults' = ⊤
CountsFault (BadMacroUse place) absences absences' faults faults' = ⊤
CountsFault (MacroLoop name place) absences absences' faults faults' = ⊤
CountsFault (TooDeep place) absences absences' faults faults' = ⊤

-- two texts are the same: the same bytes at the same places, of files with the same names
pub record IsSameText (text other : Text) : Type 0 where
  pub bytes : text.bytes ≡ other.bytes
  pub places : text.places ≡ other.places
  pub files : map string_bytes text.files ≡ map string_bytes other.files

-- one list of files has at most one text, and one list of files loaded on the way
abbrev pub OneText : Type 0
OneText = (files : Files) (names loaded others : List (List ℕ)) (text other : Text) → IsExpansion (Some files) names loaded text → IsExpansion (Some files) names others other → IsSameText text other × (loaded ≡ others)

-- it isn't the answer that a file can't be read, nor that memory is wanted
pub record NothingFails (answer : Result State PreFault) : Type 0 where
  pub reads : (name : List ℕ) → answer ≡ Err (Read name) → ⊥
  pub suffices : answer ≡ Err Memory → ⊥

-- where nothing fails, one list of files has at most one answer: a text, or the first fault
abbrev pub OneAnswer : Type 0
OneAnswer = (files : Files) (names loaded others : List (List ℕ)) (answer other : Result State PreFault) → NothingFails answer → NothingFails other → Expands (Some files) first_state (first_items names) loaded answer → Expands (Some files) first_state (first_items names) others other → (answer ≡ other) × (loaded ≡ others)
