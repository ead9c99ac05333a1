-- How an expansion comes about, turn by turn.
--     Loads, IsLoaded, IsFaultOf, IsListed     what loading one file does
--     IsCopied                                 plain bytes that are put out
--     IsTurn                                   a step and the load that it asks for
use Rattle.std.specs.Prelude.{◌≡◌, ℕ, ◌+◌, ◌<◌, ◌≤◌, ◌⊎◌, List, [], ◌∷◌, ◌++◌, length, Option, Some, None, Result, Ok, Err, IfSome, MatchResult, IsSomeAnd, ⊤}
use Rattle.rdc_outside.specs.Shelf.{Files, Calls}
use Rattle.rdc_outside.specs.declared.faults.LoadFault.{LoadFault}
use Rattle.rdc_outside.specs.declared.faults.LoadFault.TheVariants as load
use Rattle.vlog_items.specs.Items.{Item, items_of_file}
use Rattle.vlog_pre.specs.declared.fault.PreFault.{PreFault}
use Rattle.vlog_pre.specs.declared.fault.PreFault.TheVariants.{Memory, Absent, Read, TooLong, UnknownDirective, Unbalanced, BadMacroUse, MacroLoop, TooDeep}
use Rattle.vlog_pre.specs.Known.{State}
use Rattle.vlog_pre.specs.Expansion.{Expands, with_file, first_place}
use Rattle.vlog_pre.specs.Answer.{HasPlace, calls_with}

-- why a file can't be loaded
abbrev pub IsLoadFault : Option Files → List ℕ → PreFault → Type 0
IsLoadFault told name Memory = ⊤
IsLoadFault told name (Absent missing) = (missing ≡ name) × IfSome told (λ files. files name ≡ None)
IsLoadFault told name (Read failed) = failed ≡ name
IsLoadFault told name (TooLong long) = (long ≡ name) × IfSome told (λ files. IsSomeAnd (files name) (λ bytes. 16777216 < length bytes))
IsLoadFault told name (UnknownDirective place) = ⊥
IsLoadFault told name (Unbalanced place) = ⊥
IsLoadFault told name (BadMacroUse place) = ⊥
IsLoadFault told name (MacroLoop looped place) = ⊥
IsLoadFault told name (TooDeep place) = ⊥

-- a file is loaded, and stands in front of what follows
pub record Loads (told : Option Files) (name : List ℕ) (within : List (List ℕ)) (old : State) (items : List Item) (new : State) (rest : List Item) : Type 0 where
  pub bytes : List ℕ
  pub found : IfSome told (λ files. files name ≡ Some bytes)
  pub fits : length bytes ≤ 16777216
  pub known : new ≡ with_file old name
  pub left : rest ≡ items_of_file within (first_place old) bytes ++ items

-- what loading one file does
abbrev pub IsLoaded : Option Files → List ℕ → List (List ℕ) → State → List Item → Result ⊤ PreFault → State → List Item → Type 0
IsLoaded told name within old items (Ok _) new rest = Loads told name within old items new rest
IsLoaded told name within old items (Err fault) new rest = IsLoadFault told name fault

-- one load more, which want of memory may leave out
abbrev pub IsListed : Option Calls → List ℕ → Result ⊤ PreFault → Option Calls → Type 0
IsListed calls name (Ok _) later = later ≡ calls_with calls (name ∷ [])
IsListed calls name (Err fault) later = (later ≡ calls_with calls (name ∷ [])) ⊎ ((fault ≡ Memory) × (later ≡ calls))

-- a turn: what is expanded from here on completes to what was expanded before, or the text is refused;
-- `names` are those of the files that were loaded
pub record IsTurn (told : Option Files) (calls : Option Calls) (old : State) (items : List Item) (result : Result ⊤ PreFault) (new : State) (names : List (List ℕ)) (rest : List Item) (later : Option Calls) : Type 0 where
  pub more : List (List ℕ)
  pub listed : later ≡ calls_with calls more
  pub known : MatchResult result (λ _. new.files ≡ old.files ++ more) (λ fault. HasPlace fault → names ≡ old.files ++ more)
  pub completes : MatchResult result
      (λ _. (loaded : List (List ℕ)) (answer : Result State PreFault) → Expands told new rest loaded answer → Expands told old items (more ++ loaded) answer)
      (λ fault. Expands told old items more (Err fault))

-- the fault of a load, or want of memory
abbrev pub IsFaultOf : List ℕ → LoadFault → PreFault → Type 0
IsFaultOf name load.Memory fault = fault ≡ Memory
IsFaultOf name load.Absent fault = (fault ≡ Memory) ⊎ (fault ≡ Absent name)
IsFaultOf name load.TooBig fault = (fault ≡ Memory) ⊎ (fault ≡ TooLong name)
IsFaultOf name load.Failed fault = (fault ≡ Memory) ⊎ (fault ≡ Read name)

-- plain bytes are put out: what is expanded from here on completes to what was expanded before
pub record IsCopied (old : State) (items : List Item) (new : State) (rest : List Item) : Type 0 where
  pub completes : (told : Option Files) (loaded : List (List ℕ)) (answer : Result State PreFault) → Expands told new rest loaded answer → Expands told old items loaded answer
  pub shorter : length rest ≤ length items
  pub count : new.count ≡ old.count
  pub files : new.files ≡ old.files
  pub even : length new.places + length old.bytes ≡ length old.places + length new.bytes
  pub small : length old.bytes < 16777216 → length new.bytes < 16777216
