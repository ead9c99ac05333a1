-- What is known between two steps, and what a step does.
use Rattle.std.specs.Prelude.{◌≡◌, ℕ, ◌+◌, ◌*◌, ◌<◌, ◌≤◌, ◌⊎◌, nat_le, ⊤, Result, Ok, Err, string_bytes, if◌then◌else◌, List, [], ◌∷◌, ◌++◌, length, slice_get, unwrap_or}
use Rattle.rdc_outside.specs.declared.source.Place.{Place}
use Rattle.vlog_items.specs.Items.{Item}
use Rattle.vlog_items.specs.Stack.{Reading}
use Rattle.vlog_items.specs.declared.modes.Mode.{Mode}
use Rattle.vlog_items.specs.Modes.{mode_after}
use Rattle.vlog_pre.specs.declared.fault.PreFault.{PreFault}
use Rattle.vlog_pre.specs.declared.fault.PreFault.TheVariants.{Memory, Absent, Read, TooLong, UnknownDirective, Unbalanced, BadMacroUse, MacroLoop, TooDeep}
use Rattle.vlog_pre.specs.declared.known.Known.{Known}
use Rattle.vlog_pre.specs.declared.outcome.Outcome.{Outcome}
use Rattle.vlog_pre.specs.declared.outcome.Outcome.TheVariants.{GoesOn, Loads}
use Rattle.vlog_pre.specs.declared.levels.Level.{Level}
use Rattle.vlog_pre.specs.declared.levels.Level.TheVariants.{File}
use Rattle.vlog_pre.specs.Meanings.{Meanings, meanings_of}

-- what is known between two steps
pub record State : Type 0 where
  pub macros : Meanings
  -- the open files and conditionals, the innermost first
  pub levels : List Level
  -- what the text so far is in the middle of
  pub mode : Mode
  -- the same of a part that is not taken
  pub skipped : Mode
  -- how many uses and files were met, and how many files are open
  pub count : ℕ
  pub depth : ℕ
  -- the text so far, and the place of each byte
  pub bytes : List ℕ
  pub places : List Place
  -- the names of the files so far
  pub files : List (List ℕ)
  -- the place after the last byte of the file that ended last
  pub end : Place

-- what the code knows
abbrev pub state_of : Known → State
state_of known =
    record {
      macros = meanings_of known.macros;
      levels = known.levels;
      mode = known.mode;
      skipped = known.skipped;
      count = known.count;
      depth = known.depth;
      bytes = known.bytes;
      places = known.places;
      files = known.files;
      end = known.end;
    }

-- the name of a file by its number
abbrev pub name_at : List (List ℕ) → ℕ → List ℕ
name_at files number = unwrap_or (slice_get files number) []

-- what a step does
pub data Step : Type 0 where
  -- nothing was left
  finished : Step
  -- the text is refused
  refused : PreFault → Step
  -- this is known then, and this is left
  goes_on : State → List Item → Step
  -- a file is to be loaded, whose bytes stand within these macros' replacements
  loads : (name : List ℕ) (within : List (List ℕ)) → State → List Item → Step

-- one byte more of the text
abbrev pub with_byte : State → ℕ → Place → State
with_byte known b place =
    record known { bytes = known.bytes ++ b ∷ []; places = known.places ++ place ∷ []; mode = mode_after known.mode b }

-- a byte is put out; the text reaches its limit in the file of the byte's place
abbrev pub put : State → ℕ → Place → List Item → Step
put known b place items =
    if nat_le 16777215 (length known.bytes) then refused (TooLong (name_at known.files place.file)) else goes_on (with_byte known b place) items

-- one use more
abbrev pub counted : State → State
counted known = record known { count = known.count + 1 }

-- a file is open, of such an include depth
abbrev pub entered : State → ℕ → State
entered known depth = record known { count = known.count + 1; depth = depth; levels = File ∷ known.levels }

-- a function answers what the step does: known and left is what it leaves behind
abbrev pub IsStep : Result Outcome PreFault → State → Reading → Step → Type 0
IsStep (Ok GoesOn) known left step = step ≡ goes_on known left.items
IsStep (Ok (Loads name)) known left step = step ≡ loads (string_bytes name) left.names known left.items
IsStep (Err fault) known left step = (fault ≡ Memory) ⊎ (step ≡ refused fault)

-- how many items more a file to be loaded may bring
abbrev pub room_for : Outcome → ℕ
room_for GoesOn = 0
room_for (Loads name) = 16777218

-- how many files are to be loaded
abbrev pub files_of : Outcome → ℕ
files_of GoesOn = 0
files_of (Loads name) = 1

-- after a step the end is nearer: there are fewer items, or one use or file more was counted
pub record IsNearer (outcome : Outcome) (old : State) (items : List Item) (new : State) (rest : List Item) : Type 0 where
  pub falls : room_for outcome + length rest + 16777300 * old.count ≤ length items + 16777300 * new.count
  pub counts : old.count + files_of outcome ≤ new.count
  pub bounded : old.count < 1048576 → new.count < 1048576
  pub files : new.files ≡ old.files
  -- each byte more has a place more
  pub even : length new.places + length old.bytes ≡ length old.places + length new.bytes
  -- the text stays below its limit
  pub small : length old.bytes < 16777216 → length new.bytes < 16777216

-- a fault that no load gives
abbrev pub IsOwn : PreFault → Type 0
IsOwn Memory = ⊤
IsOwn (Absent name) = ⊥
IsOwn (Read name) = ⊥
IsOwn (TooLong name) = ⊤
IsOwn (UnknownDirective place) = ⊤
IsOwn (Unbalanced place) = ⊤
IsOwn (BadMacroUse place) = ⊤
IsOwn (MacroLoop name place) = ⊤
IsOwn (TooDeep place) = ⊤

-- the end is nearer, or the fault is none of a load
abbrev pub Proceeds : Result Outcome PreFault → State → List Item → State → List Item → Type 0
Proceeds (Ok outcome) old items new rest = IsNearer outcome old items new rest
Proceeds (Err fault) old items new rest = IsOwn fault
