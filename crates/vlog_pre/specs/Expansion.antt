-- The expansion of files: by cases on what stands next, over what is left as one list of items.
--     taken, passed_over       a byte of a part that is taken, or not
--     closed, given            the end of a file, and a file that was given
--     next known items         what one step does
--     first_state, first_items     what is known, and left, before anything is read
--     Expands told known items loaded answer     the text or the first fault, and the files loaded on the way
use Rattle.std.specs.Prelude.{◌≡◌, ℕ, ◌+◌, ◌-◌, ◌<◌, ◌≤◌, Bool, true, false, ◌&&◌, ◌==◌, if◌then◌else◌, List, [], ◌∷◌, ◌++◌, map, length, Option, Some, None, Result, Ok, Err, IfSome, IsSomeAnd}
use Rattle.rdc_outside.specs.Shelf.{Files}
use Rattle.rdc_outside.specs.declared.source.Place.{Place}
use Rattle.vlog_items.specs.declared.modes.Mode.TheVariants.{Plain}
use Rattle.vlog_items.specs.Modes.{mode_after, is_plain}
use Rattle.vlog_items.specs.Items.{Item, Byte, End, Given, items_of_file}
use Rattle.vlog_pre.specs.declared.fault.PreFault.{PreFault}
use Rattle.vlog_pre.specs.declared.fault.PreFault.TheVariants.{Memory, Absent, Read, TooLong, Unbalanced}
use Rattle.vlog_pre.specs.declared.levels.Level.{Level}
use Rattle.vlog_pre.specs.declared.levels.Level.TheVariants.{File, Conditional}
use Rattle.vlog_pre.specs.Kinds.{kind_of}
use Rattle.vlog_pre.specs.Levels.{is_taken, innermost, outer}
use Rattle.vlog_pre.specs.Meanings.{no_meanings}
use Rattle.vlog_pre.specs.Known.{State, Step, finished, refused, goes_on, loads, put, entered}
use Rattle.vlog_pre.specs.Readings.{word_of, after_word}
use Rattle.vlog_pre.specs.Directives.{directed, passed_by}

-- a byte of a part that is taken
abbrev pub taken : State → ℕ → Place → List (List ℕ) → List Item → Step
taken known b place within items =
    if b == 96 && is_plain known.mode
    then directed (kind_of (word_of items)) known place within (word_of items) (after_word items)
    else put known b place items

-- a byte of a part that is not taken
abbrev pub passed_over : State → ℕ → Place → List Item → Step
passed_over known b place items =
    if b == 96 && is_plain known.skipped
    then passed_by (kind_of (word_of items)) known place (after_word items)
    else goes_on (record known { skipped = mode_after known.skipped b }) items

-- a file that was given stands next
abbrev pub is_given : List Item → Bool
is_given [] = false
is_given (Byte b place within ∷ items) = false
is_given (End place ∷ items) = false
is_given (Given name ∷ items) = true

-- a file is closed; between two files that were given stands a line feed
abbrev pub left : State → Place → List Item → Step
left known place items = if is_given items then put known 10 place items else goes_on known items

-- the end of a file, in which no conditional may be open
abbrev pub closed : Option Level → State → Place → List Item → Step
closed None known place items = goes_on known items
closed (Some File) known place items = left (record known { levels = outer known.levels; depth = known.depth - 1; end = place }) place items
closed (Some (Conditional opening)) known place items = refused (Unbalanced opening.place)

-- a file that was given
abbrev pub given : State → List ℕ → List Item → Step
given known name items = if known.count + 1 == 1048576 then refused (TooLong name) else loads name [] (entered known 1) items

-- what one step does
abbrev pub next : State → List Item → Step
next known [] = finished
next known (Byte b place within ∷ items) = if is_taken known.levels then taken known b place within items else passed_over known b place items
next known (End place ∷ items) = closed (innermost known.levels) known place items
next known (Given name ∷ items) = given known name items

-- what is known before anything is read
abbrev pub first_state : State
first_state =
    record {
      macros = no_meanings;
      levels = [];
      mode = Plain;
      skipped = Plain;
      count = 0;
      depth = 0;
      bytes = [];
      places = [];
      files = [];
      end = record { file = 0; line = 1; col = 1 };
    }

-- what is left before anything is read
abbrev pub first_items : List (List ℕ) → List Item
first_items names = map Given names

-- one file more is known by name
abbrev pub with_file : State → List ℕ → State
with_file known name = record known { files = known.files ++ name ∷ [] }

-- the first place of the next file
abbrev pub first_place : State → Place
first_place known = record { file = length known.files; line = 1; col = 1 }

-- the expansion of what is left: each file loaded on the way, and what is known at the end or the first fault;
-- where a shelf tells no files, a load may have given any bytes, or none
pub data Expands (told : Option Files) : State → List Item → List (List ℕ) → Result State PreFault → Type 0 where
  -- nothing is left
  ends : {known : State} {items : List Item} {loaded : List (List ℕ)} {answer : Result State PreFault} → next known items ≡ finished → loaded ≡ [] → answer ≡ Ok known → Expands told known items loaded answer
  -- the text is refused
  stops : {known : State} {items : List Item} {loaded : List (List ℕ)} {answer : Result State PreFault} (fault : PreFault) → next known items ≡ refused fault → loaded ≡ [] → answer ≡ Err fault → Expands told known items loaded answer
  -- a step, and the expansion of the rest
  goes : {known : State} {items : List Item} {loaded : List (List ℕ)} {answer : Result State PreFault} (after : State) (rest : List Item) → next known items ≡ goes_on after rest → Expands told after rest loaded answer → Expands told known items loaded answer
  -- a file, which stands in front of what follows
  enters : {known : State} {items : List Item} {loaded : List (List ℕ)} {answer : Result State PreFault} (name : List ℕ) (within : List (List ℕ)) (after : State) (rest : List Item) (bytes : List ℕ) (later : List (List ℕ)) → next known items ≡ loads name within after rest
      → IfSome told (λ files. files name ≡ Some bytes) → length bytes ≤ 16777216 → Expands told (with_file after name) (items_of_file within (first_place after) bytes ++ rest) later answer → loaded ≡ name ∷ later → Expands told known items loaded answer
  -- a file that is not there
  misses : {known : State} {items : List Item} {loaded : List (List ℕ)} {answer : Result State PreFault} (name : List ℕ) (within : List (List ℕ)) (after : State) (rest : List Item) → next known items ≡ loads name within after rest
      → IfSome told (λ files. files name ≡ None) → loaded ≡ name ∷ [] → answer ≡ Err (Absent name) → Expands told known items loaded answer
  -- a file that is too long
  exceeds : {known : State} {items : List Item} {loaded : List (List ℕ)} {answer : Result State PreFault} (name : List ℕ) (within : List (List ℕ)) (after : State) (rest : List Item) → next known items ≡ loads name within after rest
      → IfSome told (λ files. IsSomeAnd (files name) (λ bytes. 16777216 < length bytes)) → loaded ≡ name ∷ [] → answer ≡ Err (TooLong name) → Expands told known items loaded answer
  -- a file that can't be read
  fails : {known : State} {items : List Item} {loaded : List (List ℕ)} {answer : Result State PreFault} (name : List ℕ) (within : List (List ℕ)) (after : State) (rest : List Item) → next known items ≡ loads name within after rest
      → loaded ≡ name ∷ [] → answer ≡ Err (Read name) → Expands told known items loaded answer
  -- memory is wanted
  wants : {known : State} {items : List Item} {loaded : List (List ℕ)} {answer : Result State PreFault} → loaded ≡ [] → answer ≡ Err Memory → Expands told known items loaded answer
  -- memory is wanted behind a load
  wants_more : {known : State} {items : List Item} {loaded : List (List ℕ)} {answer : Result State PreFault} (name : List ℕ) (within : List (List ℕ)) (after : State) (rest : List Item) → next known items ≡ loads name within after rest
      → loaded ≡ name ∷ [] → answer ≡ Err Memory → Expands told known items loaded answer
