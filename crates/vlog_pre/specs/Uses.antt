-- How a macro is used: its arguments, and its replacement.
--     turn_of, arguments_from    the arguments up to the `)`, and what follows
--     put_for, replaced_from     the text with the arguments put in
--     used                       a name that is no directive's
use Rattle.std.specs.Prelude.{ℕ, ◌+◌, ◌-◌, Bool, ◌&&◌, ◌||◌, ◌==◌, if◌then◌else◌, nat_le, false, List, [], ◌∷◌, ◌++◌, length, drop, Option, Some, None, unwrap_or}
use Rattle.std.specs.List.{list_any}
use Rattle.std.specs.Str.{bytes_eq}
use Rattle.rdc_outside.specs.declared.source.Place.{Place}
use Rattle.vlog_items.specs.declared.classes.Class.TheVariants.{NameByte, Blank}
use Rattle.vlog_items.specs.declared.modes.Mode.{Mode}
use Rattle.vlog_items.specs.declared.modes.Mode.TheVariants.{Plain}
use Rattle.vlog_items.specs.Bytes.{is_in}
use Rattle.vlog_items.specs.Modes.{mode_after, is_plain}
use Rattle.vlog_items.specs.Items.{Item, Byte, End, Given, after_run, items_of_use}
use Rattle.vlog_pre.specs.declared.fault.PreFault.TheVariants.{TooLong, UnknownDirective, BadMacroUse, MacroLoop}
use Rattle.vlog_pre.specs.declared.macros.Macro.{Macro}
use Rattle.vlog_pre.specs.declared.arguments.ArgumentTurn.{ArgumentTurn}
use Rattle.vlog_pre.specs.declared.arguments.ArgumentTurn.TheVariants.{Splits, Finishes, Goes}
use Rattle.vlog_pre.specs.Readings.{begins_with}
use Rattle.vlog_pre.specs.Known.{State, Step, refused, goes_on, name_at, counted}

-- what a byte does in a list of arguments; only outside brackets, comments, strings and escaped names does one end
unfoldable pub argument_turn_of : Mode → ℕ → ℕ → ArgumentTurn
argument_turn_of mode depth b =
    if is_plain mode && depth == 0 && b == 44 then Splits
    else (if is_plain mode && depth == 0 && b == 41 then Finishes else Goes)

-- an opening bracket of any kind
unfoldable pub is_opening : ℕ → Bool
is_opening b = b == 40 || b == 91 || b == 123

-- a closing bracket of any kind
unfoldable pub is_closing : ℕ → Bool
is_closing b = b == 41 || b == 93 || b == 125

-- how many brackets are open after one byte more
unfoldable pub depth_after : Mode → ℕ → ℕ → ℕ
depth_after mode depth b =
    if is_plain mode && is_opening b then depth + 1
    else (if is_plain mode && is_closing b then depth - 1 else depth)

-- the arguments, of which these and the first bytes of one were read, and what follows their `)`
abbrev pub arguments_from : Mode → ℕ → List (List ℕ) → List ℕ → List Item → Option (List (List ℕ) × List Item)
arguments_from mode depth arguments argument [] = None
arguments_from mode depth arguments argument (Byte b place within ∷ items) =
    elim (argument_turn_of mode depth b) [
      | Splits ↦ arguments_from Plain 0 (arguments ++ argument ∷ []) [] items
      | Finishes ↦ Some (arguments ++ argument ∷ [], items)
      | Goes ↦ arguments_from (mode_after mode b) (depth_after mode depth b) arguments (argument ++ b ∷ []) items
    ]
arguments_from mode depth arguments argument (End place ∷ items) = None
arguments_from mode depth arguments argument (Given file ∷ items) = None

-- the arguments of a use whose name was read
abbrev pub arguments_of : List Item → Option (List (List ℕ) × List Item)
arguments_of items =
    let rest = after_run (is_in Blank) items in
    if begins_with 40 rest then arguments_from Plain 0 [] [] (drop 1 rest) else None

-- the argument of a parameter; of two parameters with one name the first counts
abbrev pub argument_of : List (List ℕ) → List (List ℕ) → List ℕ → Option (List ℕ)
argument_of [] arguments word = None
argument_of (parameter ∷ parameters) [] word = None
argument_of (parameter ∷ parameters) (argument ∷ arguments) word =
    if bytes_eq word parameter then Some argument else argument_of parameters arguments word

-- what stands for a word: the argument of a parameter, unless a backtick stands directly before it
abbrev pub put_for : List (List ℕ) → List (List ℕ) → Bool → List ℕ → List ℕ
put_for parameters arguments ticked word = if ticked then word else unwrap_or (argument_of parameters arguments word) word

-- the rest of a text, with the arguments put in; a word of letters, digits, `_` and `$` was begun
abbrev pub replaced_from : List (List ℕ) → List (List ℕ) → Mode → Bool → List ℕ → List ℕ → List ℕ
replaced_from parameters arguments mode ticked word [] = put_for parameters arguments ticked word
replaced_from parameters arguments mode ticked word (b ∷ bs) =
    if is_plain mode && is_in NameByte b
    then replaced_from parameters arguments (mode_after mode b) ticked (word ++ b ∷ []) bs
    else put_for parameters arguments ticked word ++ (b ∷ replaced_from parameters arguments (mode_after mode b) (b == 96) [] bs)

-- the replacement stands in front of what follows; it reaches its limit in the file of the use's place
abbrev pub replaced_by : State → Place → List (List ℕ) → List ℕ → List ℕ → List Item → Step
replaced_by known place within name bytes items =
    if nat_le 16777216 (length bytes)
    then refused (TooLong (name_at known.files place.file))
    else goes_on known (items_of_use (name ∷ within) place bytes ++ items)

-- a macro with parameters is given its arguments
abbrev pub with_arguments : State → Place → List (List ℕ) → List ℕ → Macro → Option (List (List ℕ) × List Item) → Step
with_arguments known place within name macro None = refused (BadMacroUse place)
with_arguments known place within name macro (Some read) =
    if length read.0 == length macro.parameters
    then replaced_by known place within name (replaced_from macro.parameters read.0 Plain false [] macro.text) read.1
    else refused (BadMacroUse place)

-- a macro is replaced
abbrev pub replaced : State → Place → List (List ℕ) → List ℕ → Macro → List Item → Step
replaced known place within name macro items =
    if length macro.parameters == 0
    then replaced_by known place within name macro.text items
    else with_arguments known place within name macro (arguments_of items)

-- a macro is used: the use is counted, and must not stand within a replacement of the same macro
abbrev pub applied : State → Place → List (List ℕ) → List ℕ → Macro → List Item → Step
applied known place within name macro items =
    if known.count + 1 == 1048576 then refused (TooLong (name_at known.files place.file))
    else (if list_any (bytes_eq name) within then refused (MacroLoop name place)
    else replaced (counted known) place within name macro items)

-- a name that is no directive's is a macro's
abbrev pub used : State → Place → List (List ℕ) → List ℕ → Option Macro → List Item → Step
used known place within name None items = refused (UnknownDirective place)
used known place within name (Some macro) items = applied known place within name macro items
