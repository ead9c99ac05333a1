-- What each directive does.
use Rattle.std.specs.Prelude.{ℕ, ◌+◌, Bool, true, false, not, ◌&&◌, ◌==◌, if◌then◌else◌, nat_le, List, [], drop, Option, Some, None, is_some}
use Rattle.rdc_outside.specs.declared.source.Place.{Place}
use Rattle.vlog_items.specs.declared.classes.Class.TheVariants.{InLine}
use Rattle.vlog_items.specs.declared.modes.Mode.TheVariants.{Plain}
use Rattle.vlog_items.specs.Bytes.{is_in}
use Rattle.vlog_items.specs.Items.{Item, after_run}
use Rattle.vlog_pre.specs.declared.fault.PreFault.TheVariants.{TooLong, Unbalanced, BadMacroUse, TooDeep}
use Rattle.vlog_pre.specs.declared.macros.Macro.{Macro}
use Rattle.vlog_pre.specs.declared.levels.Level.{Level}
use Rattle.vlog_pre.specs.declared.kinds.Branch.{Branch}
use Rattle.vlog_pre.specs.declared.kinds.Branch.TheVariants.{Ifdef, Ifndef, Elsif, Else, Endif}
use Rattle.vlog_pre.specs.declared.kinds.Kind.{Kind}
use Rattle.vlog_pre.specs.declared.kinds.Kind.TheVariants.{Define, Undef, Include, Condition, WithLine, Alone, Other}
use Rattle.vlog_pre.specs.declared.parameters.Reached.TheVariants.{BeforeName}
use Rattle.vlog_pre.specs.Kinds.{kind_of, is_free}
use Rattle.vlog_pre.specs.Levels.{outer, is_open, may_go_on, with_opening, with_part}
use Rattle.vlog_pre.specs.Meanings.{with_meaning}
use Rattle.vlog_pre.specs.Known.{State, Step, refused, goes_on, loads, name_at, entered}
use Rattle.vlog_pre.specs.Readings.{word_of, after_word, after_blanks, is_name, begins_with, quoted_of, after_quoted, has_string}
use Rattle.vlog_pre.specs.Macros.{parameters_from, text_from}
use Rattle.vlog_pre.specs.Uses.{used}

-- a name has this meaning from now on
abbrev pub with_macro : State → List ℕ → Option Macro → State
with_macro known name meaning = record known { macros = with_meaning known.macros name meaning }

-- the text of a macro is read, and the macro defined
abbrev pub with_text : State → List ℕ → List (List ℕ) → List Item → Step
with_text known name parameters items =
    let read = text_from Plain false [] (after_blanks items) in
    goes_on (with_macro known name (Some (record { parameters = parameters; text = read.0 }))) read.1

-- the same after a list of parameters
abbrev pub with_list : State → Place → List ℕ → Option (List (List ℕ) × List Item) → Step
with_list known place name None = refused (BadMacroUse place)
with_list known place name (Some read) = with_text known name read.0 read.1

-- a name that was read is defined; a list of its parameters touches it
abbrev pub named : State → Place → List ℕ → List Item → Step
named known place name items =
    if begins_with 40 items then with_list known place name (parameters_from BeforeName [] [] (drop 1 items)) else with_text known name [] items

-- `define`: the name is no directive's
abbrev pub defined : State → Place → List Item → Step
defined known place items =
    let word = word_of (after_blanks items) in
    if is_name word && is_free (kind_of word) then named known place word (after_word (after_blanks items)) else refused (BadMacroUse place)

-- `undef`
abbrev pub forgotten : State → Place → List Item → Step
forgotten known place items =
    let word = word_of (after_blanks items) in
    if is_name word then goes_on (with_macro known word None) (after_word (after_blanks items)) else refused (BadMacroUse place)

-- a file is to be opened one level deeper
abbrev pub opened : State → Place → List (List ℕ) → List ℕ → List Item → Step
opened known place within name items =
    if nat_le 32 known.depth then refused (TooDeep place)
    else (if known.count + 1 == 1048576 then refused (TooLong (name_at known.files place.file))
    else loads name within (entered known (known.depth + 1)) items)

-- `include`
abbrev pub included : State → Place → List (List ℕ) → List Item → Step
included known place within items =
    let rest = after_blanks items in
    if has_string rest then opened known place within (quoted_of rest) (drop 1 (after_quoted rest)) else refused (BadMacroUse place)

-- the conditionals are these from now on; a part that is not taken begins with nothing open
abbrev pub with_levels : State → List Level → State
with_levels known levels = record known { levels = levels; skipped = Plain }

-- `ifdef` and `ifndef`: whether the name shall be a macro's
abbrev pub begun : State → Place → Bool → List Item → Step
begun known place wanted items =
    let word = word_of (after_blanks items) in
    if is_name word
    then goes_on (with_levels known (with_opening known.levels place (if wanted then is_some (known.macros word) else not (is_some (known.macros word))))) (after_word (after_blanks items))
    else refused (BadMacroUse place)

-- `elsif`
abbrev pub tested : State → Place → List Item → Step
tested known place items =
    let word = word_of (after_blanks items) in
    if not (may_go_on known.levels) then refused (Unbalanced place)
    else (if is_name word
    then goes_on (with_levels known (with_part known.levels (is_some (known.macros word)) false)) (after_word (after_blanks items))
    else refused (BadMacroUse place))

-- a directive of a conditional
abbrev pub conditional : Branch → State → Place → List Item → Step
conditional Ifdef known place items = begun known place true items
conditional Ifndef known place items = begun known place false items
conditional Elsif known place items = tested known place items
conditional Else known place items =
    if may_go_on known.levels then goes_on (with_levels known (with_part known.levels true true)) items else refused (Unbalanced place)
conditional Endif known place items =
    if is_open known.levels then goes_on (with_levels known (outer known.levels)) items else refused (Unbalanced place)

-- a directive, or a macro's name
abbrev pub directed : Kind → State → Place → List (List ℕ) → List ℕ → List Item → Step
directed Define known place within name items = defined known place items
directed Undef known place within name items = forgotten known place items
directed Include known place within name items = included known place within items
directed (Condition branch) known place within name items = conditional branch known place items
directed WithLine known place within name items = goes_on known (after_run (is_in InLine) items)
directed Alone known place within name items = goes_on known items
directed Other known place within name items = used known place within name (known.macros name) items

-- the same in a part that is not taken: only the conditionals count
abbrev pub passed_by : Kind → State → Place → List Item → Step
passed_by Define known place items = goes_on (record known { skipped = Plain }) items
passed_by Undef known place items = goes_on (record known { skipped = Plain }) items
passed_by Include known place items = goes_on (record known { skipped = Plain }) items
passed_by (Condition branch) known place items = conditional branch known place items
passed_by WithLine known place items = goes_on (record known { skipped = Plain }) items
passed_by Alone known place items = goes_on (record known { skipped = Plain }) items
passed_by Other known place items = goes_on (record known { skipped = Plain }) items
