-- How a macro is defined: the list of its parameters, and its text.
--     list_turn_of, parameters_from    the parameters up to the `)`, and what follows
--     text_turn_of, text_from          the text up to the end of its last line, and what follows
use Rattle.std.specs.Prelude.{ℕ, Bool, true, false, not, ◌&&◌, ◌||◌, ◌==◌, if◌then◌else◌, List, [], ◌∷◌, ◌++◌, Option, Some, None}
use Rattle.vlog_items.specs.declared.classes.Class.TheVariants.{NameByte, LineBlank}
use Rattle.vlog_items.specs.declared.modes.Mode.{Mode}
use Rattle.vlog_items.specs.declared.modes.Mode.TheVariants.{Plain, Slash, LineComment, BlockComment, Star, Quoted, Escaped}
use Rattle.vlog_items.specs.Bytes.{is_letter, is_in}
use Rattle.vlog_items.specs.Modes.{mode_after, is_plain}
use Rattle.vlog_items.specs.Items.{Item, Byte, End, Given}
use Rattle.vlog_pre.specs.Readings.{begins_with}
use Rattle.vlog_pre.specs.declared.parameters.Reached.{Reached}
use Rattle.vlog_pre.specs.declared.parameters.Reached.TheVariants.{BeforeName, InName, AfterName}
use Rattle.vlog_pre.specs.declared.parameters.ListTurn.{ListTurn}
use Rattle.vlog_pre.specs.declared.parameters.ListTurn.TheVariants.{Adds, Waits, Separates, Closes, Breaks}
use Rattle.vlog_pre.specs.declared.texts.TextTurn.{TextTurn}
use Rattle.vlog_pre.specs.declared.texts.TextTurn.TheVariants.{Continues, Drops, Keeps}

-- a byte after a name
unfoldable pub turn_after_name : ℕ → ListTurn
turn_after_name b = if b == 44 then Separates else (if b == 41 then Closes else (if is_in LineBlank b then Waits else Breaks))

-- what a byte does in a list of parameters: names between commas, with blanks around them
unfoldable pub list_turn_of : Reached → ℕ → ListTurn
list_turn_of BeforeName b = if is_letter b then Adds else (if is_in LineBlank b then Waits else Breaks)
list_turn_of InName b = if is_in NameByte b then Adds else turn_after_name b
list_turn_of AfterName b = turn_after_name b

-- after a blank
unfoldable pub reached_after_blank : Reached → Reached
reached_after_blank BeforeName = BeforeName
reached_after_blank InName = AfterName
reached_after_blank AfterName = AfterName

-- the parameters of a list, of which these names and the first bytes of one were read, and what follows its `)`
abbrev pub parameters_from : Reached → List (List ℕ) → List ℕ → List Item → Option (List (List ℕ) × List Item)
parameters_from reached names name [] = None
parameters_from reached names name (Byte b place within ∷ items) =
    elim (list_turn_of reached b) [
      | Adds ↦ parameters_from InName names (name ++ b ∷ []) items
      | Waits ↦ parameters_from (reached_after_blank reached) names name items
      | Separates ↦ parameters_from BeforeName (names ++ name ∷ []) [] items
      | Closes ↦ Some (names ++ name ∷ [], items)
      | Breaks ↦ None
    ]
parameters_from reached names name (End place ∷ items) = None
parameters_from reached names name (Given file ∷ items) = None

-- in a line comment
unfoldable pub is_line_comment : Mode → Bool
is_line_comment Plain = false
is_line_comment Slash = false
is_line_comment LineComment = true
is_line_comment BlockComment = false
is_line_comment Star = false
is_line_comment Quoted = false
is_line_comment Escaped = false

-- a line comment stands here, or begins
unfoldable pub is_dropped : Mode → ℕ → List Item → Bool
is_dropped mode b items = is_line_comment mode || (is_plain mode && b == 47 && begins_with 47 items)

-- what a byte does in a macro's text: a `\` before a line feed is dropped and goes on, a line comment is dropped
unfoldable pub text_turn_of : Mode → ℕ → List Item → TextTurn
text_turn_of mode b items =
    if b == 92 && begins_with 10 items then Continues
    else (if not (b == 10) && is_dropped mode b items then Drops else Keeps)

-- a macro's text, of which these bytes were read, and what follows it; `continued` says that a dropped `\` stands directly before
abbrev pub text_from : Mode → Bool → List ℕ → List Item → List ℕ × List Item
text_from mode continued text [] = (text, [])
text_from mode continued text (Byte b place within ∷ items) =
    if b == 10 && not continued then (text, Byte b place within ∷ items)
    else (elim (text_turn_of mode b items) [
      | Continues ↦ text_from mode true text items
      | Drops ↦ text_from LineComment false text items
      | Keeps ↦ text_from (mode_after mode b) false (text ++ b ∷ []) items
    ])
text_from mode continued text (End place ∷ items) = (text, End place ∷ items)
text_from mode continued text (Given file ∷ items) = (text, Given file ∷ items)
