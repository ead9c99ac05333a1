-- Macros by name.
use Rattle.std.specs.Prelude.{ℕ, if◌then◌else◌, List, Option, None}
use Rattle.std.specs.Str.{bytes_eq}
use Rattle.std.specs.HashMap as hash
use Rattle.vlog_pre.specs.declared.macros.Macro.{Macro}
use Rattle.vlog_pre.specs.declared.macros.Macros.{Macros}

-- what each name stands for
abbrev pub Meanings : Type 0
Meanings = List ℕ → Option Macro

-- no macro is defined
abbrev pub no_meanings : Meanings
no_meanings name = None

-- the macros with another meaning of one name
abbrev pub with_meaning : Meanings → List ℕ → Option Macro → Meanings
with_meaning macros name meaning = λ other. if bytes_eq name other then meaning else macros other

-- the macros of a table
abbrev pub meanings_of : Macros → Meanings
meanings_of macros = λ name. hash.get_by (λ key. bytes_eq name key.items) macros.table
