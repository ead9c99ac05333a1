-- What connections may be made to, by name: each with a flag, which tells an input port from an output.
--     Flags, no_flags, with_flag fs name b        a flag for some names
--     first_of name flag xs                       those of a list; of two of one name the first counts
--     taking known taken i                        what a connection by name is made to
use Rattle.std.specs.Prelude.{ℕ, Bool, if◌then◌else◌, List, [], ◌∷◌, Option, Some, None, Ok, Err}
use Rattle.std.specs.Option.{is_some}
use Rattle.std.specs.Str.{bytes_eq}
use Rattle.std.specs.HashMap as hash
use Rattle.vlog_tree.specs.declared.ident.Ident.{Ident}
use Rattle.elab_names.specs.declared.fault.ElabFault.TheVariants.{NoPort, TwiceDeclared}
use Rattle.elab_names.specs.Answers.{Or_fault}
use Rattle.elab_binds.specs.declared.flags.Flags as table

-- a flag for some names
abbrev pub Flags : Type 0
Flags = List ℕ → Option Bool

abbrev pub no_flags : Flags
no_flags name = None

abbrev pub with_flag : Flags → List ℕ → Bool → Flags
with_flag fs name b = λ other. if bytes_eq name other then Some b else fs other

-- a name that has a flag keeps it
unfoldable pub with_first : Flags → List ℕ → Bool → Flags
with_first fs name b = if is_some (fs name) then fs else with_flag fs name b

-- those of a list
unfoldable pub first_of : {X : Type 0} → (X → List ℕ) → (X → Bool) → List X → Flags
first_of name flag [] other = None
first_of name flag (x ∷ xs) other = if bytes_eq (name x) other then Some (flag x) else first_of name flag xs other

-- what a connection by name is made to: what is known, and not yet taken
unfoldable pub taking_of : Ident → Option Bool → Option Bool → Or_fault Bool
taking_of i (Some b) known = Err (TwiceDeclared i.name i.place)
taking_of i None None = Err (NoPort i.name i.place)
taking_of i None (Some b) = Ok b

abbrev pub taking : Flags → Flags → Ident → Or_fault Bool
taking known taken i = taking_of i (taken i.name) (known i.name)

-- what a table holds
abbrev pub flags_of : table.Flags → Flags
flags_of t = λ name. hash.get_by (λ key. bytes_eq name key.items) t.table
