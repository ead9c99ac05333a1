-- The values that an instance gives to the parameters of its module. They are put in where the instance stands.
--     giving frames                      a connection to a parameter
--     given frames place names c         all that is given, by name
use Rattle.std.specs.Prelude.{ℕ, Bool, true, List, Some, None, Ok}
use Rattle.rdc_outside.specs.declared.source.Place.{Place}
use Rattle.vlog_tree.specs.declared.item.Connections.{Connections}
use Rattle.elab_names.specs.Answers.{Or_fault, ◌>>=◌}
use Rattle.elab_names.specs.Meanings.{Frames}
use Rattle.elab_names.specs.Expressions.{put_in}
use Rattle.elab_scopes.specs.Parameters.{Given, none_given}
use Rattle.elab_scopes.specs.Tables.{with_given}
use Rattle.elab_binds.specs.Connections.{Step, connected}

-- a connection to a parameter gives it a value, and one without an expression nothing
unfoldable pub giving : Frames → Step Given
giving frames g name flag None = Ok g
giving frames g name flag (Some e) = do
  v ← put_in frames e
  Ok (with_given g name v)

-- a parameter is known by its name, and may always be given
abbrev pub same : List ℕ → List ℕ
same name = name

abbrev pub always : List ℕ → Bool
always name = true

-- all that is given
abbrev pub given : Frames → Place → List (List ℕ) → Connections → Or_fault Given
given frames place names c = connected same always (giving frames) place names c none_given
