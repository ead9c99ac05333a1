-- The running variables of the loops around a statement.
--     set_all values known     names with values, after these were given theirs
--     is_known values name     whether a name has a value
--     stands known values name     the same, or the contrary
use Rattle.std.specs.Prelude.{ℕ, Bool, true, false, not, if◌then◌else◌, List, [], ◌∷◌, Option, Some, None}
use Rattle.vlog_const.specs.Names.{Values, with_value}
use Rattle.proc_loops.specs.declared.scope.Known.{Known}

unfoldable pub set_all : Values → List Known → Values
set_all values [] = values
set_all values (k ∷ known) = set_all (with_value values k.name k.value) known

-- whether there is one
abbrev pub is_there : {A : Type 0} → Option A → Bool
is_there None = false
is_there (Some a) = true

abbrev pub is_known : Values → List ℕ → Bool
is_known values name = is_there (values name)

abbrev pub stands : Bool → Values → List ℕ → Bool
stands known values name = if known then is_known values name else not (is_known values name)
