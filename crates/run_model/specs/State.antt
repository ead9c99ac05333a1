-- A state of a design: a value for each source, by its number.
use Rattle.std.specs.Prelude.{ℕ, if◌then◌else◌, ◌==◌}
use Rattle.rdc_tern.specs.declared.value.Tern.{Tern}
pub use Rattle.net_view.specs.Values.{State, at, settled}

-- the state with another value for one source
abbrev pub with_value : State → ℕ → Tern → State
with_value s n v k = if k == n then v else s k
