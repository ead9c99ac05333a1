-- The theorem's subject: when a design is safe.
use Rattle.std.specs.Prelude.{ℕ, List}
use Rattle.run_model.specs.declared.event.Event.{Event}
use Rattle.run_model.specs.State.{State}
use Rattle.run_model.specs.Machine.{Machine}
use Rattle.run_model.specs.Permitted.{IsPossible}
use Rattle.run_model.specs.Disturbed.{Disturbs}
use Rattle.run_model.specs.Run.{IsRun, state_after}

-- from the last state of every undisturbed run, no possible event disturbs a flop
abbrev pub IsSafe : Machine → Type 0
IsSafe m = (s : State) (es : List Event) → IsRun m s es → (e : Event) → IsPossible m (state_after m s es) e → (n : ℕ) → Disturbs m (state_after m s es) e n → ⊥
