-- Runs: a power-up state, and then permitted events that disturb nothing.
use Rattle.std.specs.Prelude.{◌≡◌, ℕ, ◌<◌, Bool, List, [], ◌∷◌, Some}
use Rattle.rdc_tern.specs.Kleene.{IsSettled}
use Rattle.run_model.specs.declared.event.Event.{Event}
use Rattle.run_model.specs.State.{State, settled}
use Rattle.run_model.specs.Machine.{FlopMeaning, AFlop, Machine, Active, phase_of}
use Rattle.run_model.specs.Event.{after}
use Rattle.run_model.specs.Permitted.{MeetsLines, IsPermitted}
use Rattle.run_model.specs.Disturbed.{DisturbsNone}

-- no X, every reset port asserted, every clock and tied port at its value, every flop in reset at its reset value
pub record IsPowerUp (m : Machine) (s : State) : Type 0 where
  pub no_x : (n : ℕ) → n < m.count → IsSettled (s n)
  pub asserted : (n : ℕ) (high : Bool) → m.declared n ≡ Some high → s n ≡ settled high
  pub fixed : (n : ℕ) (value : Bool) → m.fixed n ≡ Some value → s n ≡ settled value
  pub reset : (n : ℕ) (f : FlopMeaning) → m.source n ≡ AFlop f → phase_of f s ≡ Active → s n ≡ settled f.reset
  pub lines : MeetsLines m s

-- the last state of a list of events
abbrev pub state_after : Machine → State → List Event → State
state_after m s [] = s
state_after m s (e ∷ es) = state_after m (after m s e) es

-- each event is permitted and disturbs no flop
abbrev pub Goes : Machine → State → List Event → Type 0
Goes m s [] = Unit {0}
Goes m s (e ∷ es) = IsPermitted m s e × DisturbsNone m s e × Goes m (after m s e) es

-- an undisturbed run from a power-up state
pub record IsRun (m : Machine) (s : State) (es : List Event) : Type 0 where
  pub power : IsPowerUp m s
  pub goes : Goes m s es
