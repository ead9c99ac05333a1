-- What a step answers.
use Rattle.std.specs.Prelude.{◌≡◌, ℕ, ◌<◌, IsTrue, All}
use Rattle.run_model.specs.declared.event.Event.{Event}
use Rattle.run_model.specs.declared.event.Event.TheVariants.{Rise, Fall, Strike, Calm, Release, Drive}
use Rattle.run_model.specs.declared.answer.Stepped.{Stepped}
use Rattle.run_model.specs.declared.answer.Stepped.TheVariants.{Done, Disturbed, NotPossible}
use Rattle.run_model.specs.State.{State}
use Rattle.run_model.specs.Machine.{Machine}
use Rattle.run_model.specs.Event.{is_input, after}
use Rattle.run_model.specs.Permitted.{IsPossible}
use Rattle.run_model.specs.Disturbed.{Disturbs, DisturbsNone}

-- the event's sources are there
abbrev pub IsWithin : ℕ → Event → Type 0
IsWithin count (Rise c) = c < count
IsWithin count (Fall c) = c < count
IsWithin count (Strike r) = r < count
IsWithin count (Calm k) = k < count
IsWithin count (Release r) = r < count
IsWithin count (Drive levels) = All (λ x. x.0 < count) levels

-- a Drive gives levels to data inputs alone
abbrev pub DrivesInputs : Machine → Event → Type 0
DrivesInputs m (Rise c) = Unit {0}
DrivesInputs m (Fall c) = Unit {0}
DrivesInputs m (Strike r) = Unit {0}
DrivesInputs m (Calm k) = Unit {0}
DrivesInputs m (Release r) = Unit {0}
DrivesInputs m (Drive levels) = All (λ x. IsTrue (is_input (m.source x.0) (m.declared x.0) (m.fixed x.0))) levels

-- the event disturbs this flop, and none of a lower number
pub record IsLeastDisturbed (m : Machine) (s : State) (e : Event) (n : ℕ) : Type 0 where
  pub disturbs : Disturbs m s e n
  pub least : (k : ℕ) → k < n → Disturbs m s e k → ⊥

-- the answer to an event in a state, and the state that is left
abbrev pub Steps : Machine → State → Event → Stepped → State → Type 0
Steps m s e Done t = IsPossible m s e × DisturbsNone m s e × (t ≡ after m s e)
Steps m s e (Disturbed n) t = IsPossible m s e × IsLeastDisturbed m s e n × (t ≡ after m s e)
Steps m s e NotPossible t = IsPossible m s e → ⊥
