-- Which events are possible in a state, and which are permitted.
use Rattle.std.specs.Prelude.{◌≡◌, ◌≢◌, ℕ, Bool, not, Option, IsSome, IsSomeAnd}
use Rattle.rdc_tern.specs.declared.value.Tern.TheVariants.{Unsettled}
use Rattle.run_model.specs.declared.event.Event.{Event}
use Rattle.run_model.specs.declared.event.Event.TheVariants.{Rise, Fall, Strike, Calm, Release, Drive}
use Rattle.run_model.specs.State.{State, settled}
use Rattle.run_model.specs.Machine.{FlopMeaning, Meaning, APort, AFlop, Machine, Inactive, Active, phase_of}
use Rattle.run_model.specs.Event.{after}

-- what may settle: a reset port, or a flop whose pin is settled active
abbrev pub MaySettle : Meaning → Option Bool → State → Type 0
MaySettle APort level s = IsSome level
MaySettle (AFlop f) level s = phase_of f s ≡ Active

-- the need of an event is met; a need that speaks of a port is met by a reset port alone
abbrev pub IsPossible : Machine → State → Event → Type 0
IsPossible m s (Rise c) = Unit {0}
IsPossible m s (Fall c) = Unit {0}
IsPossible m s (Strike r) = IsSomeAnd (m.declared r) (λ high. s r ≡ settled (not high))
IsPossible m s (Calm k) = (s k ≡ Unsettled) × MaySettle (m.source k) (m.declared k) s
IsPossible m s (Release r) = IsSomeAnd (m.declared r) (λ high. s r ≡ settled high)
IsPossible m s (Drive levels) = Unit {0}

-- the state meets the constraint lines, of which a machine has none yet
abbrev pub MeetsLines : Machine → State → Type 0
MeetsLines m s = Unit {0}

-- from the one state to the other, no flop whose pin wasn't settled inactive is left at X with its pin settled inactive
abbrev pub LeavesNone : Machine → State → State → Type 0
LeavesNone m s t = (n : ℕ) (f : FlopMeaning) → m.source n ≡ AFlop f → phase_of f s ≢ Inactive → t n ≡ Unsettled → phase_of f t ≢ Inactive

-- the pulse rule: no edge, release or drive ends a reset before the flop has settled
abbrev pub MeetsPulse : Machine → State → Event → Type 0
MeetsPulse m s (Rise c) = LeavesNone m s (after m s (Rise c))
MeetsPulse m s (Fall c) = LeavesNone m s (after m s (Fall c))
MeetsPulse m s (Strike r) = Unit {0}
MeetsPulse m s (Calm k) = Unit {0}
MeetsPulse m s (Release r) = LeavesNone m s (after m s (Release r))
MeetsPulse m s (Drive levels) = LeavesNone m s (after m s (Drive levels))

-- what the environment may do
pub record IsPermitted (m : Machine) (s : State) (e : Event) : Type 0 where
  pub possible : IsPossible m s e
  pub lines : MeetsLines m (after m s e)
  pub pulse : MeetsPulse m s e
