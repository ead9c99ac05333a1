-- Which flop an event disturbs.
use Rattle.std.specs.Prelude.{◌≡◌, ℕ, Bool, true, false, IsTrue}
use Rattle.rdc_tern.specs.declared.value.Tern.TheVariants.{Unsettled}
use Rattle.run_model.specs.declared.event.Event.{Event}
use Rattle.run_model.specs.declared.event.Event.TheVariants.{Rise, Fall, Strike, Calm, Release, Drive}
use Rattle.run_model.specs.State.{State}
use Rattle.run_model.specs.Machine.{FlopMeaning, AFlop, Machine, Inactive, phase_of}
use Rattle.run_model.specs.Event.{is_clocked, after}

-- an edge clocks a flop out of reset while its data is X
pub record TakesUnsettled (m : Machine) (s : State) (c : ℕ) (rising : Bool) (n : ℕ) : Type 0 where
  pub flop : FlopMeaning
  pub is_flop : m.source n ≡ AFlop flop
  pub clocked : IsTrue (is_clocked flop c rising)
  pub free : phase_of flop s ≡ Inactive
  pub unsettled : flop.reads.value s ≡ Unsettled

-- a flop is X while nothing resets it
pub record IsLeft (m : Machine) (s : State) (n : ℕ) : Type 0 where
  pub flop : FlopMeaning
  pub is_flop : m.source n ≡ AFlop flop
  pub free : phase_of flop s ≡ Inactive
  pub unsettled : s n ≡ Unsettled

-- an edge lets the flop take X, or a Calm leaves it at X
abbrev pub Disturbs : Machine → State → Event → ℕ → Type 0
Disturbs m s (Rise c) n = TakesUnsettled m s c true n
Disturbs m s (Fall c) n = TakesUnsettled m s c false n
Disturbs m s (Strike r) n = ⊥
Disturbs m s (Calm k) n = IsLeft m (after m s (Calm k)) n
Disturbs m s (Release r) n = ⊥
Disturbs m s (Drive levels) n = ⊥

-- no flop is disturbed
abbrev pub DisturbsNone : Machine → State → Event → Type 0
DisturbsNone m s e = (n : ℕ) → Disturbs m s e n → ⊥
