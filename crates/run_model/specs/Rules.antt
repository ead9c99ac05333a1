-- The reset rules, which hold in every state of an undisturbed run.
use Rattle.std.specs.Prelude.{◌≡◌, ◌⊎◌, ℕ, ◌<◌, Bool, None, Some}
use Rattle.rdc_tern.specs.declared.value.Tern.TheVariants.{Unsettled}
use Rattle.rdc_tern.specs.Kleene.{IsSettled}
use Rattle.run_model.specs.State.{State, settled}
use Rattle.run_model.specs.Machine.{FlopMeaning, APort, AFlop, Machine, Inactive, phase_of}

-- the reset rules of a state
pub record MeetsRules (m : Machine) (s : State) : Type 0 where
  -- a flop without a pin is settled
  pub no_pin : (n : ℕ) (f : FlopMeaning) → m.source n ≡ AFlop f → f.pin ≡ None → IsSettled (s n)
  -- a flop at X has a pin that isn't settled inactive
  pub held : (n : ℕ) (f : FlopMeaning) → m.source n ≡ AFlop f → s n ≡ Unsettled → phase_of f s ≡ Inactive → ⊥
  -- a flop whose pin isn't settled inactive has its reset value or X
  pub in_reset : (n : ℕ) (f : FlopMeaning) → m.source n ≡ AFlop f → (phase_of f s ≡ Inactive → ⊥) → (s n ≡ settled f.reset) ⊎ (s n ≡ Unsettled)
  -- a port that is no reset is settled
  pub port : (n : ℕ) → n < m.count → m.source n ≡ APort → m.declared n ≡ None → IsSettled (s n)
  -- clocks and tied ports have their values
  pub fixed : (n : ℕ) (value : Bool) → m.fixed n ≡ Some value → s n ≡ settled value
