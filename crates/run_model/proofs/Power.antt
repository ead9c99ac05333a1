-- A power-up state of any lawful machine: ports first, and then each flop in pin order.
use Rattle.std.proofs.Common.{◌≡◌, ℕ, Bool, Option, Some, None, refl, sym, ap, ◌∙◌}
use Rattle.rdc_tern.specs.declared.value.Tern.{Tern}
use Rattle.rdc_tern.specs.declared.value.Tern.TheVariants.{Zero}
use Rattle.rdc_tern.specs.Kleene.{IsSettled}
use Rattle.run_model.specs.State.{State, settled}
use Rattle.run_model.specs.Machine.{FlopMeaning, Meaning, APort, AFlop, Machine, Phase, Inactive, Active, Unsure, phase_of}
use Rattle.run_model.specs.Laws.{IsMachine}
use Rattle.run_model.specs.Up.{swept}
use Rattle.run_model.specs.Run.{IsPowerUp}
use Rattle.run_model.proofs.Order.{settled_level}
use Rattle.run_model.proofs.Sweep.{IsSteady, swept-equation}

-- a reset port is asserted, a clock or tied port has its value, anything else is 0
first_value : Option Bool → Option Bool → Tern
first_value (Some high) fixed = settled high
first_value None (Some value) = settled value
first_value None None = Zero

first_settled : (d f : Option Bool) → IsSettled (first_value d f)
unfolding first_value
first_settled (Some high) f = settled_level high
first_settled None (Some value) = settled_level value
first_settled None None = λ e. cc

-- a flop in reset has its reset value
abbrev powered : FlopMeaning → Phase → Tern → Tern
powered f Inactive v = v
powered f Active v = settled f.reset
powered f Unsure v = v

abbrev power_value : Meaning → State → Tern → Tern
power_value APort s v = v
power_value (AFlop f) s v = powered f (phase_of f s) v

power-steady : IsSteady power_value
power-steady APort s t v same = refl
power-steady (AFlop f) s t v same = ap (λ p. powered f p v) same

powered_settled : (f : FlopMeaning) (p : Phase) (v : Tern) → IsSettled v → IsSettled (powered f p v)
powered_settled f Inactive v h = h
powered_settled f Active v h = settled_level f.reset
powered_settled f Unsure v h = h

power_value_settled : (x : Meaning) (s : State) (v : Tern) → IsSettled v → IsSettled (power_value x s v)
power_value_settled APort s v h = h
power_value_settled (AFlop f) s v h = powered_settled f (phase_of f s) v h

module _ (m : Machine) (lawful : IsMachine m) where
  abbrev first : State
  first n = first_value (m.declared n) (m.fixed n)

  abbrev power_state : State
  power_state = swept power_value m.source m.order first

  power-equation : (k : ℕ) (x : Meaning) → m.source k ≡ x → power_state k ≡ power_value x power_state (first k)
  power-equation k x is = swept-equation power_value m lawful power-steady (λ t v. refl) first k x is

  asserted : (n : ℕ) (high : Bool) → m.declared n ≡ Some high → power_state n ≡ settled high
  unfolding first_value
  asserted n high is = power-equation n APort (lawful.ports.declared n high is) ∙ ap (λ d. first_value d (m.fixed n)) is

  is_fixed : (n : ℕ) (value : Bool) (d : Option Bool) → m.declared n ≡ d → m.fixed n ≡ Some value → first_value d (m.fixed n) ≡ settled value
  unfolding first_value
  is_fixed n value None none is = ap (λ f. first_value None f) is
  is_fixed n value (Some high) declared is = let free = lawful.ports.free n high declared in absurd (cc)

  pub power_up : (s : State) × IsPowerUp m s
  power_up = (
    power_state,
    record {
      no_x = λ n in_m e. power_value_settled (m.source n) power_state (first n) (first_settled (m.declared n) (m.fixed n)) (sym (power-equation n (m.source n) refl) ∙ e);
      asserted = asserted;
      fixed = λ n value is. power-equation n APort (lawful.ports.fixed n value is) ∙ is_fixed n value (m.declared n) refl is;
      reset = λ n f is active. power-equation n (AFlop f) is ∙ ap (λ p. powered f p (first n)) active;
      lines = tt;
    },
  )
