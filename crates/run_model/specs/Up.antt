-- What resets do at once: in pin order, each flop whose pin isn't settled inactive takes the join of its value and its reset value.
use Rattle.std.specs.Prelude.{◌≡◌, ℕ, Bool, List, [], ◌∷◌}
use Rattle.rdc_tern.specs.declared.value.Tern.{Tern}
use Rattle.rdc_tern.specs.Kleene.{join_of}
use Rattle.run_model.specs.State.{State, settled, with_value}
use Rattle.run_model.specs.Machine.{Meaning, APort, AFlop, Machine, Phase, Inactive, Active, Unsure, phase_of}

-- the value of a flop of this reset value with its pin so
abbrev pub lifted : Bool → Phase → Tern → Tern
lifted reset Inactive v = v
lifted reset Active v = join_of v (settled reset)
lifted reset Unsure v = join_of v (settled reset)

-- the value of a source with the pins as in a state
abbrev pub up_value : Meaning → State → Tern → Tern
up_value APort s v = v
up_value (AFlop f) s v = lifted f.reset (phase_of f s) v

-- each source of a list in turn takes what the rule makes of it
abbrev pub swept : (Meaning → State → Tern → Tern) → (ℕ → Meaning) → List ℕ → State → State
swept rule source [] s = s
swept rule source (n ∷ ns) s = swept rule source ns (with_value s n (rule (source n) s (s n)))

-- the flops in pin order
abbrev pub up : Machine → State → State
up m s = swept up_value m.source m.order s

-- the same without an order: each source's value is what its pin in the new state makes of the old value
abbrev pub IsUp : Machine → State → State → Type 0
IsUp m s t = (n : ℕ) → t n ≡ up_value (m.source n) t (s n)
