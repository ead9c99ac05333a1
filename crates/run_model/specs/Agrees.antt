-- When two machines say the same of every event: source by source they compute, clock and reset alike.
use Rattle.std.specs.Prelude.{◌≡◌, ℕ, Option, Some, None}
use Rattle.run_model.specs.State.{State}
use Rattle.run_model.specs.Machine.{Logic, Pin, FlopMeaning, Meaning, APort, AFlop, Machine}

-- two nets with one value in every state
abbrev pub SameValue : Logic → Logic → Type 0
SameValue l r = (s : State) → l.value s ≡ r.value s

-- two pins of one level and value, or none on either side; how their roots are numbered is free
abbrev pub SamePin : Option Pin → Option Pin → Type 0
SamePin None None = Unit {0}
SamePin None (Some q) = ⊥
SamePin (Some p) None = ⊥
SamePin (Some p) (Some q) = SameValue p.logic q.logic × (p.high ≡ q.high)

-- two flops that do the same
pub record SameFlop (f g : FlopMeaning) : Type 0 where
  pub clock : f.clock ≡ g.clock
  pub rising : f.rising ≡ g.rising
  pub reads : SameValue f.reads g.reads
  pub pin : SamePin f.pin g.pin
  pub reset : f.reset ≡ g.reset

-- two ports, or two flops that do the same
abbrev pub SameMeaning : Meaning → Meaning → Type 0
SameMeaning APort APort = Unit {0}
SameMeaning APort (AFlop g) = ⊥
SameMeaning (AFlop f) APort = ⊥
SameMeaning (AFlop f) (AFlop g) = SameFlop f g

-- the machines agree source by source; in what order they list their flops is free
pub record Agrees (m k : Machine) : Type 0 where
  pub count : m.count ≡ k.count
  pub source : (n : ℕ) → SameMeaning (m.source n) (k.source n)
  pub declared : (n : ℕ) → m.declared n ≡ k.declared n
  pub fixed : (n : ℕ) → m.fixed n ≡ k.fixed n
