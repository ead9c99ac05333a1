-- What structure alone shows: edges that are the same, and direct calms.
use Rattle.std.specs.Prelude.{◌≡◌, ◌⊎◌, ℕ, Bool, IsTrue, IsSome, Option, Some, None}
use Rattle.rdc_tern.specs.declared.value.Tern.{Tern}
use Rattle.run_model.specs.State.{settled}
use Rattle.run_model.specs.Machine.{Pin, FlopMeaning, Meaning, APort, AFlop, Machine}
use Rattle.run_model.specs.Laws.{HasPin}
use Rattle.run_model.specs.Event.{calm_value}

-- two flops have one pin: each has one, of equal root and level
pub record HasOnePin (f g : FlopMeaning) : Type 0 where
  pub mine : Pin
  pub other : Pin
  pub is_mine : f.pin ≡ Some mine
  pub is_other : g.pin ≡ Some other
  pub root : mine.root ≡ other.root
  pub level : mine.high ≡ other.high

-- a source that the data of f may read: a port that is no reset, a flop without a pin, or a flop with f's own pin
abbrev pub IsSameSource : FlopMeaning → Meaning → Option Bool → Type 0
IsSameSource f APort level = level ≡ None
IsSameSource f (AFlop g) level = (g.pin ≡ None) ⊎ HasOnePin f g

-- the edge of the flop at n is the same: it crosses from no other reset
abbrev pub IsSame : Machine → ℕ → Type 0
IsSame m n = (f : FlopMeaning) → m.source n ≡ AFlop f → (k : ℕ) → IsTrue (f.reads.cone k) → IsSameSource f (m.source k) (m.declared k)

-- what can calm: a reset port, or a flop with a pin
abbrev pub CanCalm : Meaning → Option Bool → Type 0
CanCalm APort level = IsSome level
CanCalm (AFlop g) level = IsSome g.pin

-- the calm of the flop at n by the source k is direct: k is the pin itself, and its Calm makes the pin active
abbrev pub IsDirect : Machine → ℕ → ℕ → Type 0
IsDirect m n k = (f : FlopMeaning) (p : Pin) → HasPin m n f p → (p.copied ≡ Some k) × ((v : Tern) → calm_value (m.source k) (m.declared k) v ≡ settled p.high)

-- no flop's edge crosses, and each calm in a pin's cone is direct
pub record IsClean (m : Machine) : Type 0 where
  pub same : (n : ℕ) → IsSame m n
  pub direct : (n : ℕ) (f : FlopMeaning) (p : Pin) → HasPin m n f p → (k : ℕ) → IsTrue (p.logic.cone k) → CanCalm (m.source k) (m.declared k) → IsDirect m n k
