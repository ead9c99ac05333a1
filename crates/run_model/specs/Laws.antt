-- The laws of a machine, which each representation of a design proves once.
--   IsLogic                          a net depends on its cone alone, and never makes an X of its own
--   HasPin, ReadsNone, IsPinOrder    the pins, and an order in which each reads earlier flops alone
--   IsOrdered, HasOwnPorts           what the lists of flops, resets, clocks and tied ports are
--   IsMachine                        all of it
use Rattle.std.specs.Prelude.{◌≡◌, ℕ, ◌<◌, Bool, List, [], ◌∷◌, Some, None, IsTrue, Contains}
use Rattle.rdc_tern.specs.Kleene.{IsBelow, IsSettled}
use Rattle.run_model.specs.State.{State}
use Rattle.run_model.specs.Machine.{Logic, Pin, FlopMeaning, Meaning, APort, AFlop, Machine}

-- a net over so many sources
pub record IsLogic (count : ℕ) (l : Logic) : Type 0 where
  -- it reads sources that are there
  pub within : (n : ℕ) → IsTrue (l.cone n) → n < count
  -- it depends on its cone alone, and tells no more where the cone tells less
  pub raised : (s t : State) → ((n : ℕ) → IsTrue (l.cone n) → IsBelow (s n) (t n)) → IsBelow (l.value s) (l.value t)
  -- where its cone is settled, so is it
  pub settles : (s : State) → ((n : ℕ) → IsTrue (l.cone n) → IsSettled (s n)) → IsSettled (l.value s)

-- the pin of a flop of the machine
pub record HasPin (m : Machine) (n : ℕ) (f : FlopMeaning) (p : Pin) : Type 0 where
  pub flop : m.source n ≡ AFlop f
  pub pin : f.pin ≡ Some p

-- a flop's pin reads none of these sources
abbrev pub ReadsNone : Machine → ℕ → List ℕ → Type 0
ReadsNone m n ks = (f : FlopMeaning) (p : Pin) (k : ℕ) → HasPin m n f p → Contains ks k → IsTrue (p.logic.cone k) → ⊥

-- no pin reads its own flop or a later one, and none stands twice
abbrev pub IsPinOrder : Machine → List ℕ → Type 0
IsPinOrder m [] = Unit {0}
IsPinOrder m (n ∷ ns) = ReadsNone m n (n ∷ ns) × (Contains ns n → ⊥) × IsPinOrder m ns

-- every flop is listed
abbrev pub ListsFlops : (ℕ → Meaning) → List ℕ → Type 0
ListsFlops source ns = (n : ℕ) (f : FlopMeaning) → source n ≡ AFlop f → Contains ns n

-- the order lists every flop, each before those whose pins read it
pub record IsOrdered (m : Machine) : Type 0 where
  pub pins : IsPinOrder m m.order
  pub listed : ListsFlops m.source m.order

-- a declared reset is a port, and no clock or tied port; and those are ports
pub record HasOwnPorts (m : Machine) : Type 0 where
  pub declared : (n : ℕ) (high : Bool) → m.declared n ≡ Some high → m.source n ≡ APort
  pub free : (n : ℕ) (high : Bool) → m.declared n ≡ Some high → m.fixed n ≡ None
  pub fixed : (n : ℕ) (value : Bool) → m.fixed n ≡ Some value → m.source n ≡ APort

-- what the flops compute
pub record HasNets (m : Machine) : Type 0 where
  -- flops are sources
  pub within : (n : ℕ) (f : FlopMeaning) → m.source n ≡ AFlop f → n < m.count
  -- data and pins are nets
  pub reads : (n : ℕ) (f : FlopMeaning) → m.source n ≡ AFlop f → IsLogic m.count f.reads
  pub pins : (n : ℕ) (f : FlopMeaning) (p : Pin) → HasPin m n f p → IsLogic m.count p.logic
  -- pins of one root are one net
  pub one_root : (n k : ℕ) (f g : FlopMeaning) (p q : Pin) → HasPin m n f p → HasPin m k g q → p.root ≡ q.root → (s : State) → p.logic.value s ≡ q.logic.value s
  -- a pin that is a copy of a source has its value
  pub copies : (n : ℕ) (f : FlopMeaning) (p : Pin) (k : ℕ) → HasPin m n f p → p.copied ≡ Some k → (s : State) → p.logic.value s ≡ s k

-- the laws
pub record IsMachine (m : Machine) : Type 0 where
  pub nets : HasNets m
  pub order : IsOrdered m
  pub ports : HasOwnPorts m
