-- What the flops of a net read, and which of its sources comes first by name.
--     HasPin, HasData                a flop with a pin, and one with data
--     PinReads, DataReads            the cones of a flop's pin and of its data
--     IsFirst names P s              of the sources with a property, s is the first by name
use Rattle.std.specs.Prelude.{◌≡◌, ◌⊎◌, ℕ, List, IsSome, Some}
use Rattle.net_view.specs.declared.flop_net.FlopOf.{FlopOf}
use Rattle.net_view.specs.FlopNet.{IsFlopAt}
use Rattle.net_view.specs.Cone.{ReadsSource}
use Rattle.net_view.specs.PinOrder.{IsNamedBefore}
use Rattle.cons_bind.specs.Names.{Net}

-- source f is a flop with a pin
abbrev pub HasPin : Net → ℕ → Type 0
HasPin net f = (flop : FlopOf ℕ) × IsFlopAt net.kinds f flop × IsSome flop.pin

-- source f is a flop with data
abbrev pub HasData : Net → ℕ → Type 0
HasData net f = (flop : FlopOf ℕ) × IsFlopAt net.kinds f flop × IsSome flop.next

-- source s is in the cone of the pin of flop f
pub record PinReads (net : Net) (f s : ℕ) : Type 0 where
  pub flop : FlopOf ℕ
  pub is_flop : IsFlopAt net.kinds f flop
  pub pin : ℕ
  pub has_pin : flop.pin ≡ Some pin
  pub reads : ReadsSource net.gates pin s

-- source s is in the cone of the data of flop f
pub record DataReads (net : Net) (f s : ℕ) : Type 0 where
  pub flop : FlopOf ℕ
  pub is_flop : IsFlopAt net.kinds f flop
  pub next : ℕ
  pub has_next : flop.next ≡ Some next
  pub reads : ReadsSource net.gates next s

-- s has the property, and any other source that has it comes after s by name, or of equal names by number
pub record IsFirst (names : List (List ℕ)) (P : ℕ → Type 0) (s : ℕ) : Type 0 where
  pub member : P s
  pub first : (t : ℕ) → P t → (t ≡ s) ⊎ IsNamedBefore names s t
