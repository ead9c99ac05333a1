-- What structure alone shows: edges that are the same, and direct calms.
--     HasOnePin, IsSameSource, IsSame      the data of a flop crosses from no other reset
--     CanCalm, IsCalm                      the calms that a pin is asked about
--     CalmsTo, IsDirect                    a calm that makes the pin active by itself
use Rattle.std.specs.Prelude.{◌≡◌, ◌⊎◌, ℕ, Bool, true, List, slice_get, Option, Some, None, IsSome}
use Rattle.net_view.specs.declared.flop_net.FlopOf.{FlopOf}
use Rattle.net_view.specs.declared.flop_net.SrcKind.TheVariants.{Port, BoxOut, Flop}
use Rattle.net_view.specs.FlopNet.{Kind, IsFlopAt}
use Rattle.cons_bind.specs.Names.{Net, IsSourceBit}
use Rattle.cons_bind.specs.declared.bound.BoundForm.{BoundForm}
use Rattle.reset_trees.specs.Reads.{DataReads, PinReads}
use Rattle.reset_trees.specs.Roles.{level_of}

-- two flops have one pin: each has one, of equal root and level
pub record HasOnePin (f g : FlopOf ℕ) : Type 0 where
  pub mine : IsSome f.pin
  pub other : IsSome g.pin
  pub root : f.root ≡ g.root
  pub level : f.high ≡ g.high

-- a source that the data of f may read: a port that is no reset, a box's output, a flop without a pin, or one with f's own pin
abbrev pub IsSameSource : FlopOf ℕ → Kind → Option Bool → Type 0
IsSameSource f Port level = level ≡ None
IsSameSource f BoxOut level = Unit {0}
IsSameSource f (Flop g) level = (g.pin ≡ None) ⊎ HasOnePin f g

-- the edge of flop n is the same: it crosses from no other reset
abbrev pub IsSame : Net → List BoundForm → ℕ → Type 0
IsSame net lines n =
    (f : FlopOf ℕ) → IsFlopAt net.kinds n f → (s : ℕ) → DataReads net n s → (kind : Kind) → slice_get net.kinds s ≡ Some kind
    → IsSameSource f kind (level_of lines s)

-- what can calm: a reset port, or a flop with a pin
abbrev pub CanCalm : Kind → Option Bool → Type 0
CanCalm Port level = IsSome level
CanCalm BoxOut level = ⊥
CanCalm (Flop g) level = IsSome g.pin

-- the calm of flop n by source s is asked about: the pin reads s, and s can calm
pub record IsCalm (net : Net) (lines : List BoundForm) (n s : ℕ) : Type 0 where
  pub flop : FlopOf ℕ
  pub is_flop : IsFlopAt net.kinds n flop
  pub asked : flop.calms ≡ true
  pub reads : PinReads net n s
  pub kind : Kind
  pub is_kind : slice_get net.kinds s ≡ Some kind
  pub calms : CanCalm kind (level_of lines s)

-- what Calm gives the source is this value
abbrev pub CalmsTo : Kind → Option Bool → Bool → Type 0
CalmsTo Port level value = level ≡ Some value
CalmsTo BoxOut level value = ⊥
CalmsTo (Flop g) level value = g.reset ≡ value

-- the calm of flop n by source s is direct: the pin's root is s itself, and its Calm makes the pin active
pub record IsDirect (net : Net) (lines : List BoundForm) (n s : ℕ) : Type 0 where
  pub flop : FlopOf ℕ
  pub is_flop : IsFlopAt net.kinds n flop
  pub root : IsSourceBit net flop.root s
  pub kind : Kind
  pub is_kind : slice_get net.kinds s ≡ Some kind
  pub active : CalmsTo kind (level_of lines s) flop.high
