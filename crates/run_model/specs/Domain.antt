-- The domain of a reset, and when the reset is in progress.
use Rattle.std.specs.Prelude.{◌≡◌, ◌⊎◌, ℕ, Bool, IsTrue}
use Rattle.rdc_tern.specs.declared.value.Tern.TheVariants.{Unsettled}
use Rattle.run_model.specs.State.{State, settled}
use Rattle.run_model.specs.Machine.{Pin, FlopMeaning, Machine}
use Rattle.run_model.specs.Laws.{HasPin}

-- the least set of flops that holds each flop whose pin reads the reset, and each flop whose pin reads a member
pub data InDomain (m : Machine) (r : ℕ) : ℕ → Type 0 where
  reads : (n : ℕ) (f : FlopMeaning) (p : Pin) → HasPin m n f p → IsTrue (p.logic.cone r) → InDomain m r n
  follows : (n k : ℕ) (f : FlopMeaning) (p : Pin) → HasPin m n f p → IsTrue (p.logic.cone k) → InDomain m r k → InDomain m r n

-- some flop of the domain is X
pub record IsUnsettledIn (m : Machine) (s : State) (r : ℕ) : Type 0 where
  pub flop : ℕ
  pub member : InDomain m r flop
  pub unsettled : s flop ≡ Unsettled

-- a reset of this active level is X, or settled asserted while a flop of its domain is X
abbrev pub IsInProgress : Machine → State → ℕ → Bool → Type 0
IsInProgress m s r high = (s r ≡ Unsettled) ⊎ ((s r ≡ settled high) × IsUnsettledIn m s r)
