-- A small machine: flop a takes d at ca and is reset by ra, flop q takes a at cb and is reset by rb; both resets are active low.
-- Its sources in name order: a is 0, ca 1, cb 2, d 3, q 4, ra 5, rb 6.
--   wire, plain_flop, example_source, example_declared, example_fixed, example      the machine
--   busy_events, EveryKindComes                    a run in which every kind of event comes
--   crossing_events, CrossingIsDisturbed           a run that ends in a disturbance
use Rattle.std.specs.Prelude.{ℕ, Bool, true, false, if◌then◌else◌, ◌==◌, List, [], ◌∷◌, Option, Some, None}
use Rattle.run_model.specs.declared.event.Event.{Event}
use Rattle.run_model.specs.declared.event.Event.TheVariants.{Rise, Fall, Strike, Calm, Release, Drive}
use Rattle.run_model.specs.State.{State}
use Rattle.run_model.specs.Machine.{Logic, FlopMeaning, Meaning, APort, AFlop, Machine}
use Rattle.run_model.specs.Permitted.{IsPossible}
use Rattle.run_model.specs.Disturbed.{Disturbs}
use Rattle.run_model.specs.Run.{IsRun, state_after}

-- a net that is a plain copy of a source
abbrev pub wire : ℕ → Logic
wire n = record { value = λ s. s n; cone = λ k. k == n }

-- a flop of a rising clock, with data from one source and a reset at level low, reset value 0
abbrev pub plain_flop : ℕ → ℕ → ℕ → FlopMeaning
plain_flop clock input reset = record {
  clock = Some clock;
  rising = true;
  reads = wire input;
  pin = Some (record { logic = wire reset; high = false; root = reset; copied = Some reset });
  reset = false;
}

-- what each source is
abbrev pub example_source : ℕ → Meaning
example_source n = if n == 0 then AFlop (plain_flop 1 3 5) else if n == 4 then AFlop (plain_flop 2 0 6) else APort

-- ra and rb are declared resets, active low
abbrev pub example_declared : ℕ → Option Bool
example_declared n = if n == 5 then Some false else if n == 6 then Some false else None

-- ca and cb are clocks
abbrev pub example_fixed : ℕ → Option Bool
example_fixed n = if n == 1 then Some false else if n == 2 then Some false else None

-- the machine
abbrev pub example : Machine
example = record { count = 7; source = example_source; declared = example_declared; fixed = example_fixed; order = 0 ∷ 4 ∷ [] }

-- ra is released, a takes 1, ra is struck, ra and then a calm, and the inputs change
abbrev pub busy_events : List (ℕ × Bool) → List Event
busy_events levels = Release 5 ∷ Rise 1 ∷ Fall 1 ∷ Strike 5 ∷ Calm 5 ∷ Calm 0 ∷ Drive levels ∷ []

-- an undisturbed run has every kind of event
abbrev pub EveryKindComes : Type 0
EveryKindComes = (levels : List (ℕ × Bool)) → (s : State) × IsRun example s (busy_events levels)

-- both resets are released, a takes 1, and ra is struck: a is X
abbrev pub crossing_events : List Event
crossing_events = Release 5 ∷ Release 6 ∷ Rise 1 ∷ Strike 5 ∷ []

-- at the next edge of cb, q takes X out of reset
pub record CrossingIsDisturbed : Type 0 where
  pub start : State
  pub run : IsRun example start crossing_events
  pub possible : IsPossible example (state_after example start crossing_events) (Rise 2)
  pub disturbed : Disturbs example (state_after example start crossing_events) (Rise 2) 4
