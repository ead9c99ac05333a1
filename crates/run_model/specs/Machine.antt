-- A machine: what each source of a design is and what its logic computes, without text and gates.
--   Logic, Pin, FlopMeaning, Meaning    a net, the reset of a flop, a flop, a source
--   Machine                             all of it
--   phase_at, pin_phase, phase_of       what a pin does (Phase)
use Rattle.std.specs.Prelude.{ℕ, Bool, true, false, List, Option, Some, None}
use Rattle.rdc_tern.specs.declared.value.Tern.{Tern}
use Rattle.rdc_tern.specs.declared.value.Tern.TheVariants.{Zero, One, Unsettled}
pub use Rattle.run_model.specs.declared.phase.Phase.{Phase}
pub use Rattle.run_model.specs.declared.phase.Phase.TheVariants.{Inactive, Active, Unsure}
use Rattle.run_model.specs.State.{State}

-- a net: its value in a state, and the sources that its logic reads
pub record Logic : Type 0 where
  pub value : State → Tern
  pub cone : ℕ → Bool

-- a flop's asynchronous reset: its net and active level, the bit that it is a plain copy of, and that bit's source if it is one
pub record Pin : Type 0 where
  pub logic : Logic
  pub high : Bool
  pub root : ℕ
  pub copied : Option ℕ

-- a flop: its clock and edge, what it takes at the edge, its pin if it has one, and its reset value
pub record FlopMeaning : Type 0 where
  pub clock : Option ℕ
  pub rising : Bool
  pub reads : Logic
  pub pin : Option Pin
  pub reset : Bool

-- what a source is
pub data Meaning : Type 0 where
  APort : Meaning
  AFlop : FlopMeaning → Meaning

-- a design: how many sources it has and what each is, the active levels of its reset ports, the values of its clocks and tied
-- ports, and its flops in pin order
pub record Machine : Type 0 where
  pub count : ℕ
  pub source : ℕ → Meaning
  pub declared : ℕ → Option Bool
  pub fixed : ℕ → Option Bool
  pub order : List ℕ

-- what a pin of this level does at a value
abbrev pub phase_at : Bool → Tern → Phase
phase_at true Zero = Inactive
phase_at true One = Active
phase_at true Unsettled = Unsure
phase_at false Zero = Active
phase_at false One = Inactive
phase_at false Unsettled = Unsure

-- what a pin does in a state; where there is none, the flop is as one with a pin settled inactive
abbrev pub pin_phase : Option Pin → State → Phase
pin_phase None s = Inactive
pin_phase (Some p) s = phase_at p.high (p.logic.value s)

-- what the pin of a flop does in a state
abbrev pub phase_of : FlopMeaning → State → Phase
phase_of f s = pin_phase f.pin s
