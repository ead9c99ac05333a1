-- What the passes of a step do to a state, and which flop they name. No public clause speaks of them.
--   written                          what a pass leaves
--   is_unsettled, is_inactive        tests of a value and of a pin
--   takes_unsettled, is_left         tests of a source, for an edge and for a Calm
--   settled_count, FallsIf           how a round of raises changes a state
--   lesser, better, least_of         the least source that passes a test
--   answer_of, edge_of               the answer, and the event of an edge
use Rattle.std.specs.Prelude.{◌≡◌, ℕ, ◌+◌, ◌<◌, min, Bool, true, false, ◌&&◌, List, [], ◌∷◌, Option, None, Some}
use Rattle.rdc_tern.specs.declared.value.Tern.{Tern}
use Rattle.rdc_tern.specs.declared.value.Tern.TheVariants.{Zero, One, Unsettled}
use Rattle.run_model.specs.declared.event.Event.{Event}
use Rattle.run_model.specs.declared.event.Event.TheVariants.{Rise, Fall}
use Rattle.run_model.specs.declared.answer.Stepped.{Stepped}
use Rattle.run_model.specs.declared.answer.Stepped.TheVariants.{Done, Disturbed}
use Rattle.run_model.specs.State.{State, with_value}
use Rattle.run_model.specs.Machine.{Meaning, APort, AFlop, Phase, Inactive, Active, Unsure, phase_of}
use Rattle.run_model.specs.Event.{is_clocked}

-- each source of a list takes its value in another state
abbrev pub written : State → List ℕ → State → State
written value [] s = s
written value (n ∷ ns) s = written value ns (with_value s n (value n))

-- whether a value is X
abbrev pub is_unsettled : Tern → Bool
is_unsettled Zero = false
is_unsettled One = false
is_unsettled Unsettled = true

-- how many values are settled
abbrev pub settled_count : List Tern → ℕ
settled_count [] = 0
settled_count (Zero ∷ vs) = 1 + settled_count vs
settled_count (One ∷ vs) = 1 + settled_count vs
settled_count (Unsettled ∷ vs) = settled_count vs

-- from the first list to the second fewer values are settled, or nothing changes
abbrev pub FallsIf : Bool → List Tern → List Tern → Type 0
FallsIf true before now = settled_count now < settled_count before
FallsIf false before now = now ≡ before

-- whether a pin is settled inactive
abbrev pub is_inactive : Phase → Bool
is_inactive Inactive = true
is_inactive Active = false
is_inactive Unsure = false

-- whether an edge lets the source take X
abbrev pub takes_unsettled : Meaning → ℕ → Bool → State → Bool
takes_unsettled APort c rising s = false
takes_unsettled (AFlop f) c rising s = is_clocked f c rising && is_inactive (phase_of f s) && is_unsettled (f.reads.value s)

-- whether a source of this value is a flop at X out of reset
abbrev pub is_left : Meaning → State → Tern → Bool
is_left APort s v = false
is_left (AFlop f) s v = is_inactive (phase_of f s) && is_unsettled v

-- the lesser of a number and one that may be there
abbrev pub lesser : Option ℕ → ℕ → ℕ
lesser None n = n
lesser (Some k) n = min k n

-- the best so far and a number that counts or not
abbrev pub better : Option ℕ → Bool → ℕ → Option ℕ
better best false n = best
better best true n = Some (lesser best n)

-- the least number of a list that passes a test, or the best so far
abbrev pub least_of : (ℕ → Bool) → List ℕ → Option ℕ → Option ℕ
least_of test [] best = best
least_of test (n ∷ ns) best = least_of test ns (better best (test n) n)

-- the answer by the least disturbed flop
abbrev pub answer_of : Option ℕ → Stepped
answer_of None = Done
answer_of (Some n) = Disturbed n

-- an edge of a clock
abbrev pub edge_of : Bool → ℕ → Event
edge_of true c = Rise c
edge_of false c = Fall c
