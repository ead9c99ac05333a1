-- The theorems of the event model, each the clause of a function of `theorems`.
--   RulesHold, CleanIsSafe    what holds in every run, and what structure alone shows
--   PowersUp, UpIsOne         what every lawful machine has
--   ProgressBegins            when a reset is in progress
--   AgreeingIsSafe            how a theorem carries over
--   ExampleRuns               that the definitions are met by something
use Rattle.std.specs.Prelude.{◌≡◌, ◌↔◌, ℕ, ◌<◌, Bool, Some, List, [], ◌∷◌}
use Rattle.run_model.specs.declared.event.Event.{Event}
use Rattle.run_model.specs.declared.event.Event.TheVariants.{Strike}
use Rattle.run_model.specs.State.{State}
use Rattle.run_model.specs.Machine.{Machine}
use Rattle.run_model.specs.Laws.{IsMachine}
use Rattle.run_model.specs.Domain.{IsInProgress}
use Rattle.run_model.specs.Up.{up, IsUp}
use Rattle.run_model.specs.Event.{after}
use Rattle.run_model.specs.Run.{IsPowerUp, IsRun, state_after}
use Rattle.run_model.specs.Rules.{MeetsRules}
use Rattle.run_model.specs.Same.{IsClean}
use Rattle.run_model.specs.Safe.{IsSafe}
use Rattle.run_model.specs.Agrees.{Agrees}
use Rattle.run_model.specs.Netlist.{level_of, machine_of}
use Rattle.run_model.specs.ExampleNet.{example_netlist, example_resets}
use Rattle.run_model.specs.Example.{example, example_fixed, EveryKindComes, CrossingIsDisturbed}

-- the reset rules hold in the last state of every undisturbed run
abbrev pub RulesHold : Type 0
RulesHold = (m : Machine) → IsMachine m → (s : State) (es : List Event) → IsRun m s es → MeetsRules m (state_after m s es)

-- where no edge crosses and every calm is direct, no run disturbs a flop
abbrev pub CleanIsSafe : Type 0
CleanIsSafe = (m : Machine) → IsMachine m → IsClean m → IsSafe m

-- every lawful machine can power up
abbrev pub PowersUp : Type 0
PowersUp = (m : Machine) → IsMachine m → (s : State) × IsPowerUp m s

-- up is the one solution of its equations, which name no order
abbrev pub UpIsOne : Type 0
UpIsOne = (m : Machine) → IsMachine m → (s t : State) → IsUp m s t ↔ (t ≡ up m s)

-- no reset is in progress at power-up, and a strike begins it
pub record ProgressBegins : Type 0 where
  pub none : (m : Machine) → IsMachine m → (s : State) → IsPowerUp m s → (r : ℕ) (high : Bool) → r < m.count → m.declared r ≡ Some high → IsInProgress m s r high → ⊥
  pub struck : (m : Machine) → IsMachine m → (s : State) (r : ℕ) (high : Bool) → m.declared r ≡ Some high → IsInProgress m (after m s (Strike r)) r high

-- machines that agree are safe alike, if they list their flops in one order or meet the laws
pub record AgreeingIsSafe : Type 0 where
  pub one_order : (m k : Machine) → Agrees m k → m.order ≡ k.order → IsSafe m → IsSafe k
  pub any_order : (m k : Machine) → Agrees m k → IsMachine m → IsMachine k → IsSafe m → IsSafe k

-- the example is the machine of its net and lawful, every kind of event comes, and its crossing is a disturbance
pub record ExampleRuns : Type 0 where
  pub net : Agrees (machine_of example_netlist (level_of example_resets) example_fixed (0 ∷ 4 ∷ [])) example
  pub lawful : IsMachine example
  pub every_kind : EveryKindComes
  pub crossing : CrossingIsDisturbed
  pub unsafe : IsSafe example → ⊥
