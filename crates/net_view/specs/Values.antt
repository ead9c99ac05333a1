-- What the nodes of a net are worth in a state of its sources.
--   State, at, settled                 a value for each source, and lists and bits as values
--   pick_of, lift_of, gate_value       what a gate makes of its inputs
--   IsValuation, values_after, values  the values of all nodes: what they are, and how they are found
--   IsRaised                           when a state tells no more than another
use Rattle.std.specs.Prelude.{◌≡◌, ℕ, Bool, List, [], ◌∷◌, ◌++◌, length, slice_index_or, if◌then◌else◌}
use Rattle.rdc_tern.specs.declared.value.Tern.{Tern}
use Rattle.rdc_tern.specs.declared.value.Tern.TheVariants.{Zero, One, Unsettled}
use Rattle.rdc_tern.specs.Kleene.{not_of, and_of, or_of, xor_of, join_of, IsBelow}
use Rattle.net_view.specs.declared.gate.Gate.TheVariants.{Const, Source, Not, And, Or, Xor, Pick, Lift}
use Rattle.net_view.specs.View.{Numbered, IsGateAt}

-- the value of each source, by number
abbrev pub State : Type 0
State = ℕ → Tern

-- the value at a place of a list, X past its end
abbrev pub at : List Tern → State
at values k = slice_index_or values k Unsettled

-- a bit, settled
abbrev pub settled : Bool → Tern
settled b = if b then One else Zero

-- a where the pin is 1, b where it is 0, else what they agree on, or X
abbrev pub pick_of : Tern → Tern → Tern → Tern
pick_of One a b = a
pick_of Zero a b = b
pick_of Unsettled a b = join_of a b

-- the value where the pin is 0, else what it and the reset value agree on, or X
abbrev pub lift_of : Tern → Tern → Tern → Tern
lift_of Zero value reset = value
lift_of One value reset = join_of value reset
lift_of Unsettled value reset = join_of value reset

-- a gate's value, of the sources and of the nodes that it reads
abbrev pub gate_value : State → State → Numbered → Tern
gate_value sources nodes (Const b) = settled b
gate_value sources nodes (Source s) = sources s
gate_value sources nodes (Not a) = not_of (nodes a)
gate_value sources nodes (And a b) = and_of (nodes a) (nodes b)
gate_value sources nodes (Or a b) = or_of (nodes a) (nodes b)
gate_value sources nodes (Xor a b) = xor_of (nodes a) (nodes b)
gate_value sources nodes (Pick c a b) = pick_of (nodes c) (nodes a) (nodes b)
gate_value sources nodes (Lift c a r) = lift_of (nodes c) (nodes a) (settled r)

-- each node has its gate's value
pub record IsValuation (gates : List Numbered) (sources : State) (values : List Tern) : Type 0 where
  pub whole : length values ≡ length gates
  pub each : (k : ℕ) (g : Numbered) → IsGateAt gates k g → at values k ≡ gate_value sources (at values) g

-- the values of further gates, behind those that are known
abbrev pub values_after : State → List Tern → List Numbered → List Tern
values_after sources known [] = known
values_after sources known (g ∷ gates) = values_after sources (known ++ gate_value sources (at known) g ∷ []) gates

-- the values of the nodes, from left to right
abbrev pub values : List Numbered → State → List Tern
values gates sources = values_after sources [] gates

-- the second state has each source as the first has it, or X
abbrev pub IsRaised : State → State → Type 0
IsRaised low high = (s : ℕ) → IsBelow (low s) (high s)
