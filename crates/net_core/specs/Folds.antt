-- The folds: what stands for a gate, so that it need not be added as it is. Each is true for 0, 1 and X.
--   constant_of, negated_of                       what a gate tells of its node, whatever the sources are
--   not_made, and_made, or_made, xor_made, folded  what stands for a gate: a node that is there, or a gate to add
--   added, node_of                                the gates, and the node, once that is done
--   HasValue                                      the node is worth what the gate is, in every state
-- Nothing else folds: a xor a, a and not a, a or not a are X where a is X, and stay as they are.
use Rattle.std.specs.Prelude.{◌≡◌, ℕ, Bool, true, false, not, List, [], ◌∷◌, ◌++◌, length, slice_get, Option, Some, None, if◌then◌else◌, ◌==◌}
use Rattle.net_view.specs.declared.gate.Gate.TheVariants.{Const, Not, And, Or, Xor}
use Rattle.rdc_tern.specs.declared.value.Tern.{Tern}
use Rattle.net_view.specs.View.{Numbered}
use Rattle.net_view.specs.Values.{State, at, gate_value, IsValuation}
use Rattle.net_core.specs.declared.folds.Made.{Made}
use Rattle.net_core.specs.declared.folds.Made.TheVariants.{There, New}

-- the bit that a gate is, if it is a constant
abbrev pub constant_of : Option Numbered → Option Bool
constant_of (Some (Const b)) = Some b
constant_of k = None

-- the node whose negation a gate is, if it is one
abbrev pub negated_of : Option Numbered → Option ℕ
negated_of (Some (Not a)) = Some a
negated_of k = None

-- not a, of what is known of node a: a constant's negation is a constant, and a negation's is the node itself
abbrev pub not_made : Option Bool → Option ℕ → ℕ → Made
not_made (Some b) n a = New (Const (not b))
not_made None (Some b) a = There b
not_made None None a = New (Not a)

-- a and b: 1 leaves the other, 0 decides, and a and a is a
abbrev pub and_made : Option Bool → Option Bool → ℕ → ℕ → Made
and_made (Some true) v a b = There b
and_made (Some false) v a b = There a
and_made None (Some true) a b = There a
and_made None (Some false) a b = There b
and_made None None a b = if a == b then There a else New (And a b)

-- a or b: 0 leaves the other, 1 decides, and a or a is a
abbrev pub or_made : Option Bool → Option Bool → ℕ → ℕ → Made
or_made (Some true) v a b = There a
or_made (Some false) v a b = There b
or_made None (Some true) a b = There b
or_made None (Some false) a b = There a
or_made None None a b = if a == b then There a else New (Or a b)

-- a xor b, of what not a and not b are: 0 leaves the other, and 1 negates it
abbrev pub xor_made : Option Bool → Option Bool → Made → Made → ℕ → ℕ → Made
xor_made (Some true) v not_a not_b a b = not_b
xor_made (Some false) v not_a not_b a b = There b
xor_made None (Some true) not_a not_b a b = not_a
xor_made None (Some false) not_a not_b a b = There a
xor_made None None not_a not_b a b = New (Xor a b)

-- the constant that a node is, and what not a is, in a net
abbrev pub constant_at : List Numbered → ℕ → Option Bool
constant_at gates a = constant_of (slice_get gates a)

abbrev pub not_at : List Numbered → ℕ → Made
not_at gates a = not_made (constant_at gates a) (negated_of (slice_get gates a)) a

-- what stands for a gate in a net
abbrev pub folded : List Numbered → Numbered → Made
folded gates (Not a) = not_at gates a
folded gates (And a b) = and_made (constant_at gates a) (constant_at gates b) a b
folded gates (Or a b) = or_made (constant_at gates a) (constant_at gates b) a b
folded gates (Xor a b) = xor_made (constant_at gates a) (constant_at gates b) (not_at gates a) (not_at gates b) a b
folded gates g = New g

-- the gates with the one that is to be added, if one is
abbrev pub added : List Numbered → Made → List Numbered
added gates (There n) = gates
added gates (New g) = gates ++ g ∷ []

-- the node that was there, or the new one
abbrev pub node_of : List Numbered → Made → ℕ
node_of gates (There n) = n
node_of gates (New g) = length gates

-- in every net that begins with these gates, and in every ternary state, the node is worth what the gate is
abbrev pub HasValue : List Numbered → ℕ → Numbered → Type 0
HasValue gates n g =
    (more : List Numbered) (state : State) (found : List Tern) → IsValuation (gates ++ more) state found → at found n ≡ gate_value state (at found) g
