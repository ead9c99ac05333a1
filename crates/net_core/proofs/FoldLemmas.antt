-- Serves specs/Folds.antt: what stands for a gate is worth what the gate is.
use Rattle.std.proofs.Common.{◌≡◌, ℕ, ◌<◌, Bool, true, false, not, List, [], ◌∷◌, ◌++◌, length, refl, sym, ap, ◌∙◌, Option, Some, None, arith, rules, slice_get, if◌then◌else◌, ◌==◌}
use Rattle.std.proofs.lemmas.Bool.{eqb-true}
use Rattle.std.proofs.lemmas.List.{get_or_append_left, get_or_at, length-append}
use Rattle.std.proofs.lemmas.Option.{slice_get_within, slice_get_read, get_or_from_slice_get}
use Rattle.rdc_tern.specs.declared.value.Tern.{Tern}
use Rattle.rdc_tern.specs.Kleene.{not_of, and_of, or_of, xor_of}
use Rattle.net_view.specs.declared.gate.Gate.TheVariants.{Const, Source, Not, And, Or, Xor, Pick, Lift}
use Rattle.net_view.specs.View.{Numbered, IsGateAt}
use Rattle.net_view.specs.Values.{State, at, settled, gate_value, IsValuation}
use Rattle.net_core.specs.declared.folds.Made.{Made}
use Rattle.net_core.specs.declared.folds.Made.TheVariants.{There, New}
use Rattle.net_core.specs.Folds.{constant_of, negated_of, not_made, and_made, or_made, xor_made, constant_at, not_at, folded, added, node_of, HasValue}

-- the value of what stands for a gate
abbrev pub made_value : State → State → Made → Tern
made_value state nodes (There n) = nodes n
made_value state nodes (New g) = gate_value state nodes g

-- the node has the value of the gate that is found for it
abbrev Tells : State → State → Option Numbered → ℕ → Type 0
Tells state nodes k a = (g : Numbered) → k ≡ Some g → nodes a ≡ gate_value state nodes g

-- the node is a constant, if it is known to be one
abbrev IsKnown : State → Option Bool → ℕ → Type 0
IsKnown nodes k a = (b : Bool) → k ≡ Some b → nodes a ≡ settled b

-- the node is a negation, if it is known to be one
abbrev IsNegation : State → Option ℕ → ℕ → Type 0
IsNegation nodes k a = (x : ℕ) → k ≡ Some x → nodes a ≡ not_of (nodes x)

some_bool : (a b : Bool) → Some a ≡ Some b → a ≡ b
some_bool a b e = cc

some_nat : (a b : ℕ) → Some a ≡ Some b → a ≡ b
some_nat a b e = cc

constant_known : (state nodes : State) (k : Option Numbered) (a : ℕ) → Tells state nodes k a → IsKnown nodes (constant_of k) a
constant_known state nodes (Some (Const c)) a tells b e = tells (Const c) refl ∙ ap settled (some_bool c b e)
constant_known state nodes (Some (Source s)) a tells b e = absurd (cc)
constant_known state nodes (Some (Not x)) a tells b e = absurd (cc)
constant_known state nodes (Some (And x y)) a tells b e = absurd (cc)
constant_known state nodes (Some (Or x y)) a tells b e = absurd (cc)
constant_known state nodes (Some (Xor x y)) a tells b e = absurd (cc)
constant_known state nodes (Some (Pick c x y)) a tells b e = absurd (cc)
constant_known state nodes (Some (Lift c x r)) a tells b e = absurd (cc)
constant_known state nodes None a tells b e = absurd (cc)

negation_known : (state nodes : State) (k : Option Numbered) (a : ℕ) → Tells state nodes k a → IsNegation nodes (negated_of k) a
negation_known state nodes (Some (Not y)) a tells x e = tells (Not y) refl ∙ ap (λ z. not_of (nodes z)) (some_nat y x e)
negation_known state nodes (Some (Const c)) a tells x e = absurd (cc)
negation_known state nodes (Some (Source s)) a tells x e = absurd (cc)
negation_known state nodes (Some (And y z)) a tells x e = absurd (cc)
negation_known state nodes (Some (Or y z)) a tells x e = absurd (cc)
negation_known state nodes (Some (Xor y z)) a tells x e = absurd (cc)
negation_known state nodes (Some (Pick c y z)) a tells x e = absurd (cc)
negation_known state nodes (Some (Lift c y r)) a tells x e = absurd (cc)
negation_known state nodes None a tells x e = absurd (cc)

not_settled_is : (b : Bool) → settled (not b) ≡ not_of (settled b)
not_settled_is true = refl
not_settled_is false = refl

not_not : (v : Tern) → v ≡ not_of (not_of v)
not_not v = search rules

and_itself : (v : Tern) → v ≡ and_of v v
and_itself v = search rules

or_itself : (v : Tern) → v ≡ or_of v v
or_itself v = search rules

and_one : (v : Tern) → v ≡ and_of v (settled true)
and_one v = search rules

and_zero : (v : Tern) → settled false ≡ and_of v (settled false)
and_zero v = search rules

or_one : (v : Tern) → settled true ≡ or_of v (settled true)
or_one v = search rules

or_zero : (v : Tern) → v ≡ or_of v (settled false)
or_zero v = search rules

xor_one : (v : Tern) → not_of v ≡ xor_of v (settled true)
xor_one v = search rules

xor_zero : (v : Tern) → v ≡ xor_of v (settled false)
xor_zero v = search rules

not_value : (state nodes : State) (k : Option Bool) (n : Option ℕ) (a : ℕ) → IsKnown nodes k a → IsNegation nodes n a → made_value state nodes (not_made k n a) ≡ not_of (nodes a)
not_value state nodes (Some b) n a known negation = not_settled_is b ∙ ap not_of (sym (known b refl))
not_value state nodes None (Some x) a known negation = not_not (nodes x) ∙ ap not_of (sym (negation x refl))
not_value state nodes None None a known negation = refl

and_value : (state nodes : State) (k l : Option Bool) (a b : ℕ) → IsKnown nodes k a → IsKnown nodes l b → made_value state nodes (and_made k l a b) ≡ and_of (nodes a) (nodes b)
and_value state nodes (Some true) l a b left right = ap (λ v. and_of v (nodes b)) (sym (left true refl))
and_value state nodes (Some false) l a b left right = left false refl ∙ ap (λ v. and_of v (nodes b)) (sym (left false refl))
and_value state nodes None (Some true) a b left right = and_one (nodes a) ∙ ap (and_of (nodes a)) (sym (right true refl))
and_value state nodes None (Some false) a b left right = right false refl ∙ and_zero (nodes a) ∙ ap (and_of (nodes a)) (sym (right false refl))
and_value state nodes None None a b left right = by (a == b) refl
  where
    by : (t : Bool) → (a == b) ≡ t → made_value state nodes (if t then There a else New (And a b)) ≡ and_of (nodes a) (nodes b)
    by true e = and_itself (nodes a) ∙ ap (λ z. and_of (nodes a) (nodes z)) (eqb-true a b e)
    by false e = refl

or_value : (state nodes : State) (k l : Option Bool) (a b : ℕ) → IsKnown nodes k a → IsKnown nodes l b → made_value state nodes (or_made k l a b) ≡ or_of (nodes a) (nodes b)
or_value state nodes (Some true) l a b left right = left true refl ∙ ap (λ v. or_of v (nodes b)) (sym (left true refl))
or_value state nodes (Some false) l a b left right = ap (λ v. or_of v (nodes b)) (sym (left false refl))
or_value state nodes None (Some true) a b left right = right true refl ∙ or_one (nodes a) ∙ ap (or_of (nodes a)) (sym (right true refl))
or_value state nodes None (Some false) a b left right = or_zero (nodes a) ∙ ap (or_of (nodes a)) (sym (right false refl))
or_value state nodes None None a b left right = by (a == b) refl
  where
    by : (t : Bool) → (a == b) ≡ t → made_value state nodes (if t then There a else New (Or a b)) ≡ or_of (nodes a) (nodes b)
    by true e = or_itself (nodes a) ∙ ap (λ z. or_of (nodes a) (nodes z)) (eqb-true a b e)
    by false e = refl

xor_value : (state nodes : State) (k l : Option Bool) (m n : Made) (a b : ℕ) → IsKnown nodes k a → IsKnown nodes l b → made_value state nodes m ≡ not_of (nodes a) → made_value state nodes n ≡ not_of (nodes b)
    → made_value state nodes (xor_made k l m n a b) ≡ xor_of (nodes a) (nodes b)
xor_value state nodes (Some true) l m n a b left right not_a not_b = not_b ∙ ap (λ v. xor_of v (nodes b)) (sym (left true refl))
xor_value state nodes (Some false) l m n a b left right not_a not_b = ap (λ v. xor_of v (nodes b)) (sym (left false refl))
xor_value state nodes None (Some true) m n a b left right not_a not_b = not_a ∙ xor_one (nodes a) ∙ ap (xor_of (nodes a)) (sym (right true refl))
xor_value state nodes None (Some false) m n a b left right not_a not_b = xor_zero (nodes a) ∙ ap (xor_of (nodes a)) (sym (right false refl))
xor_value state nodes None None m n a b left right not_a not_b = refl

-- each gate that is found for a node tells the node's value
abbrev TellsAll : State → State → List Numbered → Type 0
TellsAll state nodes gates = (a : ℕ) → Tells state nodes (slice_get gates a) a

constants : (state nodes : State) (gates : List Numbered) → TellsAll state nodes gates → (a : ℕ) → IsKnown nodes (constant_at gates a) a
constants state nodes gates tells a = constant_known state nodes (slice_get gates a) a (tells a)

negations : (state nodes : State) (gates : List Numbered) → TellsAll state nodes gates → (a : ℕ) → made_value state nodes (not_at gates a) ≡ not_of (nodes a)
negations state nodes gates tells a = not_value state nodes (constant_at gates a) (negated_of (slice_get gates a)) a (constants state nodes gates tells a) (negation_known state nodes (slice_get gates a) a (tells a))

-- what stands for a gate is worth what it is
folded_value : (state nodes : State) (gates : List Numbered) (g : Numbered) → TellsAll state nodes gates → made_value state nodes (folded gates g) ≡ gate_value state nodes g
folded_value state nodes gates (Const b) tells = refl
folded_value state nodes gates (Source s) tells = refl
folded_value state nodes gates (Not a) tells = negations state nodes gates tells a
folded_value state nodes gates (And a b) tells = and_value state nodes _ _ a b (constants state nodes gates tells a) (constants state nodes gates tells b)
folded_value state nodes gates (Or a b) tells = or_value state nodes _ _ a b (constants state nodes gates tells a) (constants state nodes gates tells b)
folded_value state nodes gates (Xor a b) tells =
    xor_value state nodes _ _ _ _ a b (constants state nodes gates tells a) (constants state nodes gates tells b) (negations state nodes gates tells a) (negations state nodes gates tells b)
folded_value state nodes gates (Pick c a b) tells = refl
folded_value state nodes gates (Lift c a r) tells = refl

-- a gate of the front is that gate of the whole
pub front_gate : (gates more : List Numbered) (k : ℕ) (g : Numbered) → IsGateAt gates k g → IsGateAt (gates ++ more) k g
front_gate gates more k g is =
    let inside : k < length gates = slice_get_within gates k g is in
    let whole : k < length (gates ++ more) = omega (arith, inside, length-append gates more) in
    slice_get_read (gates ++ more) (length (gates ++ more)) k g refl whole (sym (get_or_append_left gates more g k inside ∙ get_or_from_slice_get gates k g g is))

-- the gate behind a front
pub next_gate : (gates : List Numbered) (g : Numbered) → IsGateAt (gates ++ g ∷ []) (length gates) g
next_gate gates g =
    let inside : length gates < length (gates ++ g ∷ []) = omega (arith, length-append gates (g ∷ [])) in
    slice_get_read (gates ++ g ∷ []) (length (gates ++ g ∷ [])) (length gates) g refl inside (sym (get_or_at gates g [] g (length gates) refl))

-- in each valuation of a net that begins with these gates they tell their nodes' values
tells_front : (gates more : List Numbered) (state : State) (found : List Tern) → IsValuation (gates ++ more) state found → TellsAll state (at found) gates
tells_front gates more state found valued a g is = valued.each a g (front_gate gates more a g is)

node_value : (gates : List Numbered) (made : Made) (more : List Numbered) (state : State) (found : List Tern) → IsValuation (added gates made ++ more) state found
    → at found (node_of gates made) ≡ made_value state (at found) made
node_value gates (There n) more state found valued = refl
node_value gates (New g) more state found valued = valued.each (length gates) g (front_gate (gates ++ g ∷ []) more (length gates) g (next_gate gates g))

tells_added : (gates : List Numbered) (made : Made) (more : List Numbered) (state : State) (found : List Tern) → IsValuation (added gates made ++ more) state found → TellsAll state (at found) gates
tells_added gates (There n) more state found valued = tells_front gates more state found valued
tells_added gates (New g) more state found valued = λ a h is. valued.each a h (front_gate (gates ++ g ∷ []) more a h (front_gate gates (g ∷ []) a h is))

-- the node of an added gate has the gate's value
pub added_value : (gates : List Numbered) (g : Numbered) → HasValue (added gates (folded gates g)) (node_of gates (folded gates g)) g
added_value gates g more state found valued =
    node_value gates (folded gates g) more state found valued ∙ folded_value state (at found) gates g (tells_added gates (folded gates g) more state found valued)
