-- Serves specs/States.antt: an assignment meets a node's clauses where its rails are those of the gate's value.
use Rattle.std.proofs.Common.{◌≡◌, ℕ, ◌<◌, Bool, true, false, ◌&&◌, ◌||◌, List, [], ◌∷◌, ◌++◌, refl, sym, ◌∙◌, arith, rules, inl, inr, ◌⊎◌}
use Rattle.std.specs.Prelude.{⊤}
use Rattle.std.specs.List.{list_all, list_any}
use Rattle.rdc_tern.specs.declared.value.Tern.{Tern}
use Rattle.rdc_tern.specs.declared.value.Tern.TheVariants.{Zero, One, Unsettled}
use Rattle.rdc_tern.specs.Kleene.{not_of, and_of, or_of, xor_of, IsSettled}
use Rattle.net_view.specs.declared.gate.Gate.TheVariants.{Const, Source, Not, And, Or, Xor, Pick, Lift}
use Rattle.net_view.specs.View.{Numbered, Reads}
use Rattle.net_view.specs.Values.{State, pick_of, lift_of, settled, gate_value}
use Rattle.sat_chain.specs.Clause.{Meets, MeetsAll}
use Rattle.tern_cnf.specs.Written.{stated, negated, clause}
use Rattle.tern_cnf.specs.Rails.{one_rail, zero_rail, is_sum, is_difference, free, node_clauses}
use Rattle.tern_cnf.specs.Sums.{AreVariables}
use Rattle.tern_cnf.specs.States.{may_be_one, may_be_zero}
use Rattle.tern_cnf.proofs.MeetsLemmas.{clause_to, clause_from}
use Rattle.tern_cnf.proofs.SumLemmas.{AreProducts, negated_to, negated_from, met_append, met_parts, sum_to, sum_from, difference_to, difference_from}

-- the rails of a node are those of a value
pub record RailsAt (a : ℕ → Bool) (k : ℕ) (t : Tern) : Type 0 where
  pub one : a (one_rail k) ≡ may_be_one t
  pub zero : a (zero_rail k) ≡ may_be_zero t

-- a product of two, and a sum
abbrev both : Bool → Bool → Bool
both x y = (x && (y && true)) || false

abbrev either : Bool → Bool → Bool
either x y = (x && true) || ((y && true) || false)

abbrev picked : Bool → Bool → Bool → Bool → Bool
picked s x t y = (s && (x && true)) || ((t && (y && true)) || false)

abbrev chosen : Bool → Bool → Bool → Bool → Bool
chosen x y x' y' = (x || (y || false)) && ((x' || (y' || false)) && true)

and_one : (x y : Tern) → both (may_be_one x) (may_be_one y) ≡ may_be_one (and_of x y)
and_one x y = search rules

and_zero : (x y : Tern) → either (may_be_zero x) (may_be_zero y) ≡ may_be_zero (and_of x y)
and_zero x y = search rules

or_one : (x y : Tern) → either (may_be_one x) (may_be_one y) ≡ may_be_one (or_of x y)
or_one x y = search rules

or_zero : (x y : Tern) → both (may_be_zero x) (may_be_zero y) ≡ may_be_zero (or_of x y)
or_zero x y = search rules

xor_one : (x y : Tern) → picked (may_be_one x) (may_be_zero y) (may_be_zero x) (may_be_one y) ≡ may_be_one (xor_of x y)
xor_one x y = search rules

xor_one_chosen : (x y : Tern) → chosen (may_be_one x) (may_be_one y) (may_be_zero x) (may_be_zero y) ≡ may_be_one (xor_of x y)
xor_one_chosen x y = search rules

xor_zero : (x y : Tern) → picked (may_be_one x) (may_be_one y) (may_be_zero x) (may_be_zero y) ≡ may_be_zero (xor_of x y)
xor_zero x y = search rules

xor_zero_chosen : (x y : Tern) → chosen (may_be_one x) (may_be_zero y) (may_be_zero x) (may_be_one y) ≡ may_be_zero (xor_of x y)
xor_zero_chosen x y = search rules

pick_one : (s x y : Tern) → picked (may_be_one s) (may_be_one x) (may_be_zero s) (may_be_one y) ≡ may_be_one (pick_of s x y)
pick_one s x y = search rules

pick_zero : (s x y : Tern) → picked (may_be_one s) (may_be_zero x) (may_be_zero s) (may_be_zero y) ≡ may_be_zero (pick_of s x y)
pick_zero s x y = search rules

lift_one_one : (s x : Tern) → either (may_be_one x) (may_be_one s) ≡ may_be_one (lift_of s x One)
lift_one_one s x = search rules

lift_one_zero : (s x : Tern) → ((may_be_zero x && true) || false) ≡ may_be_zero (lift_of s x One)
lift_one_zero s x = search rules

lift_zero_one : (s x : Tern) → ((may_be_one x && true) || false) ≡ may_be_one (lift_of s x Zero)
lift_zero_one s x = search rules

lift_zero_zero : (s x : Tern) → either (may_be_zero x) (may_be_one s) ≡ may_be_zero (lift_of s x Zero)
lift_zero_zero s x = search rules

not_one : (x : Tern) → ((may_be_zero x && true) || false) ≡ may_be_one (not_of x)
not_one x = search rules

not_zero : (x : Tern) → ((may_be_one x && true) || false) ≡ may_be_zero (not_of x)
not_zero x = search rules

one_positive : (k : ℕ) → 0 < one_rail k
one_positive k = omega arith

zero_positive : (k : ℕ) → 0 < zero_rail k
zero_positive k = omega arith

-- two sums, one for each rail
sums_to : (a : ℕ → Bool) (y : ℕ) (ps ns : List (List ℕ)) (t : Tern) → AreProducts ps → AreProducts ns → list_any (list_all a) ps ≡ may_be_one t → list_any (list_all a) ns ≡ may_be_zero t
    → MeetsAll a (is_sum (one_rail y) ps ++ is_sum (zero_rail y) ns) → RailsAt a y t
sums_to a y ps ns t p n one zero h =
    let parts = met_parts a (is_sum (one_rail y) ps) (is_sum (zero_rail y) ns) h in
    record { one = sum_to a (one_rail y) ps (one_positive y) p parts.0 ∙ one; zero = sum_to a (zero_rail y) ns (zero_positive y) n parts.1 ∙ zero }

sums_from : (a : ℕ → Bool) (y : ℕ) (ps ns : List (List ℕ)) (t : Tern) → AreProducts ps → AreProducts ns → list_any (list_all a) ps ≡ may_be_one t → list_any (list_all a) ns ≡ may_be_zero t
    → RailsAt a y t → MeetsAll a (is_sum (one_rail y) ps ++ is_sum (zero_rail y) ns)
sums_from a y ps ns t p n one zero h =
    met_append a (is_sum (one_rail y) ps) (is_sum (zero_rail y) ns) (sum_from a (one_rail y) ps (one_positive y) p (h.one ∙ sym one)) (sum_from a (zero_rail y) ns (zero_positive y) n (h.zero ∙ sym zero))

-- a clause of one literal
stated_to : (a : ℕ → Bool) (v : ℕ) → MeetsAll a (clause (stated v ∷ [])) → a v ≡ true
stated_to a v h = elim (clause_to a (stated v ∷ []) h) [ inl here ↦ here | inr none ↦ absurd none ]

stated_from : (a : ℕ → Bool) (v : ℕ) → a v ≡ true → MeetsAll a (clause (stated v ∷ []))
stated_from a v h = clause_from a (stated v ∷ []) (inl h)

refused_to : (a : ℕ → Bool) (v : ℕ) → 0 < v → MeetsAll a (clause (negated v ∷ [])) → a v ≡ false
refused_to a v lt h = elim (clause_to a (negated v ∷ []) h) [ inl here ↦ negated_to a v lt here | inr none ↦ absurd none ]

refused_from : (a : ℕ → Bool) (v : ℕ) → 0 < v → a v ≡ false → MeetsAll a (clause (negated v ∷ []))
refused_from a v lt h = clause_from a (negated v ∷ []) (inl (negated_from a v lt h))

const_to : (a : ℕ → Bool) (b bit : Bool) (y : ℕ) → MeetsAll a (node_clauses b y (Const bit)) → RailsAt a y (settled bit)
const_to a b true y h =
    let parts = met_parts a (clause (stated (one_rail y) ∷ [])) (clause (negated (zero_rail y) ∷ [])) h in
    record { one = stated_to a (one_rail y) parts.0; zero = refused_to a (zero_rail y) (zero_positive y) parts.1 }
const_to a b false y h =
    let parts = met_parts a (clause (negated (one_rail y) ∷ [])) (clause (stated (zero_rail y) ∷ [])) h in
    record { one = refused_to a (one_rail y) (one_positive y) parts.0; zero = stated_to a (zero_rail y) parts.1 }

const_from : (a : ℕ → Bool) (b bit : Bool) (y : ℕ) → RailsAt a y (settled bit) → MeetsAll a (node_clauses b y (Const bit))
const_from a b true y h =
    met_append a (clause (stated (one_rail y) ∷ [])) (clause (negated (zero_rail y) ∷ [])) (stated_from a (one_rail y) h.one) (refused_from a (zero_rail y) (zero_positive y) h.zero)
const_from a b false y h =
    met_append a (clause (negated (one_rail y) ∷ [])) (clause (stated (zero_rail y) ∷ [])) (refused_from a (one_rail y) (one_positive y) h.one) (stated_from a (zero_rail y) h.zero)

-- the value of two rails
abbrev pub value_of : Bool → Bool → Tern
value_of true false = One
value_of false true = Zero
value_of true true = Unsettled
value_of false false = Unsettled

either_true : (x y : Bool) → (x ≡ true) ⊎ ((y ≡ true) ⊎ ⊥) → (x ≡ may_be_one (value_of x y)) × (y ≡ may_be_zero (value_of x y))
either_true true true h = (refl, refl)
either_true true false h = (refl, refl)
either_true false true h = (refl, refl)
either_true false false h = elim h [ inl no_one ↦ cc | inr other ↦ elim other [ inl no_zero ↦ cc | inr none ↦ absurd none ] ]

not_both : (x y : Bool) → (x ≡ false) ⊎ (y ≡ false) → (x ≡ true) ⊎ (y ≡ true) → IsSettled (value_of x y)
not_both true true h k = elim h [ inl e ↦ cc | inr e ↦ cc ]
not_both true false h k = λ e. cc
not_both false true h k = λ e. cc
not_both false false h k = elim k [ inl e ↦ cc | inr e ↦ cc ]

free_rails : (a : ℕ → Bool) (b : Bool) (y : ℕ) → MeetsAll a (free b y) → Meets a (stated (one_rail y) ∷ stated (zero_rail y) ∷ [])
free_rails a true y h = clause_to a _ (met_parts a (clause (stated (one_rail y) ∷ stated (zero_rail y) ∷ [])) (clause (negated (one_rail y) ∷ negated (zero_rail y) ∷ [])) h).0
free_rails a false y h = clause_to a _ h

-- the clauses of a source are met where its rails are those of a value, which is settled where that is asked
pub source_to : (a : ℕ → Bool) (b : Bool) (y : ℕ) → MeetsAll a (free b y) → RailsAt a y (value_of (a (one_rail y)) (a (zero_rail y)))
source_to a b y h = let e = either_true (a (one_rail y)) (a (zero_rail y)) (free_rails a b y h) in record { one = e.0; zero = e.1 }

pub source_settled : (a : ℕ → Bool) (y : ℕ) (t : Tern) → RailsAt a y t → MeetsAll a (free true y) → IsSettled t
source_settled a y Zero at h = λ e. cc
source_settled a y One at h = λ e. cc
source_settled a y Unsettled at h =
    let parts = met_parts a (clause (stated (one_rail y) ∷ stated (zero_rail y) ∷ [])) (clause (negated (one_rail y) ∷ negated (zero_rail y) ∷ [])) h in
    elim (clause_to a (negated (one_rail y) ∷ negated (zero_rail y) ∷ []) parts.1) [
      | inl off ↦ let e : a (one_rail y) ≡ false = negated_to a (one_rail y) (one_positive y) off in let f : a (one_rail y) ≡ true = at.one in absurd (cc)
      | inr others ↦ elim others [
        | inl off ↦ let e : a (zero_rail y) ≡ false = negated_to a (zero_rail y) (zero_positive y) off in let f : a (zero_rail y) ≡ true = at.zero in absurd (cc)
        | inr none ↦ absurd none
      ]
    ]

free_one : (a : ℕ → Bool) (y : ℕ) (t : Tern) → RailsAt a y t → Meets a (stated (one_rail y) ∷ stated (zero_rail y) ∷ [])
free_one a y Zero at = inr (inl at.zero)
free_one a y One at = inl at.one
free_one a y Unsettled at = inl at.one

free_not : (a : ℕ → Bool) (y : ℕ) (t : Tern) → RailsAt a y t → IsSettled t → Meets a (negated (one_rail y) ∷ negated (zero_rail y) ∷ [])
free_not a y Zero at h = inl (negated_from a (one_rail y) (one_positive y) at.one)
free_not a y One at h = inr (inl (negated_from a (zero_rail y) (zero_positive y) at.zero))
free_not a y Unsettled at h = absurd (h refl)

source_from : (a : ℕ → Bool) (b : Bool) (y : ℕ) (t : Tern) → RailsAt a y t → (b ≡ true → IsSettled t) → MeetsAll a (free b y)
source_from a true y t at h =
    met_append a (clause (stated (one_rail y) ∷ stated (zero_rail y) ∷ [])) (clause (negated (one_rail y) ∷ negated (zero_rail y) ∷ [])) (clause_from a _ (free_one a y t at))
    (clause_from a _ (free_not a y t at (h refl)))
source_from a false y t at h = clause_from a _ (free_one a y t at)

-- products of rails
one_of : (u : ℕ) → 0 < u → AreProducts ((u ∷ []) ∷ [])
one_of u p = ((p, tt), tt)

product_of : (u v : ℕ) → 0 < u → 0 < v → AreProducts ((u ∷ v ∷ []) ∷ [])
product_of u v p q = ((p, (q, tt)), tt)

sum_of : (u v : ℕ) → 0 < u → 0 < v → AreProducts ((u ∷ []) ∷ (v ∷ []) ∷ [])
sum_of u v p q = ((p, tt), ((q, tt), tt))

picks_of : (u v x w : ℕ) → 0 < u → 0 < v → 0 < x → 0 < w → AreProducts ((u ∷ v ∷ []) ∷ (x ∷ w ∷ []) ∷ [])
picks_of u v x w p q r s = ((p, (q, tt)), ((r, (s, tt)), tt))

rails_of_two : (i j : ℕ) → AreVariables (one_rail i ∷ zero_rail i ∷ one_rail j ∷ zero_rail j ∷ [])
rails_of_two i j = (one_positive i, (zero_positive i, (one_positive j, (zero_positive j, tt))))

rails_turned : (i j : ℕ) → AreVariables (one_rail i ∷ zero_rail i ∷ zero_rail j ∷ one_rail j ∷ [])
rails_turned i j = (one_positive i, (zero_positive i, (zero_positive j, (one_positive j, tt))))

-- a node whose clauses are met has the rails of its gate's value, where what it reads has
pub node_to : (a : ℕ → Bool) (b : Bool) (y : ℕ) (x nodes : State) (g : Numbered) → Reads (λ j. RailsAt a j (nodes j)) (λ s. ⊤) g → ((s : ℕ) → g ≡ Source s → RailsAt a y (x s))
    → MeetsAll a (node_clauses b y g) → RailsAt a y (gate_value x nodes g)
node_to a b y x nodes (Const bit) at own h = const_to a b bit y h
node_to a b y x nodes (Source s) at own h = own s refl
node_to a b y x nodes (Not i) at own h =
    sums_to a y ((zero_rail i ∷ []) ∷ []) ((one_rail i ∷ []) ∷ []) (not_of (nodes i)) (one_of _ (zero_positive i)) (one_of _ (one_positive i)) (rw at.zero (not_one (nodes i))) (rw at.one (not_zero (nodes i))) h
node_to a b y x nodes (And i j) at own h =
    sums_to a y ((one_rail i ∷ one_rail j ∷ []) ∷ []) ((zero_rail i ∷ []) ∷ (zero_rail j ∷ []) ∷ []) (and_of (nodes i) (nodes j)) (product_of _ _ (one_positive i) (one_positive j))
    (sum_of _ _ (zero_positive i) (zero_positive j)) (rw (at.0.one, at.1.one) (and_one (nodes i) (nodes j))) (rw (at.0.zero, at.1.zero) (and_zero (nodes i) (nodes j))) h
node_to a b y x nodes (Or i j) at own h =
    sums_to a y ((one_rail i ∷ []) ∷ (one_rail j ∷ []) ∷ []) ((zero_rail i ∷ zero_rail j ∷ []) ∷ []) (or_of (nodes i) (nodes j)) (sum_of _ _ (one_positive i) (one_positive j))
    (product_of _ _ (zero_positive i) (zero_positive j)) (rw (at.0.one, at.1.one) (or_one (nodes i) (nodes j))) (rw (at.0.zero, at.1.zero) (or_zero (nodes i) (nodes j))) h
node_to a b y x nodes (Xor i j) at own h =
    let parts = met_parts a (is_difference (one_rail y) (one_rail i) (zero_rail i) (one_rail j) (zero_rail j)) (is_difference (zero_rail y) (one_rail i) (zero_rail i) (zero_rail j) (one_rail j)) h in
    record {
      one = difference_to a (one_rail y) (one_rail i) (zero_rail i) (one_rail j) (zero_rail j) (may_be_one (xor_of (nodes i) (nodes j))) (one_positive y) (rails_of_two i j)
          (rw (at.0.one, at.0.zero, at.1.one, at.1.zero) (xor_one (nodes i) (nodes j))) (rw (at.0.one, at.0.zero, at.1.one, at.1.zero) (xor_one_chosen (nodes i) (nodes j))) parts.0;
      zero = difference_to a (zero_rail y) (one_rail i) (zero_rail i) (zero_rail j) (one_rail j) (may_be_zero (xor_of (nodes i) (nodes j))) (zero_positive y) (rails_turned i j)
          (rw (at.0.one, at.0.zero, at.1.one, at.1.zero) (xor_zero (nodes i) (nodes j))) (rw (at.0.one, at.0.zero, at.1.one, at.1.zero) (xor_zero_chosen (nodes i) (nodes j))) parts.1;
    }
node_to a b y x nodes (Pick s i j) at own h =
    sums_to a y ((one_rail s ∷ one_rail i ∷ []) ∷ (zero_rail s ∷ one_rail j ∷ []) ∷ []) ((one_rail s ∷ zero_rail i ∷ []) ∷ (zero_rail s ∷ zero_rail j ∷ []) ∷ []) (pick_of (nodes s) (nodes i) (nodes j))
    (picks_of _ _ _ _ (one_positive s) (one_positive i) (zero_positive s) (one_positive j)) (picks_of _ _ _ _ (one_positive s) (zero_positive i) (zero_positive s) (zero_positive j))
    (rw (at.0.one, at.0.zero, at.1.one, at.2.one) (pick_one (nodes s) (nodes i) (nodes j))) (rw (at.0.one, at.0.zero, at.1.zero, at.2.zero) (pick_zero (nodes s) (nodes i) (nodes j))) h
node_to a b y x nodes (Lift s i true) at own h =
    sums_to a y ((one_rail i ∷ []) ∷ (one_rail s ∷ []) ∷ []) ((zero_rail i ∷ []) ∷ []) (lift_of (nodes s) (nodes i) One) (sum_of _ _ (one_positive i) (one_positive s)) (one_of _ (zero_positive i))
    (rw (at.0.one, at.1.one) (lift_one_one (nodes s) (nodes i))) (rw at.1.zero (lift_one_zero (nodes s) (nodes i))) h
node_to a b y x nodes (Lift s i false) at own h =
    sums_to a y ((one_rail i ∷ []) ∷ []) ((zero_rail i ∷ []) ∷ (one_rail s ∷ []) ∷ []) (lift_of (nodes s) (nodes i) Zero) (one_of _ (one_positive i)) (sum_of _ _ (zero_positive i) (one_positive s))
    (rw at.1.one (lift_zero_one (nodes s) (nodes i))) (rw (at.0.one, at.1.zero) (lift_zero_zero (nodes s) (nodes i))) h

-- a node with the rails of its gate's value meets its clauses
pub node_from : (a : ℕ → Bool) (b : Bool) (y : ℕ) (x nodes : State) (g : Numbered) → Reads (λ j. RailsAt a j (nodes j)) (λ s. ⊤) g → (b ≡ true → IsSettled (gate_value x nodes g)) → RailsAt a y (gate_value x nodes g)
    → MeetsAll a (node_clauses b y g)
node_from a b y x nodes (Const bit) at own h = const_from a b bit y h
node_from a b y x nodes (Source s) at own h = source_from a b y (x s) h own
node_from a b y x nodes (Not i) at own h =
    sums_from a y ((zero_rail i ∷ []) ∷ []) ((one_rail i ∷ []) ∷ []) (not_of (nodes i)) (one_of _ (zero_positive i)) (one_of _ (one_positive i)) (rw at.zero (not_one (nodes i))) (rw at.one (not_zero (nodes i))) h
node_from a b y x nodes (And i j) at own h =
    sums_from a y ((one_rail i ∷ one_rail j ∷ []) ∷ []) ((zero_rail i ∷ []) ∷ (zero_rail j ∷ []) ∷ []) (and_of (nodes i) (nodes j)) (product_of _ _ (one_positive i) (one_positive j))
    (sum_of _ _ (zero_positive i) (zero_positive j)) (rw (at.0.one, at.1.one) (and_one (nodes i) (nodes j))) (rw (at.0.zero, at.1.zero) (and_zero (nodes i) (nodes j))) h
node_from a b y x nodes (Or i j) at own h =
    sums_from a y ((one_rail i ∷ []) ∷ (one_rail j ∷ []) ∷ []) ((zero_rail i ∷ zero_rail j ∷ []) ∷ []) (or_of (nodes i) (nodes j)) (sum_of _ _ (one_positive i) (one_positive j))
    (product_of _ _ (zero_positive i) (zero_positive j)) (rw (at.0.one, at.1.one) (or_one (nodes i) (nodes j))) (rw (at.0.zero, at.1.zero) (or_zero (nodes i) (nodes j))) h
node_from a b y x nodes (Xor i j) at own h =
    met_append a (is_difference (one_rail y) (one_rail i) (zero_rail i) (one_rail j) (zero_rail j)) (is_difference (zero_rail y) (one_rail i) (zero_rail i) (zero_rail j) (one_rail j))
    (difference_from a (one_rail y) (one_rail i) (zero_rail i) (one_rail j) (zero_rail j) (may_be_one (xor_of (nodes i) (nodes j))) (one_positive y) (rails_of_two i j)
    (rw (at.0.one, at.0.zero, at.1.one, at.1.zero) (xor_one (nodes i) (nodes j))) (rw (at.0.one, at.0.zero, at.1.one, at.1.zero) (xor_one_chosen (nodes i) (nodes j))) h.one)
    (difference_from a (zero_rail y) (one_rail i) (zero_rail i) (zero_rail j) (one_rail j) (may_be_zero (xor_of (nodes i) (nodes j))) (zero_positive y) (rails_turned i j)
    (rw (at.0.one, at.0.zero, at.1.one, at.1.zero) (xor_zero (nodes i) (nodes j))) (rw (at.0.one, at.0.zero, at.1.one, at.1.zero) (xor_zero_chosen (nodes i) (nodes j))) h.zero)
node_from a b y x nodes (Pick s i j) at own h =
    sums_from a y ((one_rail s ∷ one_rail i ∷ []) ∷ (zero_rail s ∷ one_rail j ∷ []) ∷ []) ((one_rail s ∷ zero_rail i ∷ []) ∷ (zero_rail s ∷ zero_rail j ∷ []) ∷ []) (pick_of (nodes s) (nodes i) (nodes j))
    (picks_of _ _ _ _ (one_positive s) (one_positive i) (zero_positive s) (one_positive j)) (picks_of _ _ _ _ (one_positive s) (zero_positive i) (zero_positive s) (zero_positive j))
    (rw (at.0.one, at.0.zero, at.1.one, at.2.one) (pick_one (nodes s) (nodes i) (nodes j))) (rw (at.0.one, at.0.zero, at.1.zero, at.2.zero) (pick_zero (nodes s) (nodes i) (nodes j))) h
node_from a b y x nodes (Lift s i true) at own h =
    sums_from a y ((one_rail i ∷ []) ∷ (one_rail s ∷ []) ∷ []) ((zero_rail i ∷ []) ∷ []) (lift_of (nodes s) (nodes i) One) (sum_of _ _ (one_positive i) (one_positive s)) (one_of _ (zero_positive i))
    (rw (at.0.one, at.1.one) (lift_one_one (nodes s) (nodes i))) (rw at.1.zero (lift_one_zero (nodes s) (nodes i))) h
node_from a b y x nodes (Lift s i false) at own h =
    sums_from a y ((one_rail i ∷ []) ∷ []) ((zero_rail i ∷ []) ∷ (one_rail s ∷ []) ∷ []) (lift_of (nodes s) (nodes i) Zero) (one_of _ (one_positive i)) (sum_of _ _ (zero_positive i) (one_positive s))
    (rw at.1.one (lift_zero_one (nodes s) (nodes i))) (rw (at.0.one, at.1.zero) (lift_zero_zero (nodes s) (nodes i))) h
