-- Serves specs/States.antt: a state makes a model, and a model's rails are those of a state.
use Rattle.std.proofs.Common.{◌≡◌, ℕ, zero, suc, ◌+◌, ◌-◌, ◌*◌, ◌<◌, ◌≤◌, ◌⊎◌, inl, inr, Bool, true, false, ◌||◌, nat_eq, List, [], ◌∷◌, length, get_or, refl, sym, ap, ◌∙◌, subst, arith, ℤ, eq-eqb}
use Rattle.std.specs.Prelude.{⊤}
use Rattle.std.specs.List.{AllByRecursion}
use Rattle.std.proofs.lemmas.Bool.{cases_lt, eqb-true}
use Rattle.std.proofs.lemmas.List.{get_or_past}
use Rattle.std.proofs.lemmas.Option.{slice_get_within, slice_get_cases, same_Some}
use Rattle.rdc_tern.specs.declared.value.Tern.{Tern}
use Rattle.rdc_tern.specs.declared.value.Tern.TheVariants.{Unsettled}
use Rattle.rdc_tern.specs.Kleene.{IsSettled}
use Rattle.net_view.specs.declared.gate.Gate.TheVariants.{Source}
use Rattle.net_view.specs.View.{Numbered, IsGateAt, IsNet}
use Rattle.net_view.specs.Values.{State, at, values, IsValuation}
use Rattle.net_view.proofs.ValuesLemmas.{reads_more, values_valued}
use Rattle.sat_chain.specs.Clause.{MeetsAll}
use Rattle.tern_cnf.specs.Rails.{one_rail, zero_rail, free, node_clauses, is_listed, clauses_from, clauses_of}
use Rattle.tern_cnf.specs.Asked.{IsSource, AreSources}
use Rattle.tern_cnf.specs.States.{may_be_one, may_be_zero, rails_of, assignment, HasRails, MeetsQuestion, ModelsAreStates}
use Rattle.tern_cnf.proofs.SumLemmas.{met_append, met_parts}
use Rattle.tern_cnf.proofs.NodeLemmas.{RailsAt, value_of, source_to, source_settled, node_to, node_from}

rail_one : (ts : List Tern) (k : ℕ) (d : Bool) → k < length ts → get_or (rails_of ts) (2 * k) d ≡ may_be_one (at ts k)
rail_one [] k d lt = absurd (omega arith)
rail_one (t ∷ ts) zero d lt = refl
rail_one (t ∷ ts) (suc k) d lt = let e : 2 * suc k ≡ suc (suc (2 * k)) = omega arith in ap (λ (i : ℕ). get_or (rails_of (t ∷ ts)) i d) e ∙ rail_one ts k d (omega arith)

rail_zero : (ts : List Tern) (k : ℕ) (d : Bool) → k < length ts → get_or (rails_of ts) (2 * k + 1) d ≡ may_be_zero (at ts k)
rail_zero [] k d lt = absurd (omega arith)
rail_zero (t ∷ ts) zero d lt = refl
rail_zero (t ∷ ts) (suc k) d lt = let e : 2 * suc k + 1 ≡ suc (suc (2 * k + 1)) = omega arith in ap (λ (i : ℕ). get_or (rails_of (t ∷ ts)) i d) e ∙ rail_zero ts k d (omega arith)

-- the assignment made of values has their rails
pub assignment_rails : (ts : List Tern) (more : ℕ → Bool) → HasRails (assignment ts more) ts
assignment_rails ts more k lt =
    let one : one_rail k - 1 ≡ 2 * k = omega arith in
    let two : zero_rail k - 1 ≡ 2 * k + 1 = omega arith in
    (ap (λ (i : ℕ). get_or (rails_of ts) i (more (one_rail k))) one ∙ rail_one ts k (more (one_rail k)) lt, ap (λ (i : ℕ). get_or (rails_of ts) i (more (zero_rail k))) two ∙ rail_zero ts k (more (zero_rail k)) lt)

-- what holds of each number of a list, and of each that is listed
listed_at : (P : ℕ → Type 0) (fs : List ℕ) (k : ℕ) → AllByRecursion P fs → is_listed fs k ≡ true → P k
listed_at P [] k h is = cc
listed_at P (f ∷ fs) k h is =
    elim (nat_eq f k) as (λ b. nat_eq f k ≡ b → (b || is_listed fs k) ≡ true → P k) [
      | true ↦ λ same _. subst P (eqb-true f k same) h.0
      | false ↦ λ _ rest. listed_at P fs k h.1 rest
    ] refl is

or_true_right : (x y : Bool) → y ≡ true → (x || y) ≡ true
or_true_right true y h = refl
or_true_right false y h = h

each_listed : (P : ℕ → Type 0) (fs : List ℕ) → ((k : ℕ) → is_listed fs k ≡ true → P k) → AllByRecursion P fs
each_listed P [] h = tt
each_listed P (f ∷ fs) h = (h f (rw (eq-eqb f f refl) refl), each_listed P fs (λ k is. h k (or_true_right (nat_eq f k) (is_listed fs k) is)))

-- the clauses of each node, and of all
all_met : (a : ℕ → Bool) (fixed : List ℕ) (k : ℕ) (gs : List Numbered) → ((j i : ℕ) (g : Numbered) → i ≡ k + j → IsGateAt gs j g → MeetsAll a (node_clauses (is_listed fixed i) i g)) → MeetsAll a (clauses_from fixed k gs)
unfolding clauses_from
all_met a fixed k [] h = tt
all_met a fixed k (g ∷ gs) h =
    met_append a (node_clauses (is_listed fixed k) k g) (clauses_from fixed (k + 1) gs) (h zero k g (omega arith) refl) (all_met a fixed (k + 1) gs (λ j i e is at. h (suc j) i e (omega arith) at))

node_met : (a : ℕ → Bool) (fixed : List ℕ) (k : ℕ) (gs : List Numbered) → MeetsAll a (clauses_from fixed k gs) → (j i : ℕ) (g : Numbered) → i ≡ k + j → IsGateAt gs j g → MeetsAll a (node_clauses (is_listed fixed i) i g)
unfolding clauses_from
node_met a fixed k [] h j i g is at = cc
node_met a fixed k (f ∷ gs) h zero i g is at =
    let same : k ≡ i = omega arith in
    let gate : f ≡ g = same_Some f g at in
    subst (λ (e : Numbered). MeetsAll a (node_clauses (is_listed fixed i) i e)) gate
    (subst (λ (n : ℕ). MeetsAll a (node_clauses (is_listed fixed n) n f)) same (met_parts a (node_clauses (is_listed fixed k) k f) (clauses_from fixed (k + 1) gs) h).0)
node_met a fixed k (f ∷ gs) h (suc j) i g is at =
    node_met a fixed (k + 1) gs (met_parts a (node_clauses (is_listed fixed k) k f) (clauses_from fixed (k + 1) gs) h).1 j i g (omega arith) at

rails_at : (a : ℕ → Bool) (ts : List Tern) (k : ℕ) → HasRails a ts → k < length ts → RailsAt a k (at ts k)
rails_at a ts k h lt = record { one = (h k lt).0; zero = (h k lt).1 }

-- a state makes a model
state_met : (a : ℕ → Bool) (gates : List Numbered) (count : ℕ) (fixed : List ℕ) (state : State) (ts : List Tern) → IsNet gates count → IsValuation gates state ts
    → AllByRecursion (λ k. IsSettled (at ts k)) fixed → HasRails a ts → MeetsAll a (clauses_from fixed 0 gates)
state_met a gates count fixed state ts net valued settled rails =
    all_met a fixed 0 gates (λ j i g is there.
    let at_i : IsGateAt gates i g = subst (λ (n : ℕ). IsGateAt gates n g) (let e : j ≡ i = omega arith in e) there in
    let inside : i < length ts = omega (arith, slice_get_within gates i g at_i, valued.whole) in
    let each = valued.each i g at_i in
    node_from a (is_listed fixed i) i state (at ts) g
    (reads_more (λ k. k < i) (λ s. s < count) (λ k. RailsAt a k (at ts k)) (λ s. ⊤) g (λ k below. rails_at a ts k rails (omega arith)) (λ s below. tt) (net.lower i g at_i))
    (λ named. subst IsSettled each (listed_at (λ k. IsSettled (at ts k)) fixed i settled named)) (subst (RailsAt a i) each (rails_at a ts i rails inside)))

-- the state of a model, by the rails of the sources' nodes
state_at : (a : ℕ → Bool) (gates : List Numbered) (count : ℕ) → IsNet gates count → (s : ℕ) → (s < count) ⊎ (count ≤ s) → Tern
state_at a gates count net s (inl lt) = value_of (a (one_rail (net.placed s lt).0)) (a (zero_rail (net.placed s lt).0))
state_at a gates count net s (inr le) = Unsettled

state_of : (a : ℕ → Bool) (gates : List Numbered) (count : ℕ) → IsNet gates count → State
state_of a gates count net s = state_at a gates count net s (cases_lt s count)

state_source : (a : ℕ → Bool) (gates : List Numbered) (count : ℕ) (net : IsNet gates count) (s k : ℕ) (c : (s < count) ⊎ (count ≤ s)) → s < count → IsGateAt gates k (Source s)
    → state_at a gates count net s c ≡ value_of (a (one_rail k)) (a (zero_rail k))
unfolding state_at
state_source a gates count net s k (inl lt) below at =
    let same : (net.placed s lt).0 ≡ k = net.once (net.placed s lt).0 k s (net.placed s lt).1 at in
    ap (λ (j : ℕ). value_of (a (one_rail j)) (a (zero_rail j))) same
state_source a gates count net s k (inr le) below at = absurd (omega arith)

-- a source's node has the rails of its value in that state
own_rails : (a : ℕ → Bool) (gates : List Numbered) (count : ℕ) (fixed : List ℕ) (net : IsNet gates count) (k : ℕ) (g : Numbered) → IsGateAt gates k g → MeetsAll a (node_clauses (is_listed fixed k) k g)
    → (s : ℕ) → g ≡ Source s → RailsAt a k (state_of a gates count net s)
unfolding state_of
own_rails a gates count fixed net k g at h s is =
    let source : IsGateAt gates k (Source s) = subst (λ (e : Numbered). IsGateAt gates k e) is at in
    let met : MeetsAll a (free (is_listed fixed k) k) = subst (λ (e : Numbered). MeetsAll a (node_clauses (is_listed fixed k) k e)) is h in
    subst (RailsAt a k) (sym (state_source a gates count net s k (cases_lt s count) (net.lower k (Source s) source) source)) (source_to a (is_listed fixed k) k met)

-- a model's rails are those of the values of its state
rails_below : (a : ℕ → Bool) (gates : List Numbered) (count : ℕ) (fixed : List ℕ) (net : IsNet gates count) (ts : List Tern) → IsValuation gates (state_of a gates count net) ts → MeetsAll a (clauses_from fixed 0 gates)
    → (n k : ℕ) (g : Numbered) → k < n → IsGateAt gates k g → RailsAt a k (at ts k)
rails_below a gates count fixed net ts valued met zero k g lt is = absurd (omega arith)
rails_below a gates count fixed net ts valued met (suc n) k g lt is =
    let inside : k < length gates = slice_get_within gates k g is in
    let here = node_met a fixed 0 gates met k k g (omega arith) is in
    let reads = reads_more (λ j. j < k) (λ s. s < count) (λ j. RailsAt a j (at ts j)) (λ s. ⊤) g
    (λ j below. elim (slice_get_cases gates j).1 [
      | inl there ↦ rails_below a gates count fixed net ts valued met n j there.0 (omega arith) there.2
      | inr past ↦ absurd (omega (arith, past.0))
    ]) (λ s below. tt) (net.lower k g is) in
    subst (RailsAt a k) (sym (valued.each k g is)) (node_to a (is_listed fixed k) k (state_of a gates count net) (at ts) g reads (own_rails a gates count fixed net k g is here) here)

rails_all : (a : ℕ → Bool) (gates : List Numbered) (count : ℕ) (fixed : List ℕ) (net : IsNet gates count) (ts : List Tern) → IsValuation gates (state_of a gates count net) ts → MeetsAll a (clauses_from fixed 0 gates)
    → HasRails a ts
rails_all a gates count fixed net ts valued met k lt =
    elim (slice_get_cases gates k).1 [
      | inl there ↦ (let r = rails_below a gates count fixed net ts valued met (suc k) k there.0 (omega arith) there.2 in (r.one, r.zero))
      | inr past ↦ absurd (omega (arith, past.0, valued.whole))
    ]

-- the nodes that are to be settled are
fixed_settled : (a : ℕ → Bool) (gates : List Numbered) (fixed : List ℕ) (ts : List Tern) → length ts ≡ length gates → AreSources gates fixed → HasRails a ts → MeetsAll a (clauses_from fixed 0 gates)
    → AllByRecursion (λ k. IsSettled (at ts k)) fixed
fixed_settled a gates fixed ts whole sources rails met =
    each_listed (λ k. IsSettled (at ts k)) fixed (λ k named.
    let source = listed_at (IsSource gates) fixed k sources named in
    let inside : k < length ts = omega (arith, slice_get_within gates k (Source source.0) source.1) in
    let here = node_met a fixed 0 gates met k k (Source source.0) (omega arith) source.1 in
    source_settled a k (at ts k) (rails_at a ts k rails inside) (subst (λ (b : Bool). MeetsAll a (free b k)) named here))

length-rails_of : (ts : List Tern) → length (rails_of ts) ≡ 2 * length ts
length-rails_of [] = refl
length-rails_of (t ∷ ts) = omega (arith, length-rails_of ts)

-- behind the rails stand the further variables
pub assignment_further : (ts : List Tern) (more : ℕ → Bool) (v : ℕ) → 2 * length ts < v → assignment ts more v ≡ more v
assignment_further ts more v lt = get_or_past (rails_of ts) (v - 1) (more v) (omega (arith, length-rails_of ts))

answer_of : (a : ℕ → Bool) (gates : List Numbered) (count : ℕ) (fixed : List ℕ) (side : List (List ℤ)) → IsNet gates count → AreSources gates fixed → MeetsAll a (clauses_of gates fixed side) → MeetsQuestion gates fixed side a
answer_of a gates count fixed side net sources met =
    let parts = met_parts a (clauses_from fixed 0 gates) side met in
    let state = state_of a gates count net in
    let ts = values gates state in
    let valued = values_valued gates count state net in
    let rails = rails_all a gates count fixed net ts valued parts.0 in
    record { state = state; values = ts; valuation = valued; settled = fixed_settled a gates fixed ts valued.whole sources rails parts.0; rails = rails; further = parts.1 }

-- the models of a net's clauses are the states that meet the question
pub models_are_states : (gates : List Numbered) (count : ℕ) (fixed : List ℕ) (side : List (List ℤ)) → IsNet gates count → AreSources gates fixed → ModelsAreStates gates fixed side (clauses_of gates fixed side)
models_are_states gates count fixed side net sources a = (
  answer_of a gates count fixed side net sources,
  λ (h : MeetsQuestion gates fixed side a). met_append a (clauses_from fixed 0 gates) side (state_met a gates count fixed h.state h.values net h.valuation h.settled h.rails) h.further,
)
