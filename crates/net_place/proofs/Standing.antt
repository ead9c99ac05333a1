-- Serves specs/Ready.antt: what is left to place, and that what stands keeps standing.
use Rattle.std.proofs.Common.{◌≡◌, ◌⊎◌, inl, inr, ℕ, zero, suc, ◌+◌, ◌-◌, ◌<◌, ◌≤◌, false, List, [], ◌∷◌, ◌++◌, length, get_or, set, drop, replicate, All, Contains, Option, Some, None, refl, sym, ap, subst, ◌∙◌, arith}
use Rattle.std.specs.Prelude.{slice_get, slice_index_or}
use Rattle.std.proofs.lemmas.Option.{slice_get_within, slice_get-get_or, slice_get_cases, get_or_from_slice_get, none-some}
use Rattle.std.proofs.Math.Seq.{drop-cons}
use Rattle.std.proofs.lemmas.List.{length-replicate, get_or-set_same, get_or-set_other, length-set}
use Rattle.std.proofs.lemmas.List.Elements.{Contains-push_cases}
use Rattle.std.proofs.lemmas.Bool.{cases_eq}
use Rattle.net_view.specs.declared.gate.Gate.TheVariants.{Const, Source, Not, And, Or, Xor, Pick, Lift}
use Rattle.net_view.specs.View.{Numbered}
use Rattle.net_view.proofs.Members.{All-from_contains, contains_none, contains_head, contains_behind, contains_cases}
use Rattle.net_gates.specs.Gates.{IsGateList, MayAdd}
use Rattle.net_order.specs.Order.{root_in, fan_ins, reads_there, reads, IsInOrder}
use Rattle.net_place.specs.Places.{Work, Standing, number_in, number_at, leaf_of, made, stood, onward, gate_at, placed}
use Rattle.net_place.specs.Ready.{IsPlaced, HasRoot, AreRooted, AreLeaves, IsLeafPlaced, ReadsPlaced}

-- ---- the place of one gate is set

get_same : {X : Type 0} (xs : List X) (i : ℕ) (x : X) → i < length xs → slice_get (set xs i x) i ≡ Some x
get_same xs i x lt =
    slice_get-get_or (set xs i x) i x (subst (λ (n : ℕ). i < n) (sym (length-set xs i x)) lt) ∙ ap Some (get_or-set_same xs i x x lt)

get_other : {X : Type 0} (xs : List X) (i j : ℕ) (x y : X) → (j ≡ i → ⊥) → slice_get xs j ≡ Some y → slice_get (set xs i x) j ≡ Some y
get_other xs i j x y ne is =
    slice_get-get_or (set xs i x) j y (subst (λ (n : ℕ). j < n) (sym (length-set xs i x)) (slice_get_within xs j y is))
    ∙ ap Some (get_or-set_other xs i j x y ne ∙ get_or_from_slice_get xs j y y is)

pub placed_here : (count : ℕ) (places : List (Option ℕ)) (k node : ℕ) → k < length places → node < count → IsPlaced count (set places k (Some node)) k
placed_here count places k node lt inside = record { node = node; is = get_same places k (Some node) lt; inside = inside }

placed_other : (old count : ℕ) (places : List (Option ℕ)) (k j node : ℕ) → old ≤ count → (j ≡ k → ⊥) → IsPlaced old places j → IsPlaced count (set places k (Some node)) j
placed_other old count places k j node le ne p = record { node = p.node; is = get_other places k j (Some node) (Some p.node) ne p.is; inside = let h = p.inside in omega (arith, h, le) }

-- what stands keeps standing, and so does the gate itself
pub placed_after : (old count : ℕ) (places : List (Option ℕ)) (k node : ℕ) → old ≤ count → k < length places → node < count → (j : ℕ) → IsPlaced old places j ⊎ (j ≡ k) → IsPlaced count (set places k (Some node)) j
placed_after old count places k node le lt inside j e = elim (cases_eq j k) [
  | inl is ↦ subst (λ (z : ℕ). IsPlaced count (set places k (Some node)) z) (sym is) (placed_here count places k node lt inside)
  | inr ne ↦ elim e [ inl p ↦ placed_other old count places k j node le ne p | inr is ↦ absurd (ne is) ]
]

none_past : {X : Type 0} (xs : List X) (i : ℕ) → slice_get xs i ≡ None → length xs ≤ i
none_past xs i is = elim (slice_get_cases xs i).1 [ inl found ↦ absurd (none-some found.0 (sym is ∙ found.2)) | inr past ↦ past.0 ]

-- ---- what is left

-- where P stands, each of these gates reads what stands by then
abbrev pub Leads : (ℕ → List ℕ) → (ℕ → Type 0) → List ℕ → Type 0
Leads R P [] = Unit {0}
Leads R P (k ∷ ks) = ((j : ℕ) → Contains (R k) j → P j) × Leads R (λ j. P j ⊎ (j ≡ k)) ks

pub leads_more : (R : ℕ → List ℕ) (P Q : ℕ → Type 0) (ks : List ℕ) → ((j : ℕ) → P j → Q j) → Leads R P ks → Leads R Q ks
leads_more R P Q [] f h = tt
leads_more R P Q (k ∷ ks) f h = (λ j c. f j (h.0 j c), leads_more R (λ j. P j ⊎ (j ≡ k)) (λ j. Q j ⊎ (j ≡ k)) ks (λ j e. elim e [ inl p ↦ inl (f j p) | inr is ↦ inr is ]) h.1)

in_order_leads : (R : ℕ → List ℕ) (P : ℕ → Type 0) (before ks : List ℕ) → ((j : ℕ) → Contains before j → P j) → IsInOrder R before ks → Leads R P ks
in_order_leads R P before [] h o = tt
in_order_leads R P before (k ∷ ks) h o = (
  λ j c. h j (o.1 j c),
  in_order_leads R (λ j. P j ⊎ (j ≡ k)) (before ++ k ∷ []) ks (λ j c. elim (Contains-push_cases before k j c) [ inl b ↦ inl (h j b) | inr is ↦ inr (sym is) ]) o.2,
)

pub begun_leads : (R : ℕ → List ℕ) (P : ℕ → Type 0) (ks : List ℕ) → IsInOrder R [] ks → Leads R P ks
begun_leads R P ks o = in_order_leads R P [] ks (λ j c. absurd (contains_none j c)) o

-- ---- what a gate reads stands

module _ (count drawn : ℕ) (roots : List (Option ℕ)) (sources : List ℕ) (places : List (Option ℕ)) (rooted : AreRooted drawn roots) where
  some_placed : (past : ℕ) (root : Option ℕ) → HasRoot drawn root → ((j : ℕ) → Contains (root_in root) j → IsPlaced count places j) → IsLeafPlaced count sources places past (Some root)
  some_placed past None has all = absurd has
  some_placed past (Some k) has all = all k (contains_head k [])

  found_rooted : (b : ℕ) (root : Option ℕ) → slice_get roots b ≡ Some root → HasRoot drawn root
  found_rooted b root is = subst (HasRoot drawn) (get_or_from_slice_get roots b root root is) (rooted b root (slice_get_within roots b root is))

  leaf_placed : (b : ℕ) → b < length roots + length sources → (found : Option (Option ℕ)) → slice_get roots b ≡ found → ((j : ℕ) → Contains (root_in (slice_index_or roots b None)) j → IsPlaced count places j) → IsLeafPlaced count sources places (b - length roots) found
  leaf_placed b lt None is all = let past = none_past roots b is in omega (arith, past, lt)
  leaf_placed b lt (Some root) is all =
      some_placed (b - length roots) root (found_rooted b root is) (λ j c. all j (subst (λ (r : Option ℕ). Contains (root_in r) j) (sym (get_or_from_slice_get roots b root None is)) c))

  gate_placed : (k : ℕ) (g : Numbered) → MayAdd k g → ((b : ℕ) → g ≡ Source b → b < length roots + length sources) → ((j : ℕ) → Contains (fan_ins roots g) j → IsPlaced count places j) → ReadsPlaced count roots sources places g
  gate_placed k (Const b) may leaf all = tt
  gate_placed k (Source b) may leaf all = leaf_placed b (leaf b refl) (slice_get roots b) refl all
  gate_placed k (Not a) may leaf all = all a (contains_head a [])
  gate_placed k (And a b) may leaf all = (all a (contains_head a (b ∷ [])), all b (contains_behind a b (b ∷ []) (contains_head b [])))
  gate_placed k (Or a b) may leaf all = (all a (contains_head a (b ∷ [])), all b (contains_behind a b (b ∷ []) (contains_head b [])))
  gate_placed k (Xor a b) may leaf all = (all a (contains_head a (b ∷ [])), all b (contains_behind a b (b ∷ []) (contains_head b [])))
  gate_placed k (Pick a b c) may leaf all = absurd may
  gate_placed k (Lift a b c) may leaf all = absurd may

  -- of a gate of the list
  pub reads_placed : (gates : List Numbered) (k : ℕ) (g : Numbered) → IsGateList gates → AreLeaves (length roots + length sources) gates → slice_get gates k ≡ Some g → ((j : ℕ) → Contains (reads gates roots k) j → IsPlaced count places j) → ReadsPlaced count roots sources places g
  reads_placed gates k g lawful leaves is all = gate_placed k g (lawful.each k g is) (λ b e. leaves k b (subst (λ (z : Numbered). slice_get gates k ≡ Some z) e is)) (λ j c. all j (subst (λ (z : Option Numbered). Contains (reads_there roots z) j) (sym is) c))

-- ---- what has to be placed still

-- of these gates the ones that are left, and those that stand
abbrev pub AreLeft : (ℕ → Type 0) → List ℕ → List ℕ → Type 0
AreLeft P order left = (k : ℕ) → Contains order k → Contains left k ⊎ P k

pub left_after : (P Q : ℕ → Type 0) (order rest : List ℕ) (k : ℕ) → ((j : ℕ) → P j ⊎ (j ≡ k) → Q j) → AreLeft P order (k ∷ rest) → AreLeft Q order rest
left_after P Q order rest k f h j c = elim (h j c) [
  | inl there ↦ elim (contains_cases k j rest there) [ inl is ↦ inr (f j (inr is)) | inr behind ↦ inl behind ]
  | inr p ↦ inr (f j (inl p))
]

pub none_left : (P : ℕ → Type 0) (order : List ℕ) → AreLeft P order [] → All P order
none_left P order h = All-from_contains P order (λ k c. elim (h k c) [ inl none ↦ absurd (contains_none k none) | inr p ↦ p ])

pub node_known : (places : List (Option ℕ)) (k : ℕ) (x : Option ℕ) → x ≡ get_or places k x → k < length places → (count : ℕ) → IsPlaced count places k → x ≡ Some (number_at places k)
node_known places k x read lt count p =
    let at : get_or places k x ≡ Some p.node = get_or_from_slice_get places k (Some p.node) x p.is in
    let there : slice_index_or places k None ≡ Some p.node = get_or_from_slice_get places k (Some p.node) None p.is in
    read ∙ at ∙ ap Some (sym (ap number_in there))

-- ---- the loop

-- what is known where some gates are left
pub record IsOnWay (gates : List Numbered) (roots : List (Option ℕ)) (sources order : List ℕ) (start : Work) (now : List Numbered) (places : List (Option ℕ)) (left : List ℕ) : Type 0 where
  pub rest : placed gates roots sources left (record { gates = now; places = places }) ≡ placed gates roots sources order start
  pub leads : Leads (reads gates roots) (IsPlaced (length now) places) left
  pub whole : length places ≡ length gates
  pub inside : All (λ k. k < length gates) left
  pub left_is : AreLeft (IsPlaced (length now) places) order left
  pub there : All (λ n. n < length now) sources

-- the nodes that are read are there
pub node_inside : (count : ℕ) (places : List (Option ℕ)) (k n : ℕ) → IsPlaced count places k → n ≡ number_at places k → n < count
node_inside count places k n p is =
    let at : number_at places k ≡ p.node = ap number_in (get_or_from_slice_get places k (Some p.node) None p.is) in
    let h = p.inside in omega (arith, h, at, is)

pub leaf_inside : (count : ℕ) (sources : List ℕ) (places : List (Option ℕ)) (past : ℕ) (found : Option (Option ℕ)) (n : ℕ) → All (λ s. s < count) sources → IsLeafPlaced count sources places past found → n ≡ leaf_of sources places past found → n < count
leaf_inside count sources places past None n there lt is = subst (λ (z : ℕ). z < count) (sym is) (there past 0 lt)
leaf_inside count sources places past (Some None) n there p is = absurd p
leaf_inside count sources places past (Some (Some k)) n there p is = node_inside count places k n p is

-- ---- the steps of the loop

module _ (gates : List Numbered) (roots : List (Option ℕ)) (sources order : List ℕ) (start : Work) (now : List Numbered) (places : List (Option ℕ)) where
  -- what the next gate reads stands
  pub next_reads : (k : ℕ) (rest : List ℕ) → AreRooted (length gates) roots → AreLeaves (length roots + length sources) gates → IsGateList gates → IsOnWay gates roots sources order start now places (k ∷ rest) → ReadsPlaced (length now) roots sources places (gate_at gates k)
  next_reads k rest rooted leaves lawful w =
      reads_placed (length now) (length gates) roots sources places rooted gates k (gate_at gates k) lawful leaves (slice_get-get_or gates k (Const false) (w.inside 0 0 (omega arith))) w.leads.0

  -- once it stands
  pub next_way : (k node : ℕ) (rest : List ℕ) (more : List Numbered) → length now ≤ length more → node < length more → made roots sources (record { gates = now; places = places }) (gate_at gates k) ≡ Some (record { node = node; gates = more })
      → IsOnWay gates roots sources order start now places (k ∷ rest) → IsOnWay gates roots sources order start more (set places k (Some node)) rest
  next_way k node rest more le inside is w =
      let lt : k < length places = subst (λ (n : ℕ). k < n) (sym w.whole) (w.inside 0 0 (omega arith)) in
      let after = placed_after (length now) (length more) places k node le lt inside in
      record {
        rest = sym (ap (λ (s : Option Standing). onward s (λ s. placed gates roots sources rest (stood k (record { gates = now; places = places }) s))) is) ∙ w.rest;
        leads = leads_more (reads gates roots) (λ j. IsPlaced (length now) places j ⊎ (j ≡ k)) (IsPlaced (length more) (set places k (Some node))) rest after w.leads.1;
        whole = length-set places k (Some node) ∙ w.whole;
        inside = λ j d h. w.inside (suc j) d (omega (arith, h));
        left_is = left_after (IsPlaced (length now) places) (IsPlaced (length more) (set places k (Some node))) order rest k after w.left_is;
        there = λ j d h. let one = w.there j d h in omega (arith, one, le);
      }

  -- where no node comes, none of them are placed
  pub next_none : (k : ℕ) (rest : List ℕ) → made roots sources (record { gates = now; places = places }) (gate_at gates k) ≡ None → IsOnWay gates roots sources order start now places (k ∷ rest) → placed gates roots sources order start ≡ None
  next_none k rest is w = sym w.rest ∙ ap (λ (s : Option Standing). onward s (λ s. placed gates roots sources rest (stood k (record { gates = now; places = places }) s))) is

-- before the first gate
pub begun_way : (gates : List Numbered) (roots : List (Option ℕ)) (sources order : List ℕ) (now : List Numbered) (places : List (Option ℕ)) → places ≡ replicate (length gates) None → All (λ k. k < length gates) order → IsInOrder (reads gates roots) [] order → All (λ n. n < length now) sources
    → IsOnWay gates roots sources order (record { gates = now; places = replicate (length gates) None }) now places order
begun_way gates roots sources order now places is inside ready there = record {
  rest = ap (λ (p : List (Option ℕ)). placed gates roots sources order (record { gates = now; places = p })) is;
  leads = begun_leads (reads gates roots) (IsPlaced (length now) places) order ready;
  whole = ap length is ∙ length-replicate (length gates) None;
  inside = inside;
  left_is = λ k c. inl c;
  there = there;
}

pub dropped : (xs : List ℕ) (i : ℕ) → i < length xs → drop i xs ≡ slice_index_or xs i 0 ∷ drop (i + 1) xs
dropped xs i lt =
    let one : i + 1 ≡ suc i = omega arith in
    drop-cons xs i 0 lt ∙ ap (λ (n : ℕ). slice_index_or xs i 0 ∷ drop n xs) (sym one)

drop_past : (xs : List ℕ) (i : ℕ) → length xs ≤ i → drop i xs ≡ []
drop_past [] zero le = refl
drop_past [] (suc i) le = refl
drop_past (x ∷ xs) zero le = absurd (omega (arith, le))
drop_past (x ∷ xs) (suc i) le = drop_past xs i (omega (arith, le))

-- behind the last gate
pub all_placed : (gates : List Numbered) (roots : List (Option ℕ)) (sources order : List ℕ) (start : Work) (now : List Numbered) (places : List (Option ℕ)) (i : ℕ) → length order ≤ i → IsOnWay gates roots sources order start now places (drop i order) → All (IsPlaced (length now) places) order
all_placed gates roots sources order start now places i past w = none_left (IsPlaced (length now) places) order (subst (AreLeft (IsPlaced (length now) places) order) (drop_past order i past) w.left_is)
