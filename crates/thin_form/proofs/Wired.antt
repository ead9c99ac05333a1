-- Wires that get their nodes one after another.
use Rattle.std.proofs.Common.{◌≡◌, ◌≢◌, ◌⊎◌, inl, inr, ℕ, zero, suc, drop, sum_by, ◌+◌, ◌<◌, ◌≤◌, List, [], ◌∷◌, ◌++◌, length, get_or, set, map, Option, Some, None, refl, sym, ap, subst, ◌∙◌, arith}
use Rattle.std.proofs.lemmas.List.{get_or-map, get_or-set_same, get_or-set_other, length-set, length-map}
use Rattle.thin_form.specs.Formula.{Formula}
use Rattle.thin_form.specs.Netlist.{formula_at, formulas}
use Rattle.thin_form.specs.Walk.{IsIn, IsReadyAfter, IsOrder}
use Rattle.thin_form.specs.Values.{after_term, after_terms, last_of, value_of, wires_in, formulas_at, IsGrown, IsReadable, IsMade, AreMade, ReadsSources, ReadsWires}
use Rattle.thin_form.specs.declared.kind.Node.{Node}
use Rattle.thin_form.specs.declared.term.Term.{Term}
use Rattle.thin_form.specs.declared.term.Term.TheVariants.{Source, Wire, Not, And, Or}
use Rattle.thin_form.proofs.Walks.{same_or_not}
use Rattle.thin_form.proofs.Formulas.{kept_formula, longer}
use Rattle.thin_form.proofs.Applied.{wire_value}
use Rattle.std.specs.List.{AllByRecursion}
use Rattle.std.proofs.lemmas.List.Sums.{sum_by-cons}
use Rattle.std.proofs.lemmas.List.Sorted.{sum_by-IsPermutation}
use Rattle.thin_form.proofs.Places.{drop_item}
use Rattle.thin_form.proofs.Permuted.{ordered_list}

term_same : (ws vs : List Formula) (t : Term) (ts : List Term) (fs : List Formula) → ((v : ℕ) → IsIn v (wires_in (t ∷ ts)) → formula_at ws v ≡ formula_at vs v) → after_term ws t fs ≡ after_term vs t fs
term_same ws vs (Source n) ts fs same = refl
term_same ws vs (Wire w) ts fs same = ap (λ (f : Formula). Some (f ∷ fs)) (same w (inl refl))
term_same ws vs Not ts [] same = refl
term_same ws vs Not ts (f ∷ fs) same = refl
term_same ws vs And ts [] same = refl
term_same ws vs And ts (g ∷ []) same = refl
term_same ws vs And ts (g ∷ (f ∷ fs)) same = refl
term_same ws vs Or ts [] same = refl
term_same ws vs Or ts (g ∷ []) same = refl
term_same ws vs Or ts (g ∷ (f ∷ fs)) same = refl

later : (t : Term) (ts : List Term) (w : ℕ) → IsIn w (wires_in ts) → IsIn w (wires_in (t ∷ ts))
later (Source n) ts w h = h
later (Wire v) ts w h = inr h
later Not ts w h = h
later And ts w h = h
later Or ts w h = h

abbrev then_terms : List Formula → List Term → Option (List Formula) → Option (List Formula)
then_terms ws ts o = elim o [ None ↦ None | Some more ↦ after_terms ws ts more ]

then_same : (ws vs : List Formula) (ts : List Term) (o : Option (List Formula)) → ((more : List Formula) → after_terms ws ts more ≡ after_terms vs ts more) → then_terms ws ts o ≡ then_terms vs ts o
then_same ws vs ts None rest = refl
then_same ws vs ts (Some more) rest = rest more

terms_same : (ws vs : List Formula) (ts : List Term) (fs : List Formula) → ((v : ℕ) → IsIn v (wires_in ts) → formula_at ws v ≡ formula_at vs v) → after_terms ws ts fs ≡ after_terms vs ts fs
unfolding after_terms
terms_same ws vs [] fs same = refl
terms_same ws vs (t ∷ ts) fs same =
    ap (then_terms ws ts) (term_same ws vs t ts fs same) ∙ then_same ws vs ts (after_term vs t fs) (λ more. terms_same ws vs ts more (λ v h. same v (later t ts v h)))

-- what terms compute is what they did, where the wires that they read are what they were
pub value_same : (ws vs : List Formula) (ts : List Term) → ((v : ℕ) → IsIn v (wires_in ts) → formula_at ws v ≡ formula_at vs v) → value_of ws ts ≡ value_of vs ts
value_same ws vs ts same = ap last_of (terms_same ws vs ts [] same)

-- a node computes what it did with more nodes
pub still_made : (old new : List Node) (wires : List ℕ) (ts : List Term) (k : ℕ) → IsGrown old new → ((v : ℕ) → IsIn v (wires_in ts) → (v < length wires) × (get_or wires v 0 < length old)) → IsMade old wires ts k → IsMade new wires ts k
still_made old new wires ts k grown reads is = record {
  within = omega (arith, is.within, longer old new grown);
  value =
      value_same (formulas_at new wires) (formulas_at old wires) ts (λ v h. let at = reads v h in wire_value new wires v at.0 ∙ kept_formula old new (get_or wires v 0) grown at.1 ∙ sym (wire_value old wires v at.0))
      ∙ is.value ∙ ap Some (sym (kept_formula old new k grown is.within));
}

-- some wires are done, and the others are left, in an order
pub record IsWiring (nodes : List Node) (wires : List ℕ) (rs : List (List Term)) (left : List ℕ) : Type 0 where
  pub done : List ℕ
  pub ready : IsReadyAfter (map wires_in rs) done left
  pub count : length wires ≡ length rs
  pub inside : (w : ℕ) → IsIn w done → w < length rs
  pub made : (w : ℕ) → IsIn w done → IsMade nodes wires (get_or rs w []) (get_or wires w 0)
  pub closed : (w v : ℕ) → IsIn w done → IsIn v (wires_in (get_or rs w [])) → IsIn v done
  pub all : (w : ℕ) → w < length rs → IsIn w done ⊎ IsIn w left
  pub further : (w : ℕ) → IsIn w left → w < length rs

pub wiring_first : (nodes : List Node) (wires : List ℕ) (rs : List (List Term)) (order : List ℕ) → length wires ≡ length rs → IsOrder (map wires_in rs) order → IsWiring nodes wires rs order
wiring_first nodes wires rs order count is = record {
  done = [];
  ready = is.ready;
  count = count;
  inside = λ w h. absurd h;
  made = λ w h. absurd h;
  closed = λ w v h i. absurd h;
  all = λ w lt. inr (is.all w (omega (arith, length-map rs wires_in)));
  further = λ w h. omega (arith, is.within w h, length-map rs wires_in);
}

pub wiring_last : (nodes : List Node) (wires : List ℕ) (rs : List (List Term)) → IsWiring nodes wires rs [] → AreMade nodes wires rs wires
wiring_last nodes wires rs is = record { count = is.count; each = λ w lt. elim (is.all w lt) [ inl there ↦ is.made w there | inr none ↦ absurd none ] }

module _ (nodes new : List Node) (wires : List ℕ) (rs : List (List Term)) (w : ℕ) (left : List ℕ) (is : IsWiring nodes wires rs (w ∷ left)) where
  pub next_inside : w < length rs
  next_inside = is.further w (inl refl)

  reads_done : (v : ℕ) → IsIn v (wires_in (get_or rs w [])) → IsIn v is.done
  reads_done v h = is.ready.1 v (subst (IsIn v) (sym (get_or-map wires_in rs w [] [] next_inside)) h)

  pub next_readable : ReadsSources nodes (get_or rs w []) → IsReadable nodes wires (get_or rs w [])
  next_readable sources = record {
    reads_wires = λ v h. let there = reads_done v h in (omega (arith, is.inside v there, is.count), (is.made v there).within);
    reads_sources = sources;
  }

  module _ (k : ℕ) (grown : IsGrown nodes new) (within : k < length new) (value : value_of (formulas_at nodes wires) (get_or rs w []) ≡ Some (formula_at (formulas new) k)) where
    others : (v : ℕ) → IsIn v is.done → v ≢ w
    others v h e = is.ready.0 (subst (λ (x : ℕ). IsIn x is.done) e h)

    same_wire : (v : ℕ) → IsIn v is.done → formula_at (formulas_at new (set wires w k)) v ≡ formula_at (formulas_at nodes wires) v
    same_wire v h =
        let lt : v < length wires = omega (arith, is.inside v h, is.count) in
        wire_value new (set wires w k) v (omega (arith, length-set wires w k)) ∙ ap (formula_at (formulas new)) (get_or-set_other wires w v k 0 (others v h))
        ∙ kept_formula nodes new (get_or wires v 0) grown (is.made v h).within ∙ sym (wire_value nodes wires v lt)

    here : get_or (set wires w k) w 0 ≡ k
    here = get_or-set_same wires w k 0 (omega (arith, next_inside, is.count))

    made_here : IsMade new (set wires w k) (get_or rs w []) (get_or (set wires w k) w 0)
    made_here = record {
      within = omega (arith, here);
      value = value_same (formulas_at new (set wires w k)) (formulas_at nodes wires) (get_or rs w []) (λ v h. same_wire v (reads_done v h)) ∙ value ∙ ap (λ (j : ℕ). Some (formula_at (formulas new) j)) (sym here);
    }

    made_there : (x : ℕ) → IsIn x is.done → IsMade new (set wires w k) (get_or rs x []) (get_or (set wires w k) x 0)
    made_there x h =
        let was = is.made x h in
        let at = get_or-set_other wires w x k 0 (others x h) in
        record {
          within = omega (arith, at, was.within, longer nodes new grown);
          value =
              value_same (formulas_at new (set wires w k)) (formulas_at nodes wires) (get_or rs x []) (λ v i. same_wire v (is.closed x v h i))
              ∙ was.value ∙ ap Some (sym (kept_formula nodes new (get_or wires x 0) grown was.within)) ∙ ap (λ (j : ℕ). Some (formula_at (formulas new) j)) (sym at);
        }

    pub wiring_more : IsWiring new (set wires w k) rs left
    wiring_more = record {
      done = w ∷ is.done;
      ready = is.ready.2;
      count = length-set wires w k ∙ is.count;
      inside = λ x h. elim h [ inl e ↦ subst (λ (y : ℕ). y < length rs) (sym e) next_inside | inr there ↦ is.inside x there ];
      made = λ x h. elim h [ inl e ↦ subst (λ (y : ℕ). IsMade new (set wires w k) (get_or rs y []) (get_or (set wires w k) y 0)) (sym e) made_here | inr there ↦ made_there x there ];
      closed = λ x v h i. elim h [ inl e ↦ inr (reads_done v (subst (λ (y : ℕ). IsIn v (wires_in (get_or rs y []))) e i)) | inr there ↦ inr (is.closed x v there i) ];
      all = λ x lt. elim (is.all x lt) [ inl there ↦ inl (inr there) | inr next ↦ elim next [ inl e ↦ inl (inl e) | inr later ↦ inr later ] ];
      further = λ x h. is.further x (inr h);
    }

-- the rule at a place of rules that lie in memory
pub rule_is : {X : Type 0} (items : X → List Term) (rules : List X) (w : ℕ) (r : X) → w < length rules → r ≡ get_or rules w r → get_or (map items rules) w [] ≡ items r
rule_is items rules w r lt at = get_or-map items rules w r [] lt ∙ ap items (sym at)

-- where a step takes its room from what is left
pub room_left : {X : Type 0} (f : X → ℕ) (xs : List X) (i : ℕ) (x : X) (now new all : ℕ) → i < length xs → x ≡ get_or xs i x → now + sum_by f (drop i xs) ≤ all → new ≤ now + f x → new + sum_by f (drop (i + 1) xs) ≤ all
room_left f xs i x now new all lt at so_far few =
    let split : sum_by f (drop i xs) ≡ f x + sum_by f (drop (i + 1) xs) = ap (sum_by f) (drop_item xs i x lt at) ∙ sum_by-cons f x (drop (i + 1) xs) in
    omega arith

pub room_now : {X : Type 0} (f : X → ℕ) (xs : List X) (i : ℕ) (x : X) (now all : ℕ) → i < length xs → x ≡ get_or xs i x → now + sum_by f (drop i xs) ≤ all → now + f x ≤ all
room_now f xs i x now all lt at so_far =
    let split : sum_by f (drop i xs) ≡ f x + sum_by f (drop (i + 1) xs) = ap (sum_by f) (drop_item xs i x lt at) ∙ sum_by-cons f x (drop (i + 1) xs) in
    omega arith

-- what holds of each holds of that at a place
pub each_at : {X : Type 0} (P : X → Type 0) (xs : List X) (i : ℕ) (d : X) → i < length xs → AllByRecursion P xs → P (get_or xs i d)
each_at P [] i d lt all = absurd (omega arith)
each_at P (x ∷ xs) zero d lt all = all.0
each_at P (x ∷ xs) (suc i) d lt all = each_at P xs i d (omega arith) all.1

-- the terms of an order are those of the rules
pub ordered_sum : (rs : List (List Term)) (order : List ℕ) → IsOrder (map wires_in rs) order → sum_by (λ w. length (get_or rs w [])) order ≡ sum_by (λ ts. length ts) rs
ordered_sum rs order is =
    let moved = ordered_list (map wires_in rs) order rs [] (sym (length-map rs wires_in)) is in
    sum_map (λ w. get_or rs w []) order ∙ sum_by-IsPermutation (λ (ts : List Term). length ts) rs (map (λ w. get_or rs w []) order) moved
  where
    sum_map : (g : ℕ → List Term) (ws : List ℕ) → sum_by (λ w. length (g w)) ws ≡ sum_by (λ (ts : List Term). length ts) (map g ws)
    sum_map g [] = refl
    sum_map g (w ∷ ws) = sum_by-cons (λ (x : ℕ). length (g x)) w ws ∙ ap (λ (n : ℕ). length (g w) + n) (sum_map g ws) ∙ sym (sum_by-cons (λ (ts : List Term). length ts) (g w) (map g ws))

pub sources_grown : (old new : List Node) (ts : List Term) → IsGrown old new → ReadsSources old ts → ReadsSources new ts
sources_grown old new ts grown reads n h = let was = reads n h in (omega (arith, was.0, longer old new grown), kept_formula old new n grown was.0 ∙ was.1)

-- what stands before a place was made before, and what stands there now
pub made_more : (old new : List Node) (wires : List ℕ) (rs : List (List Term)) (ks longer : List ℕ) (i k : ℕ) → IsGrown old new → length ks ≡ i → longer ≡ ks ++ k ∷ [] → i < length rs → AllByRecursion (ReadsWires wires) rs → ((v : ℕ) → v < length wires → get_or wires v 0 < length old)
    → IsMade new wires (get_or rs i []) k → ((j : ℕ) → j < i → IsMade old wires (get_or rs j []) (get_or ks j 0)) → (j : ℕ) → j < i + 1 → IsMade new wires (get_or rs j []) (get_or longer j 0)
made_more old new wires rs ks longer i k grown count put inside reads low here before j lt = elim (same_or_not j i) [
  | inl e ↦
      let at : get_or longer j 0 ≡ k = ap (λ (xs : List ℕ). get_or xs j 0) put ∙ ap (λ (n : ℕ). get_or (ks ++ k ∷ []) n 0) (e ∙ sym count) ∙ get_last ks k in
      subst (λ (n : ℕ). IsMade new wires (get_or rs j []) n) (sym at) (subst (λ (n : ℕ). IsMade new wires (get_or rs n []) k) (sym e) here)
  | inr ne ↦
      let early : j < i = omega (arith, ne) in
      let at : get_or longer j 0 ≡ get_or ks j 0 = ap (λ (xs : List ℕ). get_or xs j 0) put ∙ get_early ks k j (omega arith) in
      let wide = each_at (ReadsWires wires) rs j [] (omega arith) reads in
      subst (λ (n : ℕ). IsMade new wires (get_or rs j []) n) (sym at) (still_made old new wires (get_or rs j []) (get_or ks j 0) grown (λ v h. (wide v h, low v (wide v h))) (before j early))
]
  where
    get_last : (xs : List ℕ) (k : ℕ) → get_or (xs ++ k ∷ []) (length xs) 0 ≡ k
    get_last [] k = refl
    get_last (x ∷ xs) k = get_last xs k

    get_early : (xs : List ℕ) (k j : ℕ) → j < length xs → get_or (xs ++ k ∷ []) j 0 ≡ get_or xs j 0
    get_early [] k j lt = absurd (omega arith)
    get_early (x ∷ xs) k zero lt = refl
    get_early (x ∷ xs) k (suc j) lt = get_early xs k j (omega arith)

-- where a step takes its room from what is left of rules that lie in memory
pub room_mapped : {X : Type 0} (items : X → List Term) (rules : List X) (i : ℕ) (r : X) (used now new all : ℕ) → i < length rules → r ≡ get_or rules i r → used ≡ length (items r) → now + sum_by (λ (ts : List Term). length ts) (map items (drop i rules)) ≤ all → new ≤ now + used
    → new + sum_by (λ (ts : List Term). length ts) (map items (drop (i + 1) rules)) ≤ all
room_mapped items rules i r used now new all lt at size so_far few =
    let split : sum_by (λ (ts : List Term). length ts) (map items (drop i rules)) ≡ length (items r) + sum_by (λ (ts : List Term). length ts) (map items (drop (i + 1) rules)) =
    ap (λ (xs : List _). sum_by (λ (ts : List Term). length ts) (map items xs)) (drop_item rules i r lt at) ∙ sum_by-cons (λ (ts : List Term). length ts) (items r) (map items (drop (i + 1) rules)) in
    omega arith
