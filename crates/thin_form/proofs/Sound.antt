-- What is numbered keeps the rules.
use Rattle.std.proofs.Common.{◌≡◌, ◌⊎◌, inl, inr, ℕ, suc, ◌<◌, Bool, true, false, ◌||◌, List, [], ◌∷◌, ◌++◌, map, length, get_or, refl, sym, ap, subst, ◌∙◌, arith}
use Rattle.std.specs.List.{AllByRecursion, IsDistinct, list_any}
use Rattle.std.specs.List.Sorted.{IsPermutation}
use Rattle.std.specs.Str.{bytes_eq}
use Rattle.std.proofs.lemmas.Bool.{false_from_ne_true, or_cases, cases_lt}
use Rattle.std.proofs.lemmas.List.{length-map, get_or-map, get_or_past}
use Rattle.std.proofs.lemmas.List.Elements.{All-from_recursion, recursion_from_All}
use Rattle.std.proofs.lemmas.List.Sorted.{All-permutation}
use Rattle.thin_tree.specs.Tree as tree
use Rattle.thin_tree.specs.Tree.{Declared, Assignment, Process, Expr}
use Rattle.thin_tree.specs.Grammar.{names_in}
use Rattle.thin_form.specs.Meaning.{place}
use Rattle.thin_form.specs.Rules.{targets, is_among, IsForward, HasNoCycle}
use Rattle.thin_form.specs.Numbers.{Lists}
use Rattle.thin_form.specs.Walk.{IsIn, IsReadyAfter, IsOrder, IsCircle}
use Rattle.thin_form.specs.Values.{wires_in}
use Rattle.thin_form.specs.declared.term.Term.{Term}
use Rattle.thin_form.proofs.Naming.{place_at, among_at, same_eq, eq_same}
use Rattle.thin_form.proofs.Walks.{same_or_not}
use Rattle.thin_form.proofs.Permuted.{later_is_new, ordered_list}
use Rattle.thin_form.proofs.Exprs.{IsTerms}
use Rattle.thin_form.proofs.Computed.{named, wire_read}
use Rattle.thin_form.proofs.Sorting.{any_kept}
use Rattle.thin_form.proofs.Ruled.{AreTerms, terms_count, terms_at_place}

abbrev pub no_assignment : Assignment
no_assignment = record { target = []; value = tree.Name [] }

-- what holds at each place holds of each
pub by_place : {X : Type 0} (P : X → Type 0) (xs : List X) (d : X) → ((i : ℕ) → i < length xs → P (get_or xs i d)) → AllByRecursion P xs
by_place P [] d at = tt
by_place P (x ∷ xs) d at = (at 0 (omega arith), by_place P xs d (λ i lt. at (suc i) (omega arith)))

pub both_all : {X : Type 0} (P Q R : X → Type 0) (xs : List X) → ((x : X) → P x → Q x → R x) → AllByRecursion P xs → AllByRecursion Q xs → AllByRecursion R xs
both_all P Q R [] f all also = tt
both_all P Q R (x ∷ xs) f all also = (f x all.0 also.0, both_all P Q R xs f all.1 also.1)

pub all_map : {X Y : Type 0} (P : Y → Type 0) (f : X → Y) (xs : List X) → AllByRecursion P (map f xs) → AllByRecursion (λ x. P (f x)) xs
all_map P f [] all = tt
all_map P f (x ∷ xs) all = (all.0, all_map P f xs all.1)

pub map_back : {X Y : Type 0} (P : Y → Type 0) (f : X → Y) (xs : List X) → AllByRecursion (λ x. P (f x)) xs → AllByRecursion P (map f xs)
map_back P f [] all = tt
map_back P f (x ∷ xs) all = (all.0, map_back P f xs all.1)

pub all_append : {X : Type 0} (P : X → Type 0) (xs ys : List X) → AllByRecursion P xs → AllByRecursion P ys → AllByRecursion P (xs ++ ys)
all_append P [] ys all also = also
all_append P (x ∷ xs) ys all also = (all.0, all_append P xs ys all.1 also)

or_true : (b : Bool) → (b || true) ≡ true
or_true true = refl
or_true false = refl

-- where no name is in both lists, each of the first is none of the second
none_of : (ns ms : List (List ℕ)) → ((n : List ℕ) → is_among n ns ≡ true → is_among n ms ≡ true → ⊥) → AllByRecursion (λ n. is_among n ms ≡ false) ns
none_of [] ms apart = tt
none_of (n ∷ ns) ms apart = (false_from_ne_true (is_among n ms) (λ h. apart n (rw (eq_same n n refl) refl) h), none_of ns ms (λ k i h. apart k (rw i (or_true (bytes_eq k n))) h))

-- each expression has terms
terms_each : (l : Lists) (es : List Expr) (rs : List (List Term)) → AreTerms l es rs → AllByRecursion (λ e. (ts : List Term) × IsTerms l e ts) es
terms_each l [] rs are = tt
terms_each l (e ∷ es) [] are = absurd are
terms_each l (e ∷ es) (ts ∷ rs) are = ((ts, are.0), terms_each l es rs are.1)

-- ---- wires in order read each other in one direction

module _ (l : Lists) (assigns : List Assignment) (rs : List (List Term)) (named_so : targets assigns ≡ l.wires) (once : IsDistinct bytes_eq l.wires) (apart : (n : List ℕ) → is_among n l.wires ≡ true → is_among n l.sources ≡ false) (are : AreTerms l (map (λ a. a.value) assigns) rs) where
  -- the assignment of wire w
  abbrev assigned : ℕ → Assignment
  assigned w = get_or assigns w no_assignment

  pub wires_count : length assigns ≡ length l.wires
  wires_count = sym (length-map assigns (λ a. a.target)) ∙ ap length named_so

  pub rules_count : length rs ≡ length assigns
  rules_count = terms_count l (map (λ a. a.value) assigns) rs are ∙ length-map assigns (λ a. a.value)

  pub target_at : (w : ℕ) → w < length assigns → get_or l.wires w [] ≡ (assigned w).target
  target_at w lt = ap (λ (ns : List (List ℕ)). get_or ns w []) (sym named_so) ∙ get_or-map (λ (a : Assignment). a.target) assigns w no_assignment [] lt

  pub place_of_target : (w : ℕ) → w < length assigns → place l.wires (assigned w).target ≡ w
  place_of_target w lt = place_at l.wires w (assigned w).target once (omega (arith, wires_count)) (target_at w lt)

  pub target_among : (w : ℕ) → w < length assigns → is_among (assigned w).target l.wires ≡ true
  target_among w lt = among_at l.wires w (assigned w).target (omega (arith, wires_count)) (target_at w lt)

  pub terms_of_wire : (w : ℕ) → w < length assigns → IsTerms l (assigned w).value (get_or rs w [])
  terms_of_wire w lt =
      let at = terms_at_place l (map (λ a. a.value) assigns) rs w (tree.Name []) are (omega (arith, length-map assigns (λ (a : Assignment). a.value))) in
      subst (λ (e : Expr). IsTerms l e (get_or rs w [])) (get_or-map (λ (a : Assignment). a.value) assigns w no_assignment (tree.Name []) lt) at

  -- a name among the targets of some wires is one of theirs
  target_in : (ws : List ℕ) (n : List ℕ) → is_among n (targets (map (λ w. get_or assigns w no_assignment) ws)) ≡ true → ((w : ℕ) → IsIn w ws → w < length assigns) → IsIn (place l.wires n) ws × (is_among n l.wires ≡ true)
  target_in [] n h within = absurd cc
  target_in (w ∷ ws) n h within = elim (or_cases (bytes_eq n (assigned w).target) (is_among n (targets (map (λ w. get_or assigns w no_assignment) ws))) h) [
    | inl here ↦
        let same = same_eq n (assigned w).target here in
        let lt = within w (inl refl) in
        (inl (ap (place l.wires) same ∙ place_of_target w lt), ap (λ (x : List ℕ). is_among x l.wires) same ∙ target_among w lt)
    | inr later ↦ let rest = target_in ws n later (λ v i. within v (inr i)) in (inr rest.0, rest.1)
  ]

  forward_from : (done ws : List ℕ) → IsReadyAfter (map wires_in rs) done ws → ((w : ℕ) → IsIn w ws → w < length assigns) → IsForward (map (λ w. get_or assigns w no_assignment) ws)
  forward_from done [] ready within = tt
  forward_from done (w ∷ ws) ready within =
      let lt = within w (inl refl) in
      let is = terms_of_wire w lt in
      let reads_done : (v : ℕ) → IsIn v (wires_in (get_or rs w [])) → IsIn v done = λ v h. ready.1 v (subst (IsIn v) (sym (get_or-map wires_in rs w [] [] (omega (arith, rules_count)))) h) in (
        none_of (names_in (assigned w).value) (targets (map (λ v. get_or assigns v no_assignment) (w ∷ ws))) (λ n there among.
            let at = target_in (w ∷ ws) n among within in
            let read = wire_read l (assigned w).value (get_or rs w []) n is there (apart n at.1) in
            later_is_new (map wires_in rs) done (w ∷ ws) (place l.wires n) ready (reads_done (place l.wires n) read.1) at.0),
        forward_from (w ∷ done) ws ready.2 (λ v i. within v (inr i)),
      )

  pub no_cycle : (order : List ℕ) → IsOrder (map wires_in rs) order → HasNoCycle assigns
  no_cycle order is = record {
    order = map (λ w. get_or assigns w no_assignment) order;
    same = ordered_list (map wires_in rs) order assigns no_assignment (sym (length-map rs wires_in ∙ rules_count)) is;
    forward = forward_from [] order is.ready (λ w h. omega (arith, is.within w h, length-map rs wires_in, rules_count));
  }

  -- ---- a circle

  in_or_not : (v : ℕ) (ws : List ℕ) → IsIn v ws ⊎ (IsIn v ws → ⊥)
  in_or_not v [] = inr (λ h. h)
  in_or_not v (w ∷ ws) = elim (same_or_not v w) [
    | inl e ↦ inl (inl e)
    | inr ne ↦ elim (in_or_not v ws) [ inl h ↦ inl (inr h) | inr none ↦ inr (λ h. elim h [ inl e ↦ ne e | inr i ↦ none i ]) ]
  ]

  -- the target is a wire, and the value is its terms
  record IsWire (a : Assignment) : Type 0 where
    wire : is_among a.target l.wires ≡ true
    terms : IsTerms l a.value (get_or rs (place l.wires a.target) [])

  all_wires : AllByRecursion IsWire assigns
  all_wires = by_place IsWire assigns no_assignment (λ w lt. record { wire = target_among w lt; terms = subst (λ (k : ℕ). IsTerms l (assigned w).value (get_or rs k [])) (sym (place_of_target w lt)) (terms_of_wire w lt) })

  spot : (n : List ℕ) (ns ms : List (List ℕ)) → is_among n ns ≡ true → AllByRecursion (λ k. is_among k ms ≡ false) ns → is_among n ms ≡ false
  spot n [] ms h all = absurd cc
  spot n (k ∷ ns) ms h all = elim (or_cases (bytes_eq n k) (is_among n ns) h) [
    | inl e ↦ ap (λ (x : List ℕ). is_among x ms) (same_eq n k e) ∙ all.0
    | inr later ↦ spot n ns ms later all.1
  ]

  among_targets : (n : List ℕ) (xs : List Assignment) → is_among n (targets xs) ≡ list_any (λ a. bytes_eq n a.target) xs
  among_targets n [] = refl
  among_targets n (x ∷ xs) = ap (λ (b : Bool). bytes_eq n x.target || b) (among_targets n xs)

  kept_target : (n : List ℕ) (xs ys : List Assignment) → IsPermutation xs ys → is_among n (targets xs) ≡ true → is_among n (targets ys) ≡ true
  kept_target n xs ys moved h = among_targets n ys ∙ any_kept (λ a. bytes_eq n a.target) xs ys moved ∙ sym (among_targets n xs) ∙ h

  module _ (ws : List ℕ) (is : IsCircle (map wires_in rs) ws) where
    inside : (w : ℕ) → IsIn w ws → w < length rs
    inside w h = elim (cases_lt w (length rs)) [
      | inl lt ↦ lt
      | inr le ↦ let read = is.reads w h in absurd (subst (IsIn read.0) (get_or_past (map wires_in rs) w [] (omega (arith, length-map rs wires_in))) read.1)
    ]

    -- no list that reads in one direction assigns all wires of the circle
    never : (as_listed : List Assignment) → AllByRecursion IsWire as_listed → IsForward as_listed → ((n : List ℕ) → is_among n l.wires ≡ true → IsIn (place l.wires n) ws → is_among n (targets as_listed) ≡ true) → (n : List ℕ) → is_among n l.wires ≡ true → IsIn (place l.wires n) ws → ⊥
    never [] wires forward all n wire on = let there = all n wire on in cc
    never (a ∷ rest) wires forward all n wire on = elim (in_or_not (place l.wires a.target) ws) [
      | inl here ↦
          let read = is.reads (place l.wires a.target) here in
          let lt : place l.wires a.target < length rs = inside (place l.wires a.target) here in
          let v_in : IsIn read.0 (wires_in (get_or rs (place l.wires a.target) [])) = subst (IsIn read.0) (get_or-map wires_in rs (place l.wires a.target) [] [] lt) read.1 in
          let by = named l a.value (get_or rs (place l.wires a.target) []) read.0 wires.0.terms v_in in
          let among = all by.name by.wire (subst (λ (v : ℕ). IsIn v ws) (sym by.at) read.2) in
          let none = spot by.name (names_in a.value) (targets (a ∷ rest)) by.there forward.0 in
          cc
      | inr elsewhere ↦ never rest wires.1 forward.1 (λ m w i. elim (or_cases (bytes_eq m a.target) (is_among m (targets rest)) (all m w i)) [
        | inl e ↦ absurd (elsewhere (subst (λ (x : List ℕ). IsIn (place l.wires x) ws) (same_eq m a.target e) i))
        | inr later ↦ later
      ]) n wire on
    ]

    pub no_circle : HasNoCycle assigns → ⊥
    no_circle none =
        let first = first_of ws is.some in
        let lt : first.0 < length assigns = omega (arith, inside first.0 first.1, rules_count) in
        let wires_listed = recursion_from_All IsWire none.order (All-permutation IsWire assigns none.order none.same (All-from_recursion IsWire assigns all_wires)) in
        never none.order wires_listed none.forward (λ n wire on. kept_target n assigns none.order none.same (ap (is_among n) named_so ∙ wire)) (assigned first.0).target (target_among first.0 lt) (subst (λ (v : ℕ). IsIn v ws) (sym (place_of_target first.0 lt)) first.1)
      where
        first_of : (vs : List ℕ) → 0 < length vs → (w : ℕ) × IsIn w vs
        first_of [] some = absurd (omega arith)
        first_of (v ∷ vs) some = (v, inl refl)
