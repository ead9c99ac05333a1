-- Serves specs/Queue.antt: a walk from item to item that aren't listed comes back, and so finds a cycle.
use Rattle.std.proofs.Common.{◌≡◌, ◌≢◌, ◌↔◌, inl, inr, ℕ, ◌<◌, Bool, true, false, List, [], ◌∷◌, ◌++◌, length, set, take, drop, replicate, All, AllPairs, Contains, sym, subst, ap, refl, ◌∙◌, arith, get_or-set_other, get_or-set_same, length-set, drop-cons}
use Rattle.std.specs.Prelude.{slice_index}
use Rattle.std.proofs.lemmas.Bool.{cases_lt}
use Rattle.std.proofs.lemmas.List.{length-replicate, take-append-drop}
use Rattle.std.proofs.lemmas.List.Elements.{All-push, Contains-get_or, Contains-push, Contains-push_cases, Contains-append_left}
use Rattle.std.proofs.lemmas.List.Quantifiers.{all_pairs_push}
use Rattle.std.proofs.lemmas.List.Sorted.{IsPermutation-append_comm, IsPermutation-sym, Contains-permutation}
use Rattle.net_view.specs.LeastFirst.{IsPathTo}
use Rattle.net_view.specs.Queue.{needs_of, Needs, need_at, is_marked, IsStuck, IsCycle, Turns}
use Rattle.net_view.proofs.Members.{contains_none, contains_behind}
use Rattle.net_view.proofs.QueueLemmas.{head_apart, tail_apart, apart_moved, same_or_not, not_both}
use Rattle.net_view.proofs.ListingLemmas.{none_marked}

-- the first of a list, or what comes behind it
abbrev pub first_or : ℕ → List ℕ → ℕ
first_or e [] = e
first_or e (n ∷ rest) = n

-- each needs the next, the last what comes behind
abbrev pub Leads : List (List ℕ) → ℕ → List ℕ → Type 0
Leads needs e [] = Unit {0}
Leads needs e (n ∷ rest) = Needs needs n (first_or e rest) × Leads needs e rest

leads_push : (needs : List (List ℕ)) (e g : ℕ) (xs : List ℕ) → Leads needs e xs → Needs needs e g → Leads needs g (xs ++ e ∷ [])
leads_push needs e g [] h need = (need, tt)
leads_push needs e g (x ∷ []) h need = (h.0, (need, tt))
leads_push needs e g (x ∷ y ∷ xs) h need = (h.0, leads_push needs e g (y ∷ xs) h.1 need)

leads_back : (needs : List (List ℕ)) (e : ℕ) (xs ys : List ℕ) → Leads needs e (xs ++ ys) → Leads needs e ys
leads_back needs e [] ys h = h
leads_back needs e (x ∷ xs) ys h = leads_back needs e xs ys h.1

leads_front : (needs : List (List ℕ)) (e : ℕ) (xs : List ℕ) (y : ℕ) (ys : List ℕ) → Leads needs e (xs ++ y ∷ ys) → Leads needs y xs
leads_front needs e [] y ys h = tt
leads_front needs e (x ∷ []) y ys h = (h.0, tt)
leads_front needs e (x ∷ z ∷ xs) y ys h = (h.0, leads_front needs e (z ∷ xs) y ys h.1)

leads_append : (needs : List (List ℕ)) (e : ℕ) (xs ys : List ℕ) → Leads needs (first_or e ys) xs → Leads needs e ys → Leads needs e (xs ++ ys)
leads_append needs e [] ys h k = k
leads_append needs e (x ∷ []) [] h k = h
leads_append needs e (x ∷ []) (y ∷ ys) h k = (h.0, k)
leads_append needs e (x ∷ z ∷ xs) ys h k = (h.0, leads_append needs e (z ∷ xs) ys h.1 k)

first_front : (e : ℕ) (front : List ℕ) (y : ℕ) (ys : List ℕ) → first_or e (front ++ y ∷ ys) ≡ first_or y front
first_front e [] y ys = refl
first_front e (x ∷ front) y ys = refl

to_path : (needs : List (List ℕ)) (e n : ℕ) (rest : List ℕ) → Leads needs e (n ∷ rest) → IsPathTo (λ m. m < length needs) (Needs needs) ◌<◌ e (n ∷ rest)
to_path needs e n [] h = h.0
to_path needs e n (m ∷ rest) h = (h.0, to_path needs e m rest h.1)

apart_back : (xs ys : List ℕ) → AllPairs (λ a b. a ≢ b) (xs ++ ys) → AllPairs (λ a b. a ≢ b) ys
apart_back [] ys h = h
apart_back (x ∷ xs) ys h = apart_back xs ys (tail_apart x (xs ++ ys) h)

-- the items gone through, and the one that is reached
pub record Path (needs : List (List ℕ)) (at : List ℕ) (listed seen : List Bool) (path : List ℕ) (f : ℕ) : Type 0 where
  pub f_in : f < length needs
  pub f_free : is_marked listed f ≡ false
  pub seen_len : length seen ≡ length needs
  pub seen_is : (x : ℕ) → (is_marked seen x ≡ true) ↔ Contains path x
  pub inside : All (λ x. x < length needs) path
  pub apart : AllPairs (λ a b. a ≢ b) path
  pub leads : Leads needs f path

pub path_start : (needs : List (List ℕ)) (at : List ℕ) (listed : List Bool) (f : ℕ) → f < length needs → is_marked listed f ≡ false → Path needs at listed (replicate (length needs) false) [] f
path_start needs at listed f f-in free = record {
  f_in = f-in;
  f_free = free;
  seen_len = length-replicate (length needs) false;
  seen_is = λ x. (λ h. absurd (none_marked (length needs) x h), λ h. absurd (contains_none x h));
  inside = λ k d lt. absurd (omega arith);
  apart = λ i j d lt within. absurd (omega arith);
  leads = tt;
}

pub path_more : (needs : List (List ℕ)) (at : List ℕ) (listed seen : List Bool) (path : List ℕ) (f : ℕ) → IsStuck needs at listed → Path needs at listed seen path f → is_marked seen f ≡ false
    → Path needs at listed (set seen f true) (path ++ f ∷ []) (need_at needs at f)
path_more needs at listed seen path f stuck p new =
    let step = stuck.each f p.f_in p.f_free in
    let g = need_at needs at f in
    let need : Needs needs f g = Contains-get_or (needs_of needs f) (slice_index at f) 0 step.0 in
    let f-seen : f < length seen = let inside = p.f_in in omega (arith, p.seen_len) in
    let fresh : Contains path f → ⊥ = λ h. not_both (is_marked seen f) ((p.seen_is f).1 h) new in
    record {
      f_in = stuck.closed f g need;
      f_free = step.1;
      seen_len = length-set seen f true ∙ p.seen_len;
      seen_is = λ x. elim (same_or_not x f) [
        | inl e ↦
            (λ h. subst (λ (z : ℕ). Contains (path ++ f ∷ []) z) (sym e) (Contains-push path f), λ h. subst (λ (z : ℕ). is_marked (set seen f true) z ≡ true) (sym e) (get_or-set_same seen f true false f-seen))
        | inr ne ↦
            let same : is_marked (set seen f true) x ≡ is_marked seen x = get_or-set_other seen f x true false ne in (
              λ h. Contains-append_left path (f ∷ []) x ((p.seen_is x).0 (sym same ∙ h)),
              λ h. same ∙ (p.seen_is x).1 (elim (Contains-push_cases path f x h) [ inl old ↦ old | inr e ↦ absurd (ne (sym e)) ]),
            )
      ];
      inside = All-push (λ x. x < length needs) path f p.inside p.f_in;
      apart = all_pairs_push (λ a b. a ≢ b) path f p.apart (λ k d lt e. fresh (subst (λ (z : ℕ). Contains path z) e (Contains-get_or path k d lt)));
      leads = leads_push needs f g path p.leads need;
    }

-- what is reached again begins a cycle, which is turned to its least item
pub cycle_end : (needs : List (List ℕ)) (at : List ℕ) (listed seen : List Bool) (path turned : List ℕ) (f j : ℕ) → Path needs at listed seen path f → j < length path → slice_index path j ≡ f
    → Turns (drop j path) turned → IsCycle needs turned
cycle_end needs at listed seen path turned f j p j-in here turns =
    let cycle = drop j path in
    let parts : take j path ++ cycle ≡ path = take-append-drop j path in
    let cycle-leads = leads_back needs f (take j path) cycle (subst (λ (xs : List ℕ). Leads needs f xs) (sym parts) p.leads) in
    let cycle-apart = apart_back (take j path) cycle (subst (λ (xs : List ℕ). AllPairs (λ a b. a ≢ b) xs) (sym parts) p.apart) in
    let begins : first_or 0 cycle ≡ f = ap (first_or 0) (drop-cons path j 0 j-in) ∙ here in
    let split-leads = subst (λ (xs : List ℕ). Leads needs f xs) turns.was cycle-leads in
    let split-apart = subst (λ (xs : List ℕ). AllPairs (λ a b. a ≢ b) xs) turns.was cycle-apart in
    let back = turns.least ∷ turns.rest in
    let first-is : first_or turns.least turns.front ≡ f = sym (first_front 0 turns.front turns.least turns.rest) ∙ ap (first_or 0) (sym turns.was) ∙ begins in
    let back-leads = subst (λ (e : ℕ). Leads needs e back) (sym first-is) (leads_back needs f turns.front back split-leads) in
    let all-leads = leads_append needs turns.least back turns.front back-leads (leads_front needs f turns.front turns.least turns.rest split-leads) in
    let moved = IsPermutation-append_comm turns.front back in
    let all-apart = apart_moved (turns.front ++ back) (back ++ turns.front) moved split-apart in
    let cyc : IsCycle needs (turns.least ∷ (turns.rest ++ turns.front)) = (
      to_path needs turns.least turns.least (turns.rest ++ turns.front) all-leads,
      all-apart,
      λ m h.
          let there : Contains cycle m =
          subst (λ (xs : List ℕ). Contains xs m) (sym turns.was) (Contains-permutation (back ++ turns.front) (turns.front ++ back) m (IsPermutation-sym (turns.front ++ back) (back ++ turns.front) moved) (contains_behind turns.least m (turns.rest ++ turns.front) h)) in
          let le = turns.lowest m there in
          let ne = head_apart turns.least m (turns.rest ++ turns.front) all-apart h in
          elim (cases_lt turns.least m) [ inl lt ↦ lt | inr ge ↦ absurd (ne (omega arith)) ],
    ) in
    subst (λ (xs : List ℕ). IsCycle needs xs) (sym turns.is) cyc
