-- A walk through gates, fan-ins first: what is known between its steps.
use Rattle.std.proofs.Common.{◌≡◌, ◌≢◌, ◌⊎◌, inl, inr, ℕ, zero, suc, ◌+◌, ◌-◌, ◌*◌, ◌<◌, ◌≤◌, List, [], ◌∷◌, ◌++◌, length, get_or, set, map, replicate, reverse, All, Contains, refl, sym, ap, subst, ◌∙◌, arith}
use Rattle.std.specs.List.{flat_map}
use Rattle.std.proofs.lemmas.List.{get_or-set_same, get_or-set_other, length-set, length-replicate, length-reverse, length_push, get_or_read, append_assoc, append-nil, reverse-append, reverse-reverse}
use Rattle.std.proofs.lemmas.List.Elements.{Contains-append_left, Contains-append_cases, Contains-push, Contains-push_cases, All-contains}
use Rattle.std.proofs.lemmas.Bool.{cases_eq}
use Rattle.net_view.proofs.Members.{All-from_contains, contains_none, contains_head, contains_behind, contains_cases}
use Rattle.net_order.specs.declared.step.Step.{Step}
use Rattle.net_order.specs.declared.step.Step.TheVariants.{Visit, Leave}
use Rattle.net_order.specs.declared.step.Mark.{Mark}
use Rattle.net_order.specs.declared.step.Mark.TheVariants.{New, Open, Done}
use Rattle.net_order.specs.Order.{post, firsts, IsInOrder}
use Rattle.net_order.specs.Loops.{IsNeeded, IsWay, IsLoop}
use Rattle.net_order.specs.Walk.{IsUnder, IsChain, HasLeave}
use Rattle.net_order.proofs.Firsts.{all_already, firsts_push}

-- ---- marks

abbrev pub number : Mark → ℕ
number New = 0
number Open = 1
number Done = 2

abbrev pub mark : List Mark → ℕ → ℕ
mark ms k = number (get_or ms k New)

-- how many gates were not met
abbrev pub fresh : List Mark → ℕ
fresh [] = 0
fresh (m ∷ ms) = (1 - number m) + fresh ms

pub mark_here : (ms : List Mark) (k : ℕ) (m : Mark) → k < length ms → mark (set ms k m) k ≡ number m
mark_here ms k m lt = ap number (get_or-set_same ms k m New lt)

pub mark_other : (ms : List Mark) (k j : ℕ) (m : Mark) → j ≢ k → mark (set ms k m) j ≡ mark ms j
mark_other ms k j m ne = ap number (get_or-set_other ms k j m New ne)

pub fresh_set : (ms : List Mark) (k : ℕ) (m : Mark) → k < length ms → fresh (set ms k m) + (1 - mark ms k) ≡ fresh ms + (1 - number m)
fresh_set [] k m lt = absurd (omega arith)
fresh_set (x ∷ ms) zero m lt = omega arith
fresh_set (x ∷ ms) (suc k) m lt = let rest = fresh_set ms k m (omega arith) in omega arith

pub mark_none : (n k : ℕ) → mark (replicate n New) k ≡ 0
mark_none zero k = refl
mark_none (suc n) zero = refl
mark_none (suc n) (suc k) = mark_none n k

pub fresh_all : (n : ℕ) → fresh (replicate n New) ≤ n
fresh_all zero = omega arith
fresh_all (suc n) = let rest = fresh_all n in omega arith

-- ---- gates that are left, each behind what it reads

pub data IsReady (R : ℕ → List ℕ) : List ℕ → Type 0 where
  none : IsReady R []
  more : (done : List ℕ) (k : ℕ) → IsReady R done → (Contains done k → ⊥) → ((j : ℕ) → Contains (R k) j → Contains done j) → IsReady R (done ++ k ∷ [])

pub ready_closed : (R : ℕ → List ℕ) (done : List ℕ) → IsReady R done → (k j : ℕ) → Contains done k → Contains (R k) j → Contains done j
ready_closed R done none k j here reads = absurd (contains_none k here)
ready_closed R done (more d x r new all) k j here reads = elim (Contains-push_cases d x k here) [
  | inl before ↦ Contains-append_left d (x ∷ []) j (ready_closed R d r k j before reads)
  | inr is ↦ Contains-append_left d (x ∷ []) j (all j (subst (λ (z : ℕ). Contains (R z) j) (sym is) reads))
]

pub flat_in : {X : Type 0} (P : X → List ℕ) (Q : ℕ → Type 0) (ks : List X) → ((k : X) → Contains ks k → (x : ℕ) → Contains (P k) x → Q x) → (x : ℕ) → Contains (flat_map P ks) x → Q x
flat_in P Q [] h x c = absurd (contains_none x c)
flat_in P Q (k ∷ ks) h x c = elim (Contains-append_cases (P k) (flat_map P ks) x c) [
  | inl here ↦ h k (contains_head k ks) x here
  | inr there ↦ flat_in P Q ks (λ i ci. h i (contains_behind k i ks ci)) x there
]

post_in : (R : ℕ → List ℕ) (done : List ℕ) → IsReady R done → (depth k x : ℕ) → Contains done k → Contains (post R depth k) x → Contains done x
post_in R done ready zero k x here c = absurd (contains_none x c)
post_in R done ready (suc depth) k x here c = elim (Contains-push_cases (flat_map (post R depth) (R k)) k x c) [
  | inl before ↦ flat_in (post R depth) (Contains done) (R k) (λ j cj y cy. post_in R done ready depth j y (ready_closed R done ready k j here cj) cy) x before
  | inr is ↦ subst (λ (z : ℕ). Contains done z) is here
]

way_in : (R : ℕ → List ℕ) (done : List ℕ) → IsReady R done → (k : ℕ) → ((j : ℕ) → Contains (R k) j → Contains done j) → (ks : List ℕ) (j : ℕ) → IsWay R k ks j → Contains done j
way_in R done ready k all [] j way = all j way
way_in R done ready k all (m ∷ ms) j way = way_in R done ready m (λ i ci. ready_closed R done ready m i (all m way.0) ci) ms j way.1

pub no_loop : (R : ℕ → List ℕ) (done : List ℕ) → IsReady R done → (k : ℕ) (ks : List ℕ) → Contains done k → IsWay R k ks k → ⊥
no_loop R done none k ks here way = absurd (contains_none k here)
no_loop R done (more d x r new all) k ks here way = elim (Contains-push_cases d x k here) [
  | inl before ↦ no_loop R d r k ks before way
  | inr is ↦ new (subst (λ (z : ℕ). Contains d z) (sym is) (way_in R d r k (λ j cj. all j (subst (λ (z : ℕ). Contains (R z) j) (sym is) cj)) ks k way))
]

pub needed_in : (R : ℕ → List ℕ) (roots done : List ℕ) → IsReady R done → ((j : ℕ) → Contains roots j → Contains done j) → (k : ℕ) → IsNeeded R roots k → Contains done k
needed_in R roots done ready all k (IsNeeded.root _ c) = all k c
needed_in R roots done ready all k (IsNeeded.read i _ need c) = ready_closed R done ready i k (needed_in R roots done ready all i need) c

-- ---- steps that are still to do

abbrev pub leaves : List Step → ℕ
leaves [] = 0
leaves (Visit k ∷ s) = leaves s
leaves (Leave k ∷ s) = leaves s + 1

-- what they list
abbrev pub still : (ℕ → List ℕ) → ℕ → List Step → List ℕ
still R n [] = []
still R n (Visit k ∷ s) = post R (n - leaves s) k ++ still R n s
still R n (Leave k ∷ s) = k ∷ still R n s

abbrev pub Inside : ℕ → List Step → Type 0
Inside n [] = Unit {0}
Inside n (Visit k ∷ s) = (k < n) × Inside n s
Inside n (Leave k ∷ s) = (k < n) × Inside n s

abbrev pub Apart : List Step → Type 0
Apart [] = Unit {0}
Apart (Visit k ∷ s) = Apart s
Apart (Leave k ∷ s) = (HasLeave k s → ⊥) × Apart s

-- when a gate is left, all that it reads is left, and at the end all roots are
abbrev pub Leads : (ℕ → List ℕ) → List ℕ → (ℕ → Type 0) → List Step → Type 0
Leads R roots P [] = (j : ℕ) → Contains roots j → P j
Leads R roots P (Visit k ∷ s) = Leads R roots (λ j. P j ⊎ (j ≡ k)) s
Leads R roots P (Leave k ∷ s) = ((j : ℕ) → Contains (R k) j → P j) × Leads R roots (λ j. P j ⊎ (j ≡ k)) s

either_more : (P Q : ℕ → Type 0) (k : ℕ) → ((j : ℕ) → P j → Q j) → (j : ℕ) → P j ⊎ (j ≡ k) → Q j ⊎ (j ≡ k)
either_more P Q k f j (inl p) = inl (f j p)
either_more P Q k f j (inr e) = inr e

leads_more : (R : ℕ → List ℕ) (roots : List ℕ) (P Q : ℕ → Type 0) (s : List Step) → ((j : ℕ) → P j → Q j) → Leads R roots P s → Leads R roots Q s
leads_more R roots P Q [] f h = λ j c. f j (h j c)
leads_more R roots P Q (Visit k ∷ s) f h = leads_more R roots (λ j. P j ⊎ (j ≡ k)) (λ j. Q j ⊎ (j ≡ k)) s (either_more P Q k f) h
leads_more R roots P Q (Leave k ∷ s) f h = (λ j c. f j (h.0 j c), leads_more R roots (λ j. P j ⊎ (j ≡ k)) (λ j. Q j ⊎ (j ≡ k)) s (either_more P Q k f) h.1)

-- ---- visits before other steps

leaves_visits : (js : List ℕ) (t : List Step) → leaves (map Visit js ++ t) ≡ leaves t
leaves_visits [] t = refl
leaves_visits (j ∷ js) t = leaves_visits js t

still_visits : (R : ℕ → List ℕ) (n : ℕ) (js : List ℕ) (t : List Step) → still R n (map Visit js ++ t) ≡ flat_map (post R (n - leaves t)) js ++ still R n t
still_visits R n [] t = refl
still_visits R n (j ∷ js) t =
    ap (λ (d : ℕ). post R (n - d) j ++ still R n (map Visit js ++ t)) (leaves_visits js t)
    ∙ ap (λ (xs : List ℕ). post R (n - leaves t) j ++ xs) (still_visits R n js t)
    ∙ sym (append_assoc (post R (n - leaves t) j) (flat_map (post R (n - leaves t)) js) (still R n t))

inside_visits : (n : ℕ) (js : List ℕ) (t : List Step) → ((j : ℕ) → Contains js j → j < n) → Inside n t → Inside n (map Visit js ++ t)
inside_visits n [] t h i = i
inside_visits n (j ∷ js) t h i = (h j (contains_head j js), inside_visits n js t (λ k c. h k (contains_behind j k js c)) i)

apart_visits : (js : List ℕ) (t : List Step) → Apart t → Apart (map Visit js ++ t)
apart_visits [] t a = a
apart_visits (j ∷ js) t a = apart_visits js t a

has_visits : (js : List ℕ) (t : List Step) (k : ℕ) → HasLeave k t → HasLeave k (map Visit js ++ t)
has_visits [] t k h = h
has_visits (j ∷ js) t k h = has_visits js t k h

visits_have : (js : List ℕ) (t : List Step) (k : ℕ) → HasLeave k (map Visit js ++ t) → HasLeave k t
visits_have [] t k h = h
visits_have (j ∷ js) t k h = visits_have js t k h

under_visits : (R : ℕ → List ℕ) (roots js : List ℕ) (t : List Step) (k : ℕ) → IsUnder R roots k t → IsUnder R roots k (map Visit js ++ t)
under_visits R roots [] t k h = h
under_visits R roots (j ∷ js) t k h = under_visits R roots js t k h

chain_visits : (R : ℕ → List ℕ) (roots js : List ℕ) (t : List Step) → ((j : ℕ) → Contains js j → IsUnder R roots j t) → IsChain R roots t → IsChain R roots (map Visit js ++ t)
chain_visits R roots [] t h c = c
chain_visits R roots (j ∷ js) t h c = (under_visits R roots js t j (h j (contains_head j js)), chain_visits R roots js t (λ k ck. h k (contains_behind j k js ck)) c)

leads_visits : (R : ℕ → List ℕ) (roots js : List ℕ) (P : ℕ → Type 0) (t : List Step) → Leads R roots (λ j. P j ⊎ Contains js j) t → Leads R roots P (map Visit js ++ t)
leads_visits R roots [] P t h = leads_more R roots (λ j. P j ⊎ Contains [] j) P t (λ j e. elim e [ inl p ↦ p | inr hold ↦ absurd (contains_none j hold) ]) h
leads_visits R roots (i ∷ js) P t h =
    leads_visits R roots js (λ j. P j ⊎ (j ≡ i)) t
    (leads_more R roots (λ j. P j ⊎ Contains (i ∷ js) j) (λ j. (P j ⊎ (j ≡ i)) ⊎ Contains js j) t
    (λ j e. elim e [ inl p ↦ inl (inl p) | inr c ↦ elim (contains_cases i j js c) [ inl is ↦ inl (inr is) | inr there ↦ inr there ] ]) h)

pub length_visits : (js : List ℕ) (t : List Step) → length (map Visit js ++ t) ≡ length js + length t
length_visits [] t = omega arith
length_visits (j ∷ js) t = let rest = length_visits js t in omega arith

-- ---- the walk

-- the marks, the steps that are still to do, the next one first, and the gates that are left
pub record IsWalk (R : ℕ → List ℕ) (n : ℕ) (roots whole : List ℕ) (ms : List Mark) (steps : List Step) (done : List ℕ) : Type 0 where
  pub count : length ms ≡ n
  pub inside : Inside n steps
  pub chain : IsChain R roots steps
  pub leads : Leads R roots (Contains done) steps
  pub apart : Apart steps
  pub left : (k : ℕ) → mark ms k ≡ 2 → Contains done k
  pub marked : (k : ℕ) → Contains done k → mark ms k ≡ 2
  pub open_is : (k : ℕ) → HasLeave k steps → mark ms k ≡ 1
  pub open_has : (k : ℕ) → mark ms k ≡ 1 → HasLeave k steps
  pub room : leaves steps + fresh ms ≤ n
  pub ready : IsReady R done
  pub once : firsts done ≡ done
  pub all : firsts (done ++ still R n steps) ≡ whole

pub begun : (R : ℕ → List ℕ) (n : ℕ) (roots : List ℕ) → ((j : ℕ) → Contains roots j → j < n) → IsWalk R n roots (firsts (flat_map (post R n) roots)) (replicate n New) (map Visit roots) []
begun R n roots inside = subst (λ (s : List Step). IsWalk R n roots (firsts (flat_map (post R n) roots)) (replicate n New) s []) (append-nil (map Visit roots)) (record {
  count = length-replicate n New;
  inside = inside_visits n roots [] inside tt;
  chain = chain_visits R roots roots [] (λ j c. c) tt;
  leads = leads_visits R roots roots (Contains []) [] (λ j c. inr c);
  apart = apart_visits roots [] tt;
  left = λ k is. let no = mark_none n k in absurd (omega (arith, is, no));
  marked = λ k c. absurd (contains_none k c);
  open_is = λ k h. absurd (visits_have roots [] k h);
  open_has = λ k is. let no = mark_none n k in absurd (omega (arith, is, no));
  room = let some = fresh_all n in let free = leaves_visits roots [] in omega (arith, some, free);
  ready = none;
  once = refl;
  all =
      let zero_off : n - 0 ≡ n = omega arith in
      ap firsts (still_visits R n roots [] ∙ append-nil (flat_map (post R (n - 0)) roots) ∙ ap (λ (d : ℕ). flat_map (post R d) roots) zero_off);
})

module _ (R : ℕ → List ℕ) (n : ℕ) (roots whole : List ℕ) (ms : List Mark) (k : ℕ) (s : List Step) (done : List ℕ) where
  -- a gate is left
  pub leave_step : IsWalk R n roots whole ms (Leave k ∷ s) done → IsWalk R n roots whole (set ms k Done) s (done ++ k ∷ [])
  leave_step w =
      let lt : k < length ms = omega (arith, w.inside.0, w.count) in
      let was : mark ms k ≡ 1 = w.open_is k (inl refl) in
      let here : mark (set ms k Done) k ≡ 2 = mark_here ms k Done lt in
      let new : Contains done k → ⊥ = λ h. let is = w.marked k h in omega (arith, is, was) in
      record {
        count = length-set ms k Done ∙ w.count;
        inside = w.inside.1;
        chain = w.chain.1;
        leads = leads_more R roots (λ j. Contains done j ⊎ (j ≡ k)) (Contains (done ++ k ∷ [])) s (λ j e. elim e [
          | inl c ↦ Contains-append_left done (k ∷ []) j c
          | inr is ↦ subst (λ (z : ℕ). Contains (done ++ k ∷ []) z) (sym is) (Contains-push done k)
        ]) w.leads.1;
        apart = w.apart.1;
        left = λ j is. elim (cases_eq j k) [
          | inl e ↦ subst (λ (z : ℕ). Contains (done ++ k ∷ []) z) (sym e) (Contains-push done k)
          | inr ne ↦ Contains-append_left done (k ∷ []) j (w.left j (sym (mark_other ms k j Done ne) ∙ is))
        ];
        marked = λ j c. elim (Contains-push_cases done k j c) [
          | inl before ↦ mark_other ms k j Done (λ e. new (subst (λ (z : ℕ). Contains done z) e before)) ∙ w.marked j before
          | inr is ↦ subst (λ (z : ℕ). mark (set ms k Done) z ≡ 2) is here
        ];
        open_is = λ j h. mark_other ms k j Done (λ e. w.apart.0 (subst (λ (z : ℕ). HasLeave z s) e h)) ∙ w.open_is j (inr h);
        open_has = λ j is. elim (cases_eq j k) [
          | inl e ↦ let at : mark (set ms k Done) k ≡ 1 = subst (λ (z : ℕ). mark (set ms k Done) z ≡ 1) e is in absurd (omega (arith, at, here))
          | inr ne ↦ elim (w.open_has j (sym (mark_other ms k j Done ne) ∙ is)) [ inl e ↦ absurd (ne e) | inr h ↦ h ]
        ];
        room = let set_one = fresh_set ms k Done lt in omega (arith, set_one, was, w.room);
        ready = more done k w.ready new w.leads.0;
        once = firsts_push done k new ∙ ap (λ (d : List ℕ). d ++ k ∷ []) w.once;
        all = ap firsts (append_assoc done (k ∷ []) (still R n s)) ∙ w.all;
      }

  -- a gate was left before
  pub skip_step : mark ms k ≡ 2 → IsWalk R n roots whole ms (Visit k ∷ s) done → IsWalk R n roots whole ms s done
  skip_step is w =
      let here : Contains done k = w.left k is in
      record {
        count = w.count;
        inside = w.inside.1;
        chain = w.chain.1;
        leads = leads_more R roots (λ j. Contains done j ⊎ (j ≡ k)) (Contains done) s (λ j e. elim e [ inl c ↦ c | inr same ↦ subst (λ (z : ℕ). Contains done z) (sym same) here ]) w.leads;
        apart = w.apart;
        left = w.left;
        marked = w.marked;
        open_is = w.open_is;
        open_has = w.open_has;
        room = w.room;
        ready = w.ready;
        once = w.once;
        all = sym (all_already done (post R (n - leaves s) k) (still R n s) (λ x c. post_in R done w.ready (n - leaves s) k x here c)) ∙ w.all;
      }

  -- a gate is entered
  pub enter_step : mark ms k ≡ 0 → ((j : ℕ) → Contains (R k) j → j < n) → IsWalk R n roots whole ms (Visit k ∷ s) done → IsWalk R n roots whole (set ms k Open) (map Visit (R k) ++ (Leave k ∷ s)) done
  enter_step was within w =
      let lt : k < length ms = omega (arith, w.inside.0, w.count) in
      let here : mark (set ms k Open) k ≡ 1 = mark_here ms k Open lt in
      let t : List Step = Leave k ∷ s in
      let set_one = fresh_set ms k Open lt in
      let new : HasLeave k s → ⊥ = λ h. let is = w.open_is k h in omega (arith, is, was) in
      let deep : n - leaves s ≡ suc (n - (leaves s + 1)) = omega (arith, set_one, was, w.room) in
      let unfolded : post R (n - leaves s) k ++ still R n s ≡ flat_map (post R (n - (leaves s + 1))) (R k) ++ (k ∷ still R n s)
      = ap (λ (d : ℕ). post R d k ++ still R n s) deep ∙ append_assoc (flat_map (post R (n - (leaves s + 1))) (R k)) (k ∷ []) (still R n s) in
      record {
        count = length-set ms k Open ∙ w.count;
        inside = inside_visits n (R k) t within w.inside;
        chain = chain_visits R roots (R k) t (λ j c. c) w.chain;
        leads = leads_visits R roots (R k) (Contains done) t (
          λ j c. inr c,
          leads_more R roots (λ j. Contains done j ⊎ (j ≡ k)) (λ j. (Contains done j ⊎ Contains (R k) j) ⊎ (j ≡ k)) s (λ j e. elim e [ inl c ↦ inl (inl c) | inr is ↦ inr is ]) w.leads,
        );
        apart = apart_visits (R k) t (new, w.apart);
        left = λ j is. elim (cases_eq j k) [
          | inl e ↦ let at : mark (set ms k Open) k ≡ 2 = subst (λ (z : ℕ). mark (set ms k Open) z ≡ 2) e is in absurd (omega (arith, at, here))
          | inr ne ↦ w.left j (sym (mark_other ms k j Open ne) ∙ is)
        ];
        marked = λ j c. mark_other ms k j Open (λ e. let at : mark ms k ≡ 2 = subst (λ (z : ℕ). mark ms z ≡ 2) e (w.marked j c) in omega (arith, at, was)) ∙ w.marked j c;
        open_is = λ j h. elim (visits_have (R k) t j h) [
          | inl e ↦ subst (λ (z : ℕ). mark (set ms k Open) z ≡ 1) (sym e) here
          | inr below ↦ mark_other ms k j Open (λ e. new (subst (λ (z : ℕ). HasLeave z s) e below)) ∙ w.open_is j below
        ];
        open_has = λ j is. has_visits (R k) t j (elim (cases_eq j k) [
          | inl e ↦ inl e
          | inr ne ↦ inr (w.open_has j (sym (mark_other ms k j Open ne) ∙ is))
        ]);
        room = let free = leaves_visits (R k) t in omega (arith, free, set_one, was, w.room);
        ready = w.ready;
        once = w.once;
        all = ap (λ (xs : List ℕ). firsts (done ++ xs)) (still_visits R n (R k) t ∙ sym unfolded) ∙ w.all;
      }

-- at the end
pub ended : (R : ℕ → List ℕ) (n : ℕ) (roots whole : List ℕ) (ms : List Mark) (done : List ℕ) → IsWalk R n roots whole ms [] done → done ≡ whole
ended R n roots whole ms done w = sym w.once ∙ sym (ap firsts (append-nil done)) ∙ w.all

pub ended_free : (R : ℕ → List ℕ) (n : ℕ) (roots whole : List ℕ) (ms : List Mark) (done : List ℕ) → IsWalk R n roots whole ms [] done → (ks : List ℕ) → IsLoop R ks → All (IsNeeded R roots) ks → ⊥
ended_free R n roots whole ms done w [] loop needed = loop
ended_free R n roots whole ms done w (k ∷ ks) loop needed =
    no_loop R done w.ready k ks (needed_in R roots done w.ready w.leads k (All-contains (IsNeeded R roots) (k ∷ ks) k needed (contains_head k ks))) loop

-- ---- what the order promises

in_order_push : (R : ℕ → List ℕ) (before ks : List ℕ) (k : ℕ) → IsInOrder R before ks → (Contains (before ++ ks) k → ⊥) → ((j : ℕ) → Contains (R k) j → Contains (before ++ ks) j) → IsInOrder R before (ks ++ k ∷ [])
in_order_push R before [] k is new all =
    (λ c. new (subst (λ (d : List ℕ). Contains d k) (sym (append-nil before)) c), λ j c. subst (λ (d : List ℕ). Contains d j) (append-nil before) (all j c), tt)
in_order_push R before (m ∷ ms) k is new all =
    (is.0, is.1, in_order_push R (before ++ m ∷ []) ms k is.2 (λ c. new (subst (λ (d : List ℕ). Contains d k) (append_assoc before (m ∷ []) ms) c)) (λ j c. subst (λ (d : List ℕ). Contains d j) (sym (append_assoc before (m ∷ []) ms)) (all j c)))

ready_in_order : (R : ℕ → List ℕ) (done : List ℕ) → IsReady R done → IsInOrder R [] done
ready_in_order R done none = tt
ready_in_order R done (more d k ready new all) = in_order_push R [] d k (ready_in_order R d ready) new all

-- at the end each gate stands behind what it reads
pub ended_in_order : (R : ℕ → List ℕ) (n : ℕ) (roots whole : List ℕ) (ms : List Mark) (done : List ℕ) → IsWalk R n roots whole ms [] done → IsInOrder R [] done
ended_in_order R n roots whole ms done w = ready_in_order R done w.ready

marked_inside : (ms : List Mark) (k : ℕ) → mark ms k ≡ 2 → k < length ms
marked_inside [] k is = absurd (omega (arith, is))
marked_inside (m ∷ ms) zero is = omega arith
marked_inside (m ∷ ms) (suc k) is = let rest = marked_inside ms k is in omega (arith, rest)

-- they are among the gates
pub ended_inside : (R : ℕ → List ℕ) (n : ℕ) (roots whole : List ℕ) (ms : List Mark) (done : List ℕ) → IsWalk R n roots whole ms [] done → All (λ k. k < n) done
ended_inside R n roots whole ms done w = All-from_contains (λ k. k < n) done (λ k c. let lt = marked_inside ms k (w.marked k c) in omega (arith, lt, w.count))

-- ---- the loop

pub chain_needed : (R : ℕ → List ℕ) (roots : List ℕ) (s : List Step) → IsChain R roots s → (k : ℕ) → IsUnder R roots k s → IsNeeded R roots k
chain_needed R roots [] chain k under = IsNeeded.root k under
chain_needed R roots (Visit j ∷ s) chain k under = chain_needed R roots s chain.1 k under
chain_needed R roots (Leave j ∷ s) chain k under = IsNeeded.read j k (chain_needed R roots s chain.1 j chain.0) under

-- the gates that were found, the last one first, lead to the start
abbrev pub Found : (ℕ → List ℕ) → List ℕ → ℕ → List ℕ → List Step → Type 0
Found R roots start [] s = IsUnder R roots start s
Found R roots start (k ∷ ks) s = IsWay R k ks start × IsUnder R roots k s

pub found_visit : (R : ℕ → List ℕ) (roots : List ℕ) (start : ℕ) (ks : List ℕ) (j : ℕ) (s : List Step) → Found R roots start ks (Visit j ∷ s) → Found R roots start ks s
found_visit R roots start [] j s h = h
found_visit R roots start (k ∷ ks) j s h = h

pub found_leave : (R : ℕ → List ℕ) (roots : List ℕ) (start : ℕ) (ks : List ℕ) (j : ℕ) (s : List Step) → IsUnder R roots j s → Found R roots start ks (Leave j ∷ s) → Found R roots start (j ∷ ks) s
found_leave R roots start [] j s under h = (h, under)
found_leave R roots start (k ∷ ks) j s under h = ((h.1, h.0), under)

-- ---- lists of steps, the last one first

pub taken : (old rest : List Step) (x y : Step) → old ≡ rest ++ x ∷ [] → x ≡ y → reverse old ≡ y ∷ reverse rest
taken old rest x y is same = ap reverse is ∙ reverse-append rest (x ∷ []) ∙ ap (λ (z : Step). z ∷ reverse rest) same

pub put_before : (old mid new : List Step) (k : ℕ) (v : List Step) → mid ≡ old ++ Leave k ∷ [] → new ≡ mid ++ reverse v → reverse new ≡ v ++ (Leave k ∷ reverse old)
put_before old mid new k v one two =
    ap reverse two ∙ reverse-append mid (reverse v) ∙ ap (λ (z : List Step). z ++ reverse mid) (reverse-reverse v) ∙ ap (λ (z : List Step). v ++ z) (ap reverse one ∙ reverse-append old (Leave k ∷ []))

pub pushed : (old new : List ℕ) (k : ℕ) → new ≡ old ++ k ∷ [] → reverse new ≡ k ∷ reverse old
pushed old new k is = ap reverse is ∙ reverse-append old (k ∷ [])

pub walk_same : (R : ℕ → List ℕ) (n : ℕ) (roots whole : List ℕ) (ms ms' : List Mark) (s s' : List Step) (d d' : List ℕ) → ms' ≡ ms → s' ≡ s → d' ≡ d → IsWalk R n roots whole ms s d → IsWalk R n roots whole ms' s' d'
walk_same R n roots whole ms ms' s s' d d' one two three w =
    subst (λ (z : List Mark). IsWalk R n roots whole z s' d') (sym one) (subst (λ (z : List Step). IsWalk R n roots whole ms z d') (sym two) (subst (IsWalk R n roots whole ms s) (sym three) w))

pub mark_read : (ms : List Mark) (k : ℕ) (x y : Mark) → k < length ms → x ≡ get_or ms k x → x ≡ y → mark ms k ≡ number y
mark_read ms k x y lt read is = ap number (sym (get_or_read ms k x lt read New) ∙ is)

-- ---- each step leaves less to do

pub less_leave : (ms new : List Mark) (k : ℕ) (old rest steps : List Step) (x : Step) → new ≡ set ms k Done → k < length ms → mark ms k ≡ 1 → old ≡ rest ++ x ∷ [] → steps ≡ rest → 5 * fresh new + length steps < 5 * fresh ms + length old
less_leave ms new k old rest steps x is lt was all same =
    let one : fresh new ≡ fresh (set ms k Done) = ap fresh is in
    let two = fresh_set ms k Done lt in
    let three : length old ≡ length rest + 1 = ap length all ∙ length_push rest x in
    let four : length steps ≡ length rest = ap length same in
    omega (arith, one, two, three, four, was)

pub less_enter : (ms new : List Mark) (k : ℕ) (js : List ℕ) (old rest steps : List Step) (x : Step) → new ≡ set ms k Open → k < length ms → mark ms k ≡ 0 → length js ≤ 3 → old ≡ rest ++ x ∷ [] → reverse steps ≡ map Visit js ++ (Leave k ∷ reverse rest)
    → 5 * fresh new + length steps < 5 * fresh ms + length old
less_enter ms new k js old rest steps x is lt was few all same =
    let one : fresh new ≡ fresh (set ms k Open) = ap fresh is in
    let two = fresh_set ms k Open lt in
    let three : length old ≡ length rest + 1 = ap length all ∙ length_push rest x in
    let four : length steps ≡ length (map Visit js ++ (Leave k ∷ reverse rest)) = sym (length-reverse steps) ∙ ap length same in
    let five = length_visits js (Leave k ∷ reverse rest) in
    let six = length-reverse rest in
    omega (arith, one, two, three, four, five, six, was, few)
