-- Serves specs/Answers.antt: one line more, and what each answer stands on.
use Rattle.std.proofs.Common.{◌≡◌, ◌≢◌, ℕ, zero, suc, ◌+◌, ◌-◌, ◌<◌, ◌≤◌, inl, inr, Bool, true, false, nat_lt, List, [], ◌∷◌, ◌++◌, length, map, drop, get_or, refl, sym, ap, ◌∙◌, subst, Option, Some, None, arith, ℤ, append_assoc}
use Rattle.std.specs.List.{AllByRecursion}
use Rattle.std.proofs.lemmas.Bool.Decides.{nat_tests}
use Rattle.std.proofs.lemmas.List.{map-append, append-nil, get_or-drop}
use Rattle.sat_chain.specs.Clause.{Problem, variable, ascends_above, AreClauses, Meets, MeetsAll}
use Rattle.sat_chain.specs.declared.chain.ChainLine.{ChainLine}
use Rattle.sat_chain.proofs.StepLemmas.{above}
use Rattle.sat_core.specs.Counts.{Counts, with_lines, AllCount}
use Rattle.sat_core.specs.Answers.{IsWithin, value_in, IsModel}
use Rattle.sat_core.specs.Path.{sign_at, some_false}
use Rattle.sat_core.specs.Search.{IsSearch}
use Rattle.sat_core.proofs.FalseLemmas.{none_false_met}

-- a line more
pub count_push : (vars : ℕ) (cs : List (List ℤ)) (ls : List ChainLine) (l : ChainLine) → AllCount vars cs ls → Counts vars (with_lines cs ls) l → AllCount vars cs (ls ++ l ∷ [])
count_push vars cs [] l h k = (subst (λ ds. Counts vars ds l) (append-nil cs) k, tt)
count_push vars cs (x ∷ ls) l h k = (h.0, count_push vars (cs ++ x.lits.items ∷ []) ls l h.1 (subst (λ ds. Counts vars ds l) (sym (append_assoc cs (x.lits.items ∷ []) (map (λ (y : ChainLine). y.lits.items) ls))) k))

pub with_push : (cs : List (List ℤ)) (ls : List ChainLine) (l : ChainLine) → with_lines cs (ls ++ l ∷ []) ≡ with_lines cs ls ++ l.lits.items ∷ []
with_push cs ls l =
    ap (λ ds. cs ++ ds) (map-append (λ (y : ChainLine). y.lits.items) ls (l ∷ [])) ∙ sym (append_assoc cs (map (λ (y : ChainLine). y.lits.items) ls) (l.lits.items ∷ []))

pub within_less : (budget : Option ℕ) (n : ℕ) → IsWithin budget n → IsWithin budget 0
within_less None n h = tt
within_less (Some b) n h = omega arith

pub within_start : (budget : Option ℕ) → budget ≢ Some 0 → IsWithin budget 0
within_start None h = tt
within_start (Some zero) h = absurd (h refl)
within_start (Some (suc b)) h = omega arith

pub within_more : (budget : Option ℕ) (n m : ℕ) → IsWithin budget n → m ≡ n + 1 → budget ≢ Some m → IsWithin budget m
within_more None n m h is ne = tt
within_more (Some b) n m h is ne = elim (nat_lt m b) as (λ t. nat_lt m b ≡ t → m < b) [
  | true ↦ λ e. grind (arith, nat_tests)
  | false ↦ λ e. absurd (ne (ap (λ (k : ℕ). Some k) (let le : b ≤ m = grind (arith, nat_tests) in omega arith)))
] refl

-- a model by other numbers of the variables
meets_same : (a b : ℕ → Bool) (v : ℕ) (c : List ℤ) → ((x : ℕ) → 0 < x → a x ≡ b x) → ascends_above v c ≡ true → Meets a c → Meets b c
meets_same a b v [] same asc m = m
meets_same a b v (l ∷ ls) same asc (inl is) = let t = above v l ls asc in inl (sym (same (variable l) (omega (arith, t.first))) ∙ is)
meets_same a b v (l ∷ ls) same asc (inr m) = let t = above v l ls asc in inr (meets_same a b (variable l) ls same t.rest m)

all_meet_same : (a b : ℕ → Bool) (v : ℕ) (cs : List (List ℤ)) → ((x : ℕ) → 0 < x → a x ≡ b x) → AreClauses v cs → MeetsAll a cs → MeetsAll b cs
all_meet_same a b v [] same all m = tt
all_meet_same a b v (c ∷ cs) same all m = (meets_same a b 0 c same all.0.0 m.0, all_meet_same a b v cs same all.1 m.1)

all_front : {X : Type 0} (P : X → Type 0) (xs ys : List X) → AllByRecursion P (xs ++ ys) → AllByRecursion P xs
all_front P [] ys h = tt
all_front P (x ∷ xs) ys h = (h.0, all_front P xs ys h.1)

value_same : (signs values : List Bool) → values ≡ drop 1 signs → (x : ℕ) → 0 < x → sign_at signs x ≡ value_in values x
value_same signs values is x some =
    let e : 1 + (x - 1) ≡ x = omega arith in
    sym (ap (λ (vs : List Bool). get_or vs (x - 1) false) is ∙ get_or-drop 1 signs (x - 1) false ∙ ap (λ k. get_or signs k false) e)

length_values : (signs values : List Bool) (vars : ℕ) → length signs ≡ vars + 1 → values ≡ drop 1 signs → length values ≡ vars
length_values [] values vars len is = absurd (omega arith)
length_values (s ∷ signs) values vars len is = let d : length values ≡ length signs = ap length is in omega arith

-- the signs of all variables, where no clause is false
pub model : (p store : Problem) (budget : Option ℕ) (lines : List ChainLine) (rank : ℕ) (signs values : List Bool) (top : ℕ) → IsSearch p budget store lines rank → AreClauses store.vars store.clauses → length signs ≡ store.vars + 1 → top ≡ store.vars
    → some_false (sign_at signs) top store.clauses ≡ false → values ≡ drop 1 signs → IsModel p budget values
model p store budget lines rank signs values top s all len is clear v =
    let met : MeetsAll (sign_at signs) store.clauses = none_false_met (sign_at signs) store.vars store.clauses all (ap (λ n. some_false (sign_at signs) n store.clauses) (sym is) ∙ clear) in
    let met' : MeetsAll (value_in values) store.clauses = all_meet_same (sign_at signs) (value_in values) store.vars store.clauses (value_same signs values v) all met in
    record {
      within = within_less budget (length lines) s.within;
      len = length_values signs values store.vars len v ∙ s.vars;
      meets = all_front (Meets (value_in values)) p.clauses (map (λ (y : ChainLine). y.lits.items) lines) (subst (λ cs. MeetsAll (value_in values) cs) s.clauses met');
    }
