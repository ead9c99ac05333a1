-- Serves specs/Resolvent.antt: merging a clause is resolution with it, where exactly one variable cancels.
use Rattle.std.proofs.Common.{◌≡◌, ℕ, ◌+◌, ◌<◌, ◌≤◌, Bool, true, false, ◌&&◌, nat_eq, nat_lt, cond, List, [], ◌∷◌, length, refl, sym, ap, ◌∙◌, Option, Some, None, arith, ℤ, eq-eqb, ◌↔◌, get_or, drop, add-one, drop-cons}
use Rattle.std.proofs.lemmas.Bool.Decides.{nat_tests}
use mathlib.Core.Path.{fun_ext}
use Rattle.sat_chain.specs.Clause.{variable, is_positive, ascends_above}
use Rattle.sat_chain.specs.Resolvent.{Union, sign_in, is_opposite, opposites, either, resolved_at, resolvent}
use Rattle.sat_chain.proofs.MarkLemmas.{AscendFrom}
use Rattle.sat_chain.specs.Marks.{set_at, nothing, joined, put, merged, turned}

-- the union is as it was at the variables up to v
Agrees : (u w : Union) → ℕ → Type 0
Agrees u w v = (x : ℕ) → v < x → u x ≡ w x

-- ascending literals from above v
pub record Above (v : ℕ) (l : ℤ) (ls : List ℤ) : Type 0 where
  pub first : v < variable l
  pub rest : ascends_above (variable l) ls ≡ true

pub above : (v : ℕ) (l : ℤ) (ls : List ℤ) → ascends_above v (l ∷ ls) ≡ true → Above v l ls
above v l ls h = elim (nat_lt v (variable l)) as (λ b. nat_lt v (variable l) ≡ b → (b && ascends_above (variable l) ls) ≡ true → Above v l ls) [
  | true ↦ λ e k. record { first = grind (arith, nat_tests); rest = k }
  | false ↦ λ e k. cc
] refl h

-- a variable up to v doesn't stand in literals above v
pub absent : (v : ℕ) (c : List ℤ) (x : ℕ) → ascends_above v c ≡ true → x ≤ v → sign_in c x ≡ None
absent v [] x h le = refl
absent v (l ∷ ls) x h le =
    let a = above v l ls h in
    let f = a.first in
    let ne : nat_eq (variable l) x ≡ false = grind (arith, nat_tests) in
    rw ne (absent (variable l) ls x a.rest (omega arith))

-- a sign more, or none
abbrev total : Option Bool → Option Bool → Option Bool
total s None = s
total s (Some b) = joined s b

-- the signs are opposite
abbrev pub opposite_at : Option Bool → Option Bool → Bool
opposite_at s None = false
opposite_at s (Some b) = is_opposite s b

merged_head : (u : Union) (l : ℤ) (ls : List ℤ) (x : ℕ) (b : Bool) → nat_eq (variable l) x ≡ b → (variable l ≡ x → sign_in ls x ≡ None)
    → total (put u l x) (sign_in ls x) ≡ total (u x) (sign_in (l ∷ ls) x)
merged_head u l ls x true e none =
    let same : variable l ≡ x = grind (arith, nat_tests) in
    let same' : nat_eq x (variable l) ≡ true = eq-eqb x (variable l) (sym same) in
    rw (same', e, none same, same) refl
merged_head u l ls x false e none =
    let ne : nat_eq x (variable l) ≡ false = grind (arith, nat_tests) in
    rw (ne, e) refl

-- what merging leaves at a variable
pub merged_at : (v : ℕ) (u : Union) (c : List ℤ) (x : ℕ) → ascends_above v c ≡ true → merged u c x ≡ total (u x) (sign_in c x)
unfolding merged
merged_at v u [] x h = refl
merged_at v u (l ∷ ls) x h =
    let a = above v l ls h in
    merged_at (variable l) (put u l) ls x a.rest ∙ merged_head u l ls x (nat_eq (variable l) x) refl (λ same. absent (variable l) ls x a.rest (omega arith))

opposites_same : (v : ℕ) (u w : Union) (c : List ℤ) → ascends_above v c ≡ true → Agrees u w v → opposites u c ≡ opposites w c
unfolding Agrees
opposites_same v u w [] h same = refl
opposites_same v u w (l ∷ ls) h same =
    let a = above v l ls h in
    let f = a.first in
    let rest : opposites u ls ≡ opposites w ls = opposites_same (variable l) u w ls a.rest (λ x lt. same x (omega arith)) in
    rw (same (variable l) f, rest) refl

put_agrees : (u : Union) (l : ℤ) → Agrees (put u l) u (variable l)
unfolding Agrees
put_agrees u l x lt = let ne : nat_eq x (variable l) ≡ false = grind (arith, nat_tests) in rw ne refl

turned_cond : (b : Bool) (v : ℕ) (vs : List ℕ) → cond b 1 0 + length vs ≡ length (cond b (v ∷ vs) vs)
turned_cond true v vs = omega arith
turned_cond false v vs = omega arith

-- as many variables cancel as are opposite
pub turned_is : (v : ℕ) (u : Union) (c : List ℤ) → ascends_above v c ≡ true → turned u c ≡ length (opposites u c)
unfolding turned
turned_is v u [] h = refl
turned_is v u (l ∷ ls) h =
    let a = above v l ls h in
    let rest : turned (put u l) ls ≡ length (opposites u ls) = turned_is (variable l) (put u l) ls a.rest ∙ ap length (opposites_same (variable l) (put u l) u ls a.rest (put_agrees u l)) in
    rw rest (turned_cond (is_opposite (u (variable l)) (is_positive l)) (variable l) (opposites u ls))

-- the number stands in the list
abbrev pub among : ℕ → List ℕ → Bool
among x [] = false
among x (y ∷ ys) = cond (nat_eq y x) true (among x ys)

among_head : (u : Union) (l : ℤ) (ls : List ℤ) (x : ℕ) → (variable l ≡ x → sign_in ls x ≡ None) → among x (opposites u ls) ≡ opposite_at (u x) (sign_in ls x)
    → (b : Bool) → nat_eq (variable l) x ≡ b → (d : Bool) → is_opposite (u (variable l)) (is_positive l) ≡ d
    → among x (cond d (variable l ∷ opposites u ls) (opposites u ls)) ≡ opposite_at (u x) (cond b (Some (is_positive l)) (sign_in ls x))
among_head u l ls x none rest true e true o =
    let same : variable l ≡ x = grind (arith, nat_tests) in
    rw e (sym o ∙ ap (λ y. is_opposite (u y) (is_positive l)) same)
among_head u l ls x none rest true e false o =
    let same : variable l ≡ x = grind (arith, nat_tests) in
    rest ∙ ap (opposite_at (u x)) (none same) ∙ sym o ∙ ap (λ y. is_opposite (u y) (is_positive l)) same
among_head u l ls x none rest false e true o = rw e rest
among_head u l ls x none rest false e false o = rest

-- the listed variables are those of opposite sign
pub among_opposites : (v : ℕ) (u : Union) (c : List ℤ) (x : ℕ) → ascends_above v c ≡ true → among x (opposites u c) ≡ opposite_at (u x) (sign_in c x)
among_opposites v u [] x h = refl
among_opposites v u (l ∷ ls) x h =
    let a = above v l ls h in
    among_head u l ls x (λ same. absent (variable l) ls x a.rest (omega arith)) (among_opposites (variable l) u ls x a.rest)
    (nat_eq (variable l) x) refl (is_opposite (u (variable l)) (is_positive l)) refl

total_opposite : (s t : Option Bool) → opposite_at s t ≡ true → total s t ≡ None
total_opposite s None h = cc
total_opposite None (Some b) h = cc
total_opposite (Some a) (Some b) h = rw h refl

pub total_either : (s t : Option Bool) → opposite_at s t ≡ false → total s t ≡ either s t
total_either None None h = refl
total_either (Some a) None h = refl
total_either None (Some b) h = refl
total_either (Some a) (Some b) h = rw h refl

resolved_here : (u : Union) (c : List ℤ) (p x : ℕ) → among x (p ∷ []) ≡ opposite_at (u x) (sign_in c x) → (b : Bool) → nat_eq x p ≡ b
    → total (u x) (sign_in c x) ≡ cond b None (either (u x) (sign_in c x))
resolved_here u c p x is true e =
    let same : nat_eq p x ≡ true = grind (arith, nat_tests) in
    total_opposite (u x) (sign_in c x) (sym is ∙ rw same refl)
resolved_here u c p x is false e =
    let ne : nat_eq p x ≡ false = grind (arith, nat_tests) in
    total_either (u x) (sign_in c x) (sym is ∙ rw ne refl)

resolvent_cases : (u : Union) (c : List ℤ) → ascends_above 0 c ≡ true → (ps : List ℕ) → opposites u c ≡ ps → resolved_at u c ps ≡ cond (nat_eq (length ps) 1) (Some (merged u c)) None
resolvent_cases u c h [] e = refl
resolvent_cases u c h (p ∷ []) e =
    ap (λ (w : Union). Some w) (fun_ext (λ x. sym (merged_at 0 u c x h ∙ resolved_here u c p x (ap (among x) (sym e) ∙ among_opposites 0 u c x h) (nat_eq x p) refl)))
resolvent_cases u c h (p ∷ q ∷ ps) e = let ne : nat_eq (length ps + 1 + 1) 1 ≡ false = grind (arith, nat_tests) in let ne' : nat_eq (length (p ∷ q ∷ ps)) 1 ≡ false = grind (arith, nat_tests) in rw ne' refl

total_none : (t : Option Bool) → total None t ≡ t
total_none None = refl
total_none (Some b) = refl

-- the resolvent is what merging leaves, where exactly one variable cancels
pub resolvent_is : (u : Union) (c : List ℤ) → ascends_above 0 c ≡ true → resolvent u c ≡ cond (nat_eq (turned u c) 1) (Some (merged u c)) None
resolvent_is u c h = rw (turned_is 0 u c h) (resolvent_cases u c h (opposites u c) refl)

-- merged into nothing a clause is itself
pub merged_alone : (c : List ℤ) → ascends_above 0 c ≡ true → merged nothing c ≡ sign_in c
merged_alone c h = fun_ext (λ x. merged_at 0 nothing c x h ∙ total_none (sign_in c x))

-- one variable cancelled
pub step_some : (u w : Union) (c d : List ℤ) (n : ℕ) → c ≡ d → ascends_above 0 d ≡ true → w ≡ merged u c → n ≡ turned u c → n ≡ 1 → resolvent u d ≡ Some w
step_some u w c d n same h merge turn one =
    let here : turned u d ≡ 1 = sym (ap (turned u) same) ∙ sym turn ∙ one in
    let now : merged u d ≡ w = sym (ap (merged u) same) ∙ sym merge in
    resolvent_is u d h ∙ rw (here, now) refl

-- none did, or several
pub step_none : (u : Union) (c d : List ℤ) (n : ℕ) → c ≡ d → ascends_above 0 d ≡ true → n ≡ turned u c → (n ≡ 1 → ⊥) → resolvent u d ≡ None
step_none u c d n same h turn other =
    let here : turned u d ≡ n = sym (ap (turned u) same) ∙ sym turn in
    let ne : nat_eq n 1 ≡ false = grind (arith, nat_tests) in
    resolvent_is u d h ∙ rw (here, ne) refl

-- the union is these literals
abbrev pub Is : Union → List ℤ → Type 0
Is u c = (x : ℕ) → u x ≡ sign_in c x

out_at : (u : Union) (l : ℤ) (ls : List ℤ) → u (variable l) ≡ Some (is_positive l) → sign_in ls (variable l) ≡ None → (x : ℕ) (b : Bool) → nat_eq (variable l) x ≡ b
    → (set_at u (variable l) None x ≡ sign_in ls x → u x ≡ sign_in (l ∷ ls) x) × (u x ≡ sign_in (l ∷ ls) x → set_at u (variable l) None x ≡ sign_in ls x)
out_at u l ls here none x true e =
    let same : variable l ≡ x = grind (arith, nat_tests) in
    let same' : nat_eq x (variable l) ≡ true = eq-eqb x (variable l) (sym same) in
    (λ h. rw e (sym (ap u same) ∙ here), λ h. rw same' (sym (sym (ap (sign_in ls) same) ∙ none)))
out_at u l ls here none x false e =
    let ne : nat_eq x (variable l) ≡ false = grind (arith, nat_tests) in
    (λ h. rw e (rw ne at h), λ h. rw ne (rw e at h))

-- a literal that stands in the union goes from both
pub union_step : (u : Union) (l : ℤ) (ls : List ℤ) → u (variable l) ≡ Some (is_positive l) → sign_in ls (variable l) ≡ None → Is (set_at u (variable l) None) ls ↔ Is u (l ∷ ls)
union_step u l ls here none = (
  λ h x. (out_at u l ls here none x (nat_eq (variable l) x) refl).0 (h x),
  λ h x. (out_at u l ls here none x (nat_eq (variable l) x) refl).1 (h x),
)

-- what ascends goes on so
pub ascend_rest : (c : List ℤ) (i : ℕ) (d : ℤ) → i < length c → AscendFrom (drop i c) → AscendFrom (drop (i + 1) c) × (sign_in (drop (i + 1) c) (variable (get_or c i d)) ≡ None)
ascend_rest c i d h from =
    let cons : drop i c ≡ get_or c i d ∷ drop (i + 1) c = rw (drop-cons c i d, add-one) refl in
    let a = above from.from (get_or c i d) (drop (i + 1) c) (sym (ap (ascends_above from.from) cons) ∙ from.ascends) in
    (record { from = variable (get_or c i d); ascends = a.rest }, absent (variable (get_or c i d)) (drop (i + 1) c) (variable (get_or c i d)) a.rest (omega arith))

pub union_more : (u w : Union) (c : List ℤ) (i : ℕ) (d : ℤ) → i < length c → u (variable (get_or c i d)) ≡ Some (is_positive (get_or c i d)) → w ≡ set_at u (variable (get_or c i d)) None
    → sign_in (drop (i + 1) c) (variable (get_or c i d)) ≡ None → Is w (drop (i + 1) c) ↔ Is u (drop i c)
union_more u w c i d h here is none =
    let cons : drop i c ≡ get_or c i d ∷ drop (i + 1) c = rw (drop-cons c i d, add-one) refl in
    rw (is, cons) (union_step u (get_or c i d) (drop (i + 1) c) here none)
