-- Serves specs/Marks.antt: what a write does to a union, and what a clause of ascending variables does.
use Rattle.std.proofs.Common.{◌≡◌, ◌≢◌, ℕ, zero, suc, ◌+◌, ◌<◌, ◌≤◌, Bool, true, false, nat_eq, cond, List, [], ◌∷◌, length, get_or, set, drop, refl, ap, ◌∙◌, Option, Some, None, arith, ℤ, add-one, drop-cons, get_or-set_same, get_or-set_other, length-set}
use Rattle.std.proofs.lemmas.Bool.Decides.{nat_tests}
use Rattle.std.proofs.lemmas.Grind.{common_steps}
use mathlib.Core.Path.{fun_ext}
use Rattle.sat_chain.specs.Clause.{variable, is_positive, ascends_above}
use Rattle.sat_chain.specs.Resolvent.{Union, is_opposite}
use Rattle.sat_chain.specs.Marks.{at, set_at, one_if, live_in, put, merged, turned}

at_set_here : (ms : List (Option Bool)) (v : ℕ) (s : Option Bool) (x : ℕ) → v < length ms → (b : Bool) → nat_eq x v ≡ b → get_or (set ms v s) x None ≡ cond b s (get_or ms x None)
at_set_here ms v s x h true e = let is : x ≡ v = grind (arith, nat_tests) in ap (λ y. get_or (set ms v s) y None) is ∙ get_or-set_same ms v s None h
at_set_here ms v s x h false e = let ne : x ≢ v = grind (arith, nat_tests) in get_or-set_other ms v x s None ne

-- a write changes the union at its variable
pub at_set : (ms : List (Option Bool)) (v : ℕ) (s : Option Bool) → v < length ms → at (set ms v s) ≡ set_at (at ms) v s
at_set ms v s h = fun_ext (λ x. at_set_here ms v s x h (nat_eq x v) refl)

pub live_set : (ms : List (Option Bool)) (v : ℕ) (s : Option Bool) → v < length ms → live_in (set ms v s) + one_if (get_or ms v None) ≡ live_in ms + one_if s
unfolding live_in
live_set [] v s h = absurd (omega arith)
live_set (m ∷ ms) zero s h = omega arith
live_set (m ∷ ms) (suc v) s h = omega (arith, live_set ms v s (omega arith))

pub live_le : (ms : List (Option Bool)) → live_in ms ≤ length ms
unfolding live_in
live_le [] = omega arith
live_le (None ∷ ms) = omega (arith, live_le ms)
live_le (Some b ∷ ms) = omega (arith, live_le ms)

-- a union that stays as it is at a variable
pub set_same : (u : Union) (v : ℕ) (s : Option Bool) → u v ≡ s → u ≡ set_at u v s
set_same u v s is = fun_ext (λ x. elim (nat_eq x v) as (λ b. nat_eq x v ≡ b → u x ≡ cond b s (u x)) [
  | true ↦ λ e. (let same : x ≡ v = grind (arith, nat_tests) in ap u same ∙ is)
  | false ↦ λ e. refl
] refl)

pub merged_more : (u : Union) (c : List ℤ) (i : ℕ) (d : ℤ) → i < length c → merged (put u (get_or c i d)) (drop (i + 1) c) ≡ merged u (drop i c)
unfolding merged
merged_more u c i d h = rw (drop-cons c i d, add-one) refl

pub turned_more : (u : Union) (c : List ℤ) (i : ℕ) (d : ℤ) → i < length c
    → turned u (drop i c) ≡ cond (is_opposite (u (variable (get_or c i d))) (is_positive (get_or c i d))) 1 0 + turned (put u (get_or c i d)) (drop (i + 1) c)
unfolding turned
turned_more u c i d h = rw (drop-cons c i d, add-one) refl

pub merged_done : (u : Union) (c : List ℤ) (i : ℕ) → length c ≤ i → merged u (drop i c) ≡ u
unfolding merged
merged_done u c i h = let none : drop i c ≡ [] = grind (arith, common_steps) in rw none refl

pub turned_done : (u : Union) (c : List ℤ) (i : ℕ) → length c ≤ i → turned u (drop i c) ≡ 0
unfolding turned
turned_done u c i h = let none : drop i c ≡ [] = grind (arith, common_steps) in rw none refl

-- a sign where none stood
pub live_more : (ms : List (Option Bool)) (v : ℕ) (b : Bool) → v < length ms → get_or ms v None ≡ None → live_in (set ms v (Some b)) ≡ live_in ms + 1
live_more ms v b h is = let s = live_set ms v (Some b) h in let z : one_if (get_or ms v None) ≡ 0 = ap one_if is in omega arith

-- no sign where one stood
pub live_less : (ms : List (Option Bool)) (v : ℕ) (b : Bool) → v < length ms → get_or ms v None ≡ Some b → live_in (set ms v None) + 1 ≡ live_in ms
live_less ms v b h is = let s = live_set ms v None h in let z : one_if (get_or ms v None) ≡ 1 = ap one_if is in omega arith

pub live_below : (ms : List (Option Bool)) (v : ℕ) → v < length ms → get_or ms v None ≡ None → live_in ms + 1 ≤ length ms
live_below ms v h is = omega (arith, live_le (set ms v (Some true)), live_more ms v true h is, length-set {A = Option Bool})

-- literals that ascend from above some variable
pub record AscendFrom (c : List ℤ) : Type 0 where
  pub from : ℕ
  pub ascends : ascends_above from c ≡ true
