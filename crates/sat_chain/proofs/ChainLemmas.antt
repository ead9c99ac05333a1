-- Serves the loops over a chain: each number is known, each clause is one, and what is left decides the union.
use Rattle.std.proofs.Common.{◌≡◌, ℕ, zero, suc, ◌+◌, ◌-◌, ◌<◌, ◌≤◌, Bool, true, false, ◌&&◌, List, [], ◌∷◌, length, get_or, drop, refl, sym, ap, ◌∙◌, Option, Some, None, arith, ℤ, add-one, drop-cons}
use Rattle.std.specs.List.{list_all, All, AllByRecursion}
use Rattle.std.specs.Option.{option_and_then}
use Rattle.std.proofs.lemmas.List.Elements.{All-from_recursion}
use Rattle.std.proofs.lemmas.Bool.Decides.{nat_tests}
use Rattle.std.proofs.lemmas.Grind.{common_steps}
use Rattle.sat_chain.specs.Clause.{variable, ascends_above, IsClause, AreClauses}
use Rattle.sat_chain.specs.Resolvent.{Union, sign_in, clause, resolvent, reached, union_of}
use Rattle.sat_chain.specs.Answer.{is_known, all_known}
use Rattle.sat_chain.specs.Marks.{at, nothing, one_if, live_in, merged}
use Rattle.sat_chain.proofs.StepLemmas.{merged_alone}

pub known_parts : (count n : ℕ) → is_known count n ≡ true → (0 < n) × (n ≤ count)
known_parts count n h = (grind (arith, nat_tests), grind (arith, nat_tests))

pub all_at : (count : ℕ) (ns : List ℕ) (k : ℕ) → list_all (is_known count) ns ≡ true → k < length ns → is_known count (get_or ns k 0) ≡ true
all_at count [] k h lt = absurd (omega arith)
all_at count (n ∷ ns) zero h lt = elim (is_known count n) as (λ b. (b && list_all (is_known count) ns) ≡ true → b ≡ true) [ true ↦ λ e. refl | false ↦ λ e. e ] h
all_at count (n ∷ ns) (suc k) h lt = all_at count ns k (elim (is_known count n) as (λ b. (b && list_all (is_known count) ns) ≡ true → list_all (is_known count) ns ≡ true) [ true ↦ λ e. e | false ↦ λ e. cc ] h) (omega arith)

pub below : (v m : ℕ) (c : List ℤ) → AllByRecursion (λ l. variable l ≤ v) c → v < m → AllByRecursion (λ l. variable l < m) c
below v m [] h lt = h
below v m (l ∷ ls) h lt = (omega (arith, h.0), below v m ls h.1 lt)

-- the variables of a clause have marks
pub clause_below : (m : ℕ) (c : List ℤ) → IsClause (m - 1) c → 0 < m → All (λ l. variable l < m) c
clause_below m c h some = All-from_recursion (λ l. variable l < m) c (below (m - 1) m c h.1 (omega arith))

pub clause_is : (v : ℕ) (cs : List (List ℤ)) (n : ℕ) → AreClauses v cs → 0 < n → n ≤ length cs → IsClause v (clause cs n)
clause_is v cs n h some le = All-from_recursion (IsClause v) cs h (n - 1) [] (omega arith)

pub reached_more : (cs : List (List ℤ)) (u : Union) (ns : List ℕ) (i : ℕ) → i < length ns
    → reached cs u (drop i ns) ≡ option_and_then (λ w. reached cs w (drop (i + 1) ns)) (resolvent u (clause cs (get_or ns i 0)))
unfolding reached
reached_more cs u ns i h = rw (drop-cons ns i 0, add-one) refl

pub reached_done : (cs : List (List ℤ)) (u : Union) (ns : List ℕ) (i : ℕ) → length ns ≤ i → reached cs u (drop i ns) ≡ Some u
unfolding reached
reached_done cs u ns i h = let none : drop i ns ≡ [] = grind (arith, common_steps) in rw none refl

nothing_tail : (m : Option Bool) (ms : List (Option Bool)) → ((x : ℕ) → at (m ∷ ms) x ≡ None) → (x : ℕ) → at ms x ≡ None
nothing_tail m ms h x = h (suc x)

-- nothing stands in marks that are all empty
pub live_nothing : (ms : List (Option Bool)) → ((x : ℕ) → at ms x ≡ None) → live_in ms ≡ 0
unfolding live_in
live_nothing [] h = refl
live_nothing (m ∷ ms) h = let here : one_if m ≡ 0 = ap one_if (h 0) in omega (arith, live_nothing ms (nothing_tail m ms h))

one_none : (m : Option Bool) → one_if m ≡ 0 → m ≡ None
one_none None h = refl
one_none (Some b) h = absurd (omega arith)

-- where nothing stands the marks are all empty
pub nothing_live : (ms : List (Option Bool)) → live_in ms ≡ 0 → (x : ℕ) → at ms x ≡ None
unfolding live_in
nothing_live [] h x = refl
nothing_live (m ∷ ms) h zero = one_none m (omega arith)
nothing_live (m ∷ ms) h (suc x) = nothing_live ms (omega arith) x

-- a number's clause is stored
pub known_within : (cs : List (List ℤ)) (ns : List ℕ) (k : ℕ) → all_known cs ns ≡ true → k < length ns → (0 < get_or ns k 0) × (get_or ns k 0 ≤ length cs)
known_within cs ns k h lt = known_parts (length cs) (get_or ns k 0) (all_at (length cs) ns k h lt)

all_tail : (count : ℕ) (n : ℕ) (ns : List ℕ) → list_all (is_known count) (n ∷ ns) ≡ true → list_all (is_known count) ns ≡ true
all_tail count n ns h = elim (is_known count n) as (λ b. (b && list_all (is_known count) ns) ≡ true → list_all (is_known count) ns ≡ true) [ true ↦ λ e. e | false ↦ λ e. cc ] h

pub known_others : (cs : List (List ℤ)) (ns : List ℕ) → all_known cs ns ≡ true → all_known cs (drop 1 ns) ≡ true
known_others cs [] h = h
known_others cs (n ∷ ns) h = all_tail (length cs) n ns h

-- the first clause is merged into nothing
pub union_first : (cs : List (List ℤ)) (ns : List ℕ) (u w : Union) (c : List ℤ) → 0 < length ns → u ≡ nothing → c ≡ clause cs (get_or ns 0 0) → w ≡ merged u c → ascends_above 0 (clause cs (get_or ns 0 0)) ≡ true
    → reached cs w (drop 1 ns) ≡ union_of cs ns
union_first cs [] u w c some none is merge h = absurd (omega arith)
union_first cs (n ∷ ns) u w c some none is merge h =
    let now : w ≡ sign_in (clause cs n) = merge ∙ ap (λ v. merged v c) none ∙ ap (merged nothing) is ∙ merged_alone (clause cs n) h in
    ap (λ v. reached cs v ns) now

-- one clause more
pub reached_step : (cs : List (List ℤ)) (u : Union) (ns : List ℕ) (i : ℕ) (w : Union) (o : Option Union) → i < length ns → reached cs u (drop i ns) ≡ o → resolvent u (clause cs (get_or ns i 0)) ≡ Some w → reached cs w (drop (i + 1) ns) ≡ o
reached_step cs u ns i w o h is step = sym (reached_more cs u ns i h ∙ ap (option_and_then (λ v. reached cs v (drop (i + 1) ns))) step) ∙ is

pub reached_stop : (cs : List (List ℤ)) (u : Union) (ns : List ℕ) (i : ℕ) (o : Option Union) → i < length ns → reached cs u (drop i ns) ≡ o → resolvent u (clause cs (get_or ns i 0)) ≡ None → o ≡ None
reached_stop cs u ns i o h is step = sym is ∙ reached_more cs u ns i h ∙ ap (option_and_then (λ v. reached cs v (drop (i + 1) ns))) step
