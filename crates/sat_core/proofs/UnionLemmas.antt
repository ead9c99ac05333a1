-- Serves specs/Marked.antt: the union of marked variables, and one step of a derivation.
use Rattle.std.proofs.Common.{◌≡◌, ◌≢◌, ℕ, ◌+◌, ◌-◌, ◌<◌, ◌≤◌, Bool, true, false, ◌&&◌, ◌||◌, not, nat_eq, nat_le, nat_lt, cond, List, [], ◌∷◌, ◌++◌, length, get_or, set, refl, sym, ap, ◌∙◌, Option, Some, None, is_some, arith, ℤ, eq-eqb, get_or-set_same, get_or-set_other}
use Rattle.std.specs.List.{list_all}
use Rattle.std.specs.Option.{option_and_then}
use Rattle.std.proofs.lemmas.Option.{same_Some}
use Rattle.std.proofs.lemmas.Bool.Decides.{nat_tests}
use mathlib.Core.Path.{fun_ext}
use Rattle.sat_chain.specs.Clause.{variable, is_positive, ascends_above}
use Rattle.sat_chain.specs.Resolvent.{Union, differs, is_opposite, opposites, either, sign_in, resolved_at, resolvent, clause, reached, union_of}
use Rattle.sat_chain.specs.Answer.{is_known}
use Rattle.sat_chain.proofs.StepLemmas.{above, absent}
use Rattle.sat_core.specs.Counts.{numbers}
use Rattle.sat_core.specs.Path.{sign_at, turned, is_false_literal, is_false, IsFirstFalse}
use Rattle.sat_core.specs.Marked.{union_at, stands_in, IsMarked, ComeTo}
use Rattle.sat_core.proofs.FalseLemmas.{both, literal_is, literal_false}

sign_not : (s b : Bool) → differs s b ≡ true → b ≡ not s
sign_not true false h = refl
sign_not false true h = refl
sign_not true true h = cc
sign_not false false h = cc

-- a sign in a false clause
pub false_sign : (a : ℕ → Bool) (n : ℕ) (c : List ℤ) (x : ℕ) (s : Bool) → is_false a n c ≡ true → sign_in c x ≡ Some s → (x ≤ n) × (s ≡ not (a x))
false_sign a n [] x s h is = cc
false_sign a n (l ∷ ls) x s h is =
    let p = both (is_false_literal a n l) (is_false a n ls) h in
    let f = literal_is a n l p.0 in
    elim (nat_eq (variable l) x) as (λ b. nat_eq (variable l) x ≡ b → cond b (Some (is_positive l)) (sign_in ls x) ≡ Some s → (x ≤ n) × (s ≡ not (a x))) [
      | true ↦ λ e k. (
          let same : variable l ≡ x = grind (arith, nat_tests) in
          let sign : is_positive l ≡ s = same_Some (is_positive l) s k in
          (omega (arith, f.within), sym sign ∙ sign_not (a (variable l)) (is_positive l) f.other ∙ ap (λ y. not (a y)) same)
          )
      | false ↦ λ e k. false_sign a n ls x s p.1 k
    ] refl is

sign_here : (a : ℕ → Bool) (x : ℕ) (o : Option Bool) → ((s : Bool) → o ≡ Some s → s ≡ not (a x)) → o ≡ cond (is_some o) (Some (not (a x))) None
sign_here a x None h = refl
sign_here a x (Some s) h = ap (λ (b : Bool). Some b) (h s refl)

-- a false clause is the union of its variables
pub union_start : (a m : ℕ → Bool) (n : ℕ) (c : List ℤ) → is_false a n c ≡ true → ((x : ℕ) → m x ≡ stands_in c x) → sign_in c ≡ union_at a m
union_start a m n c h is = fun_ext (λ x. sign_here a x (sign_in c x) (λ s e. (false_sign a n c x s h e).1) ∙ ap (λ (b : Bool). cond b (Some (not (a x))) None) (sym (is x)))

-- nothing false ascends from above
nothing_above : (b : ℕ → Bool) (i : ℕ) (c : List ℤ) → ascends_above i c ≡ true → is_false b i c ≡ true → c ≡ []
nothing_above b i [] asc h = refl
nothing_above b i (l ∷ ls) asc h =
    let t = above i l ls asc in
    let f = literal_is b i l (both (is_false_literal b i l) (is_false b i ls) h).0 in
    absurd (omega (arith, t.first, f.within))

turned_here : (a : ℕ → Bool) (i : ℕ) → turned a i i ≡ not (a i)
turned_here a i = rw (eq-eqb i i refl) refl

pub turned_other : (a : ℕ → Bool) (i x : ℕ) → nat_eq x i ≡ false → turned a i x ≡ a x
turned_other a i x h = rw h refl

skipped : (m s p : Bool) → differs s p ≡ true → is_opposite (cond m (Some (not s)) None) p ≡ false
skipped false s p h = refl
skipped true true false h = refl
skipped true false true h = refl
skipped true true true h = cc
skipped true false false h = cc

rest_false : (a b : Bool) → (a && b) ≡ false → a ≡ true → b ≡ false
rest_false true b h e = h
rest_false false b h e = cc

-- the variable of opposite sign is that of the reason
pub opposites_reason : (a m : ℕ → Bool) (i v : ℕ) (c : List ℤ) → ascends_above v c ≡ true → m i ≡ true → is_false (turned a i) i c ≡ true → is_false (turned a i) (i - 1) c ≡ false → opposites (union_at a m) c ≡ i ∷ []
opposites_reason a m i v [] asc mark now before = cc
opposites_reason a m i v (l ∷ ls) asc mark now before =
    let t = above v l ls asc in
    let p = both (is_false_literal (turned a i) i l) (is_false (turned a i) i ls) now in
    let f = literal_is (turned a i) i l p.0 in
    elim (nat_eq (variable l) i) as (λ b. nat_eq (variable l) i ≡ b → opposites (union_at a m) (l ∷ ls) ≡ i ∷ []) [
      | true ↦ λ e. (
          let same : variable l ≡ i = grind (arith, nat_tests) in
          let none : ls ≡ [] = nothing_above (turned a i) i ls (sym (ap (λ y. ascends_above y ls) same) ∙ t.rest) p.1 in
          let other : differs (not (a i)) (is_positive l) ≡ true = sym (ap (λ s. differs s (is_positive l)) (ap (turned a i) same ∙ turned_here a i)) ∙ f.other in
          let here : is_opposite (union_at a m (variable l)) (is_positive l) ≡ true = ap (λ y. is_opposite (union_at a m y) (is_positive l)) same ∙ rw mark other in
          rw (here, none, same) refl
          )
      | false ↦ λ e. (
          let le : variable l ≤ i - 1 = (let w = f.within in let ne : variable l ≢ i = grind (arith, nat_tests) in omega arith) in
          let other : differs (a (variable l)) (is_positive l) ≡ true = sym (ap (λ s. differs s (is_positive l)) (turned_other a i (variable l) e)) ∙ f.other in
          let skip : is_opposite (union_at a m (variable l)) (is_positive l) ≡ false = skipped (m (variable l)) (a (variable l)) (is_positive l) other in
          let head = literal_false (turned a i) (i - 1) l le f.other in
          rw skip (opposites_reason a m i (variable l) ls t.rest mark p.1 (rest_false (is_false_literal (turned a i) (i - 1) l) (is_false (turned a i) (i - 1) ls) before head))
          )
    ] refl

resolved_other : (m : Bool) (s : Bool) (o : Option Bool) → ((b : Bool) → o ≡ Some b → b ≡ not s) → either (cond m (Some (not s)) None) o ≡ cond (m || is_some o) (Some (not s)) None
resolved_other true s o h = refl
resolved_other false s None h = refl
resolved_other false s (Some b) h = ap (λ (x : Bool). Some x) (h b refl)

-- the union without the variable of the reason
resolved_at_variable : (a m m' : ℕ → Bool) (i : ℕ) (c : List ℤ) (x : ℕ) → is_false (turned a i) i c ≡ true → m' x ≡ cond (nat_eq x i) false (m x || stands_in c x) → (t : Bool) → nat_eq x i ≡ t
    → cond t None (either (union_at a m x) (sign_in c x)) ≡ union_at a m' x
resolved_at_variable a m m' i c x now is true e = let gone : m' x ≡ false = is ∙ rw e refl in rw gone refl
resolved_at_variable a m m' i c x now is false e =
    let here : m' x ≡ (m x || stands_in c x) = is ∙ rw e refl in
    resolved_other (m x) (a x) (sign_in c x) (λ b k. (false_sign (turned a i) i c x b now k).1 ∙ ap not (turned_other a i x e)) ∙ ap (λ (b : Bool). cond b (Some (not (a x))) None) (sym here)

-- one step, with a reason
pub step_reason : (a m m' : ℕ → Bool) (i : ℕ) (c : List ℤ) → ascends_above 0 c ≡ true → m i ≡ true → IsFirstFalse (turned a i) i c → ((x : ℕ) → m' x ≡ cond (nat_eq x i) false (m x || stands_in c x))
    → resolvent (union_at a m) c ≡ Some (union_at a m')
step_reason a m m' i c asc mark first is =
    ap (resolved_at (union_at a m) c) (opposites_reason a m i 0 c asc mark first.now first.before)
    ∙ ap (λ (u : Union). Some u) (fun_ext (λ x. resolved_at_variable a m m' i c x first.now (is x) (nat_eq x i) refl))

clause_of : (cs : List (List ℤ)) (id : ℕ) → clause cs (id + 1) ≡ get_or cs id []
clause_of cs id = let e : id + 1 - 1 ≡ id = omega arith in ap (λ k. get_or cs k []) e

reached_push : (cs : List (List ℤ)) (u w r : Union) (ns : List ℕ) (n : ℕ) → reached cs u ns ≡ Some w → resolvent w (clause cs n) ≡ Some r → reached cs u (ns ++ n ∷ []) ≡ Some r
unfolding reached
reached_push cs u w r [] n h step = ap (λ v. option_and_then (λ y. Some y) (resolvent v (clause cs n))) (same_Some u w h) ∙ ap (option_and_then (λ y. Some y)) step
reached_push cs u w r (k ∷ ns) n h step =
    elim (resolvent u (clause cs k)) as (λ o. option_and_then (λ y. reached cs y ns) o ≡ Some w → option_and_then (λ y. reached cs y (ns ++ n ∷ [])) o ≡ Some r) [
      | None ↦ λ e. cc
      | Some v ↦ λ e. reached_push cs v w r ns n e step
    ] h

union_push : (cs : List (List ℤ)) (w r : Union) (ns : List ℕ) (n : ℕ) → union_of cs ns ≡ Some w → resolvent w (clause cs n) ≡ Some r → union_of cs (ns ++ n ∷ []) ≡ Some r
union_push cs w r [] n h step = cc
union_push cs w r (k ∷ ns) n h step = reached_push cs (sign_in (clause cs k)) w r ns n h step

numbers_push : (ids : List ℕ) (id : ℕ) → numbers (ids ++ id ∷ []) ≡ numbers ids ++ (id + 1) ∷ []
numbers_push [] id = refl
numbers_push (k ∷ ids) id = ap (λ ns. (k + 1) ∷ ns) (numbers_push ids id)

pub known_id : (count id : ℕ) → id < count → is_known count (id + 1) ≡ true
known_id count id lt = let some : nat_lt 0 (id + 1) ≡ true = grind (arith, nat_tests) in let le : nat_le (id + 1) count ≡ true = grind (arith, nat_tests) in rw (some, le) refl

known_push : (count : ℕ) (ns : List ℕ) (n : ℕ) → list_all (is_known count) ns ≡ true → is_known count n ≡ true → list_all (is_known count) (ns ++ n ∷ []) ≡ true
known_push count [] n h k = rw k refl
known_push count (x ∷ ns) n h k = let p = both (is_known count x) (list_all (is_known count) ns) h in rw p.0 (known_push count ns n p.1 k)

-- a clause alone
pub come_one : (cs : List (List ℤ)) (ids : List ℕ) (id : ℕ) (u : Union) → ids ≡ [] ++ id ∷ [] → id < length cs → sign_in (get_or cs id []) ≡ u → ComeTo cs ids u
come_one cs ids id u is lt e = rw is record {
  known = let k = known_id (length cs) id lt in rw k refl;
  union = unfold reached in ap (λ c. Some (sign_in c)) (clause_of cs id) ∙ ap (λ (w : Union). Some w) e;
}

-- a reason more
pub come_push : (cs : List (List ℤ)) (ids more : List ℕ) (id : ℕ) (u w : Union) → ComeTo cs ids u → more ≡ ids ++ id ∷ [] → id < length cs → resolvent u (get_or cs id []) ≡ Some w → ComeTo cs more w
come_push cs ids more id u w h is lt step = record {
  known = rw (is, numbers_push ids id) (known_push (length cs) (numbers ids) (id + 1) h.known (known_id (length cs) id lt));
  union = rw (is, numbers_push ids id) (union_push cs u w (numbers ids) (id + 1) h.union (ap (resolvent u) (clause_of cs id) ∙ step));
}

-- the marks after a step
stands_within : (a : ℕ → Bool) (n : ℕ) (c : List ℤ) (x : ℕ) → is_false a n c ≡ true → n < x → stands_in c x ≡ false
stands_within a n c x h lt = elim (sign_in c x) as (λ o. sign_in c x ≡ o → is_some o ≡ false) [
  | None ↦ λ e. refl
  | Some s ↦ λ e. (let f = false_sign a n c x s h e in absurd (omega (arith, f.0)))
] refl

neither_is : (m s : Bool) → m ≡ false → s ≡ false → (m || s) ≡ false
neither_is false false h k = refl
neither_is true s h k = cc
neither_is false true h k = cc

-- marks of a false clause are within its variables
pub marked_start : (a m : ℕ → Bool) (n : ℕ) (c : List ℤ) → is_false a n c ≡ true → stands_in c 0 ≡ false → ((x : ℕ) → m x ≡ stands_in c x) → IsMarked m n
marked_start a m n c h none is = record {
  above = λ x lt. is x ∙ stands_within a n c x h lt;
  start = is 0 ∙ none;
}

pub marked_step : (a m m' : ℕ → Bool) (i n : ℕ) (c : List ℤ) → is_false a i c ≡ true → stands_in c 0 ≡ false → IsMarked m i → n + 1 ≡ i → ((x : ℕ) → m' x ≡ cond (nat_eq x i) false (m x || stands_in c x)) → IsMarked m' n
marked_step a m m' i n c h none marks e is = record {
  above = λ x lt. is x ∙ elim (nat_eq x i) as (λ b. nat_eq x i ≡ b → cond b false (m x || stands_in c x) ≡ false) [
    | true ↦ λ t. refl
    | false ↦ λ t. (let more : i < x = (let ne : x ≢ i = grind (arith, nat_tests) in omega arith) in neither_is (m x) (stands_in c x) (marks.above x more) (stands_within a i c x h more))
  ] refl;
  start = is 0 ∙ (let ne : nat_eq 0 i ≡ false = grind (arith, nat_tests) in rw ne (neither_is (m 0) (stands_in c 0) marks.start none));
}

-- unmarked at the last variable
pub marked_less : (m : ℕ → Bool) (i n : ℕ) → IsMarked m i → m i ≡ false → n + 1 ≡ i → IsMarked m n
marked_less m i n marks none e = record {
  above = λ x lt. elim (nat_eq x i) as (λ b. nat_eq x i ≡ b → m x ≡ false) [
    | true ↦ λ t. (let same : x ≡ i = grind (arith, nat_tests) in ap m same ∙ none)
    | false ↦ λ t. marks.above x (let ne : x ≢ i = grind (arith, nat_tests) in omega arith)
  ] refl;
  start = marks.start;
}

-- a mark taken away
pub sign_set : (ms : List Bool) (i : ℕ) (s : Bool) (x : ℕ) → i < length ms → sign_at (set ms i s) x ≡ cond (nat_eq x i) s (sign_at ms x)
sign_set ms i s x lt = elim (nat_eq x i) as (λ b. nat_eq x i ≡ b → get_or (set ms i s) x false ≡ cond b s (get_or ms x false)) [
  | true ↦ λ t. (let same : x ≡ i = grind (arith, nat_tests) in ap (λ y. get_or (set ms i s) y false) same ∙ get_or-set_same ms i s false lt)
  | false ↦ λ t. (let ne : x ≢ i = grind (arith, nat_tests) in get_or-set_other ms i x s false ne)
] refl

-- the marks after a step
pub marks_step : (ms ms' : List Bool) (i : ℕ) (c d : List ℤ) → i < length ms' → ((x : ℕ) → sign_at ms' x ≡ (sign_at ms x || stands_in d x)) → c ≡ d
    → (x : ℕ) → sign_at (set ms' i false) x ≡ cond (nat_eq x i) false (sign_at ms x || stands_in c x)
marks_step ms ms' i c d lt is e x =
    sign_set ms' i false x lt ∙ ap (cond (nat_eq x i) false) (is x ∙ ap (λ r. sign_at ms x || stands_in r x) (sym e))

-- 0 stands in no clause
pub stands_not : (c : List ℤ) → ascends_above 0 c ≡ true → stands_in c 0 ≡ false
stands_not c asc = ap (λ (o : Option Bool). is_some o) (absent 0 c 0 asc (omega arith))
