-- Serves specs/Path.antt: what a false clause is, at other signs and up to another variable.
use Rattle.std.proofs.Common.{◌≡◌, ◌≢◌, ℕ, zero, suc, ◌+◌, ◌<◌, ◌≤◌, ◌⊎◌, inl, inr, Bool, true, false, ◌&&◌, ◌||◌, not, nat_le, nat_lt, List, [], ◌∷◌, ◌++◌, length, get_or, drop, drop-cons, add-one, refl, sym, ap, ◌∙◌, arith, ℤ}
use Rattle.std.specs.List.{All, AllByRecursion}
use Rattle.std.proofs.lemmas.List.Elements.{All-from_recursion}
use Rattle.sat_chain.proofs.ChainLemmas.{below}
use Rattle.std.proofs.lemmas.Bool.Decides.{nat_tests}
use Rattle.sat_chain.specs.Clause.{variable, is_positive, ascends_above, IsClause, Meets, MeetsAll}
use Rattle.sat_chain.specs.Resolvent.{differs}
use Rattle.sat_core.specs.Path.{is_false_literal, is_false, some_false}

-- both tests passed
pub both : (a b : Bool) → (a && b) ≡ true → (a ≡ true) × (b ≡ true)
both true b h = (refl, h)
both false b h = cc

-- the parts of a false literal
pub record IsFalse (a : ℕ → Bool) (n : ℕ) (l : ℤ) : Type 0 where
  pub within : variable l ≤ n
  pub other : differs (a (variable l)) (is_positive l) ≡ true

pub literal_is : (a : ℕ → Bool) (n : ℕ) (l : ℤ) → is_false_literal a n l ≡ true → IsFalse a n l
literal_is a n l h =
    let p = both (nat_le (variable l) n) (differs (a (variable l)) (is_positive l)) h in
    let le = p.0 in
    record { within = grind (arith, nat_tests); other = p.1 }

pub literal_false : (a : ℕ → Bool) (n : ℕ) (l : ℤ) → variable l ≤ n → differs (a (variable l)) (is_positive l) ≡ true → is_false_literal a n l ≡ true
literal_false a n l le d = let t : nat_le (variable l) n ≡ true = grind (arith, nat_tests) in rw t d

-- false up to more variables
pub literal_later : (a : ℕ → Bool) (n m : ℕ) (l : ℤ) → n ≤ m → is_false_literal a n l ≡ true → is_false_literal a m l ≡ true
literal_later a n m l le h = let f = literal_is a n l h in literal_false a m l (omega (arith, f.within)) f.other

pub false_later : (a : ℕ → Bool) (n m : ℕ) (c : List ℤ) → n ≤ m → is_false a n c ≡ true → is_false a m c ≡ true
false_later a n m [] le h = refl
false_later a n m (l ∷ ls) le h =
    let p = both (is_false_literal a n l) (is_false a n ls) h in
    rw (literal_later a n m l le p.0) (false_later a n m ls le p.1)

-- the signs are the same up to a variable
abbrev pub Same : (a b : ℕ → Bool) → ℕ → Type 0
Same a b n = (x : ℕ) → x ≤ n → a x ≡ b x

literal_same : (a b : ℕ → Bool) (n : ℕ) (l : ℤ) → Same a b n → (t : Bool) → nat_le (variable l) n ≡ t → (t && differs (a (variable l)) (is_positive l)) ≡ (t && differs (b (variable l)) (is_positive l))
literal_same a b n l same true e = ap (λ s. differs s (is_positive l)) (same (variable l) (grind (arith, nat_tests)))
literal_same a b n l same false e = refl

pub false_same : (a b : ℕ → Bool) (n : ℕ) (c : List ℤ) → Same a b n → is_false a n c ≡ is_false b n c
false_same a b n [] same = refl
false_same a b n (l ∷ ls) same = rw (literal_same a b n l same (nat_le (variable l) n) refl, false_same a b n ls same) refl

pub some_false_same : (a b : ℕ → Bool) (n : ℕ) (cs : List (List ℤ)) → Same a b n → some_false a n cs ≡ some_false b n cs
some_false_same a b n [] same = refl
some_false_same a b n (c ∷ cs) same = rw (false_same a b n c same, some_false_same a b n cs same) refl

-- no test passed
pub neither : (a b : Bool) → (a || b) ≡ false → (a ≡ false) × (b ≡ false)
neither false b h = (refl, h)
neither true b h = cc

not_later : (a : ℕ → Bool) (n m : ℕ) (c : List ℤ) → n ≤ m → is_false a m c ≡ false → (t : Bool) → is_false a n c ≡ t → t ≡ false
not_later a n m c le h true e = let l : is_false a m c ≡ true = false_later a n m c le e in cc
not_later a n m c le h false e = refl

-- none is false up to fewer variables
pub none_before : (a : ℕ → Bool) (n m : ℕ) (cs : List (List ℤ)) → n ≤ m → some_false a m cs ≡ false → some_false a n cs ≡ false
none_before a n m [] le h = refl
none_before a n m (c ∷ cs) le h =
    let p = neither (is_false a m c) (some_false a m cs) h in
    rw (not_later a n m c le p.0 (is_false a n c) refl) (none_before a n m cs le p.1)

-- a clause of them isn't false
pub none_at : (a : ℕ → Bool) (n : ℕ) (cs : List (List ℤ)) (k : ℕ) → some_false a n cs ≡ false → k < length cs → is_false a n (get_or cs k []) ≡ false
none_at a n [] k h lt = absurd (omega arith)
none_at a n (c ∷ cs) zero h lt = (neither (is_false a n c) (some_false a n cs) h).0
none_at a n (c ∷ cs) (suc k) h lt = none_at a n cs k (neither (is_false a n c) (some_false a n cs) h).1 (omega arith)

-- a false clause is none of them
pub none_is : (a : ℕ → Bool) (n : ℕ) (cs : List (List ℤ)) (d : List ℤ) → some_false a n cs ≡ false → is_false a n d ≡ true → AllByRecursion (λ c. c ≢ d) cs
none_is a n [] d h f = tt
none_is a n (c ∷ cs) d h f =
    let p = neither (is_false a n c) (some_false a n cs) h in
    (λ e. (let g : is_false a n c ≡ is_false a n d = ap (is_false a n) e in cc), none_is a n cs d p.1 f)

pub none_push : (a : ℕ → Bool) (n : ℕ) (cs : List (List ℤ)) (d : List ℤ) → some_false a n cs ≡ false → is_false a n d ≡ false → some_false a n (cs ++ d ∷ []) ≡ false
none_push a n [] d h f = rw f refl
none_push a n (c ∷ cs) d h f =
    let p = neither (is_false a n c) (some_false a n cs) h in
    rw p.0 (none_push a n cs d p.1 f)

not_not : (b : Bool) → not (not b) ≡ b
not_not true = refl
not_not false = refl

differs_not : (s b : Bool) → differs s b ≡ true → s ≡ not b
differs_not true false h = refl
differs_not false true h = refl
differs_not true true h = cc
differs_not false false h = cc

same_sign : (s b : Bool) → differs s b ≡ false → s ≡ b
same_sign true true h = refl
same_sign true false h = cc
same_sign false true h = cc
same_sign false false h = refl

-- a clause that isn't false, of set variables, is met
pub not_false_met : (a : ℕ → Bool) (n : ℕ) (c : List ℤ) → AllByRecursion (λ l. variable l ≤ n) c → is_false a n c ≡ false → Meets a c
not_false_met a n [] within h = cc
not_false_met a n (l ∷ ls) within h =
    let le : nat_le (variable l) n ≡ true = (let w = within.0 in grind (arith, nat_tests)) in
    elim (differs (a (variable l)) (is_positive l)) as (λ d. differs (a (variable l)) (is_positive l) ≡ d → (a (variable l) ≡ is_positive l) ⊎ Meets a ls) [
      | true ↦ λ e. inr (not_false_met a n ls within.1 (sym (rw (le, e) refl) ∙ h))
      | false ↦ λ e. inl (same_sign (a (variable l)) (is_positive l) e)
    ] refl

pub none_false_met : (a : ℕ → Bool) (n : ℕ) (cs : List (List ℤ)) → AllByRecursion (IsClause n) cs → some_false a n cs ≡ false → MeetsAll a cs
none_false_met a n [] all h = tt
none_false_met a n (c ∷ cs) all h =
    let p = neither (is_false a n c) (some_false a n cs) h in
    (not_false_met a n c all.0.1 p.0, none_false_met a n cs all.1 p.1)

-- a clause that is false before the first variable is empty
pub false_empty : (a : ℕ → Bool) (c : List ℤ) → ascends_above 0 c ≡ true → is_false a 0 c ≡ true → c ≡ []
false_empty a [] asc h = refl
false_empty a (l ∷ ls) asc h =
    let f = literal_is a 0 l (both (is_false_literal a 0 l) (is_false a 0 ls) h).0 in
    let p = (both (nat_lt 0 (variable l)) (ascends_above (variable l) ls) asc).0 in
    absurd (let lt : 0 < variable l = grind (arith, nat_tests) in omega (arith, f.within))

pub any_more : (a : ℕ → Bool) (n : ℕ) (cs : List (List ℤ)) (k : ℕ) → k < length cs → is_false a n (get_or cs k []) ≡ false → some_false a n (drop (k + 1) cs) ≡ some_false a n (drop k cs)
any_more a n cs k lt h = sym (rw (drop-cons cs k [], add-one, h) refl)

-- a clause by its id
pub clause_at : (v : ℕ) (cs : List (List ℤ)) (k : ℕ) → AllByRecursion (IsClause v) cs → k < length cs → IsClause v (get_or cs k [])
clause_at v cs k h lt = All-from_recursion (IsClause v) cs h k [] lt

-- the variables of a clause have signs
pub clause_below : (v m : ℕ) (c : List ℤ) → AllByRecursion (λ l. variable l ≤ v) c → v < m → All (λ l. variable l < m) c
clause_below v m c h lt = All-from_recursion (λ l. variable l < m) c (below v m c h lt)
