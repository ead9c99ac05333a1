-- Serves specs/Written.antt: what a clause of one, two or three literals is.
use Rattle.std.proofs.Common.{◌≡◌, ℕ, zero, suc, ◌<◌, ◌≤◌, Bool, true, false, List, [], ◌∷◌, refl, ap, subst, Some, arith, ℤ, eq-eqb}
use Rattle.std.proofs.lemmas.Bool.{lt-ltb, le-ltb, ne_eqb}
use Rattle.sat_chain.specs.Clause.{variable, is_positive}
use Rattle.sat_chain.specs.Resolvent.{differs}
use Rattle.tern_cnf.specs.Written.{stated, negated, put, ascending, listed, clause}

pub variable_negated : (v : ℕ) → variable (negated v) ≡ v
variable_negated zero = refl
variable_negated (suc v) = refl

differs_self : (b : Bool) → differs b b ≡ false
differs_self true = refl
differs_self false = refl

-- a literal stays in front of one of a higher variable
put_front : (l m : ℤ) (ms : List ℤ) → variable l < variable m → put l (m ∷ ms) ≡ Some (l ∷ m ∷ ms)
unfolding put
put_front l m ms lt = rw (lt-ltb (variable l) (variable m) lt) refl

-- it goes behind one of a lower variable
put_behind : (l m : ℤ) (ms ns : List ℤ) → variable m < variable l → put l ms ≡ Some ns → put l (m ∷ ms) ≡ Some (m ∷ ns)
unfolding put
put_behind l m ms ns lt is = rw (le-ltb (variable l) (variable m) (omega arith), ne_eqb (variable l) (variable m) (λ e. omega arith), is) refl

-- it isn't written twice
put_twice : (l : ℤ) (ms : List ℤ) → put l (l ∷ ms) ≡ Some (l ∷ ms)
unfolding put
put_twice l ms = rw (le-ltb (variable l) (variable l) (omega arith), eq-eqb (variable l) (variable l) refl, differs_self (is_positive l)) refl

put_last : (l : ℤ) → put l [] ≡ Some (l ∷ [])
unfolding put
put_last l = refl

pub clause_one : (l : ℤ) → clause (l ∷ []) ≡ (l ∷ []) ∷ []
unfolding clause ascending put
clause_one l = refl

ascending_two : (l m : ℤ) → variable l < variable m → ascending (l ∷ m ∷ []) ≡ Some (l ∷ m ∷ [])
unfolding ascending
ascending_two l m lt = rw (put_last m, put_front l m [] lt) refl

ascending_more : (l : ℤ) (ls ms ns : List ℤ) → ascending ls ≡ Some ms → put l ms ≡ Some ns → ascending (l ∷ ls) ≡ Some ns
unfolding ascending
ascending_more l ls ms ns is put-is = rw is put-is

clause_is : (ls ms : List ℤ) → ascending ls ≡ Some ms → clause ls ≡ ms ∷ []
unfolding clause
clause_is ls ms is = ap listed is

pub clause_two : (l m : ℤ) → variable l < variable m → clause (l ∷ m ∷ []) ≡ (l ∷ m ∷ []) ∷ []
clause_two l m lt = clause_is (l ∷ m ∷ []) (l ∷ m ∷ []) (ascending_two l m lt)

-- in their order
pub clause_three : (l m n : ℤ) → variable l < variable m → variable m < variable n → clause (l ∷ m ∷ n ∷ []) ≡ (l ∷ m ∷ n ∷ []) ∷ []
clause_three l m n lt lt' =
    clause_is (l ∷ m ∷ n ∷ []) (l ∷ m ∷ n ∷ []) (ascending_more l (m ∷ n ∷ []) (m ∷ n ∷ []) (l ∷ m ∷ n ∷ []) (ascending_two m n lt') (put_front l m (n ∷ []) lt))

-- the first two change places
pub clause_turned : (l m n : ℤ) → variable m < variable l → variable l < variable n → clause (l ∷ m ∷ n ∷ []) ≡ (m ∷ l ∷ n ∷ []) ∷ []
clause_turned l m n lt lt' =
    clause_is (l ∷ m ∷ n ∷ []) (m ∷ l ∷ n ∷ [])
    (ascending_more l (m ∷ n ∷ []) (m ∷ n ∷ []) (m ∷ l ∷ n ∷ []) (ascending_two m n (omega arith)) (put_behind l m (n ∷ []) (l ∷ n ∷ []) lt (put_front l n [] lt')))

-- the first two are one
clause_twice : (l n : ℤ) → variable l < variable n → clause (l ∷ l ∷ n ∷ []) ≡ (l ∷ n ∷ []) ∷ []
clause_twice l n lt = clause_is (l ∷ l ∷ n ∷ []) (l ∷ n ∷ []) (ascending_more l (l ∷ n ∷ []) (l ∷ n ∷ []) (l ∷ n ∷ []) (ascending_two l n lt) (put_twice l (n ∷ [])))

pub negated_twice : (a b r : ℕ) → a ≤ b → b ≤ a → a < r → clause (negated a ∷ negated b ∷ stated r ∷ []) ≡ (negated a ∷ stated r ∷ []) ∷ []
negated_twice a b r le ge lt =
    let same : a ≡ b = omega arith in
    subst (λ (x : ℕ). clause (negated a ∷ negated x ∷ stated r ∷ []) ≡ (negated a ∷ stated r ∷ []) ∷ []) same (clause_twice (negated a) (stated r) (rw variable_negated lt))

pub stated_twice : (a b r : ℕ) → a ≤ b → b ≤ a → a < r → clause (stated a ∷ stated b ∷ negated r ∷ []) ≡ (stated a ∷ negated r ∷ []) ∷ []
stated_twice a b r le ge lt =
    let same : a ≡ b = omega arith in
    subst (λ (x : ℕ). clause (stated a ∷ stated x ∷ negated r ∷ []) ≡ (stated a ∷ negated r ∷ []) ∷ []) same (clause_twice (stated a) (negated r) (rw variable_negated lt))

pub ruleset written = (variable_negated, clause_one, clause_two, clause_three, clause_turned, negated_twice, stated_twice)
