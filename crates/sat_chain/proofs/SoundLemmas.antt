-- Serves specs/Refutes.antt: what meets the given clauses meets each derived one.
use Rattle.std.proofs.Common.{◌≡◌, ℕ, ◌-◌, ◌<◌, ◌≤◌, ◌⊎◌, inl, inr, Bool, true, false, nat_eq, cond, List, [], ◌∷◌, ◌++◌, length, refl, sym, ap, ◌∙◌, Option, Some, None, arith, ℤ, eq-eqb}
use Rattle.std.specs.List.{AllByRecursion}
use Rattle.std.specs.Option.{option_and_then, IsSomeAnd}
use Rattle.std.proofs.lemmas.List.Elements.{All-from_recursion}
use Rattle.std.proofs.lemmas.Bool.Decides.{nat_tests}
use Rattle.std.proofs.lemmas.Option.{same_Some}
use Rattle.sat_chain.specs.Clause.{variable, is_positive, ascends_above, AreClauses, Meets, MeetsAll}
use Rattle.sat_chain.specs.Resolvent.{Union, sign_in, differs, opposites, either, resolved, resolved_at, resolvent, clause, reached, union_of}
use Rattle.sat_chain.specs.Refutes.{Follows, HasNoModel}
use Rattle.sat_chain.specs.Answer.{all_known, IsResult}
use Rattle.sat_chain.proofs.StepLemmas.{among, among_opposites, opposite_at, absent, above}
use Rattle.sat_chain.proofs.ChainLemmas.{known_within, known_others, clause_is}

-- an assignment makes a variable's sign in the union true
record Met (a : ℕ → Bool) (u : Union) : Type 0 where
  at : ℕ
  sign : u at ≡ Some (a at)

met_later : (a : ℕ → Bool) (l : ℤ) (ls : List ℤ) (x : ℕ) → sign_in ls x ≡ Some (a x) → (x ≤ variable l → sign_in ls x ≡ None) → (b : Bool) → nat_eq (variable l) x ≡ b → sign_in (l ∷ ls) x ≡ Some (a x)
met_later a l ls x h none true e =
    let same : variable l ≡ x = grind (arith, nat_tests) in
    let gone : sign_in ls x ≡ None = none (omega arith) in
    cc
met_later a l ls x h none false e = rw e h

-- a clause that is met is met as a union
met_clause : (a : ℕ → Bool) (v : ℕ) (c : List ℤ) → ascends_above v c ≡ true → Meets a c → Met a (sign_in c)
met_clause a v [] h m = absurd m
met_clause a v (l ∷ ls) h (inl is) = record { at = variable l; sign = rw (eq-eqb (variable l) (variable l) refl) (ap (λ (b : Bool). Some b) (sym is)) }
met_clause a v (l ∷ ls) h (inr m) =
    let t = above v l ls h in
    let w = met_clause a (variable l) ls t.rest m in
    record { at = w.at; sign = met_later a l ls w.at w.sign (λ le. absent (variable l) ls w.at t.rest le) (nat_eq (variable l) w.at) refl }

met_head : (a : ℕ → Bool) (l : ℤ) (ls : List ℤ) (x : ℕ) → (sign_in ls x ≡ Some (a x) → Meets a ls) → (b : Bool) → nat_eq (variable l) x ≡ b → cond b (Some (is_positive l)) (sign_in ls x) ≡ Some (a x)
    → (a (variable l) ≡ is_positive l) ⊎ Meets a ls
met_head a l ls x later true e h =
    let same : variable l ≡ x = grind (arith, nat_tests) in
    inl (ap a same ∙ sym (same_Some (is_positive l) (a x) h))
met_head a l ls x later false e h = inr (later h)

-- a union that is met and is a clause meets it
met_union : (a : ℕ → Bool) (c : List ℤ) (x : ℕ) → sign_in c x ≡ Some (a x) → Meets a c
met_union a [] x h = cc
met_union a (l ∷ ls) x h = met_head a l ls x (met_union a ls x) (nat_eq (variable l) x) refl h

differs_self : (b : Bool) → differs b b ≡ false
differs_self true = refl
differs_self false = refl

same_sign : (s b : Bool) → differs s b ≡ false → s ≡ b
same_sign true true h = refl
same_sign true false h = cc
same_sign false true h = cc
same_sign false false h = refl

either_met : (s t : Option Bool) (b : Bool) → t ≡ Some b → opposite_at s t ≡ false → either s t ≡ Some b
either_met None t b is h = is
either_met (Some s) t b is h =
    let d : differs s b ≡ false = sym (ap (opposite_at (Some s)) is) ∙ h in
    ap (λ (x : Bool). Some x) (same_sign s b d)

-- the second clause is met at another variable than the pivot
met_second : (a : ℕ → Bool) (u : Union) (c : List ℤ) (p : ℕ) → ascends_above 0 c ≡ true → opposites u c ≡ p ∷ [] → u p ≡ Some (a p) → (y : ℕ) → sign_in c y ≡ Some (a y) → (b : Bool) → nat_eq y p ≡ b → resolved u c p y ≡ Some (a y)
met_second a u c p h one here y there true e =
    let same : y ≡ p = grind (arith, nat_tests) in
    let pp : nat_eq p y ≡ true = eq-eqb p y (sym same) in
    let op : true ≡ opposite_at (u y) (sign_in c y) = sym (rw pp refl) ∙ ap (among y) (sym one) ∙ among_opposites 0 u c y h in
    let uy : u y ≡ Some (a y) = ap u same ∙ here ∙ ap (λ z. Some (a z)) (sym same) in
    let not : true ≡ false = op ∙ rw (uy, there) (differs_self (a y)) in
    cc
met_second a u c p h one here y there false e =
    let pp : nat_eq p y ≡ false = grind (arith, nat_tests) in
    let op : opposite_at (u y) (sign_in c y) ≡ false = sym (among_opposites 0 u c y h) ∙ ap (among y) one ∙ rw pp refl in
    rw e (either_met (u y) (sign_in c y) (a y) there op)

met_first : (a : ℕ → Bool) (u : Union) (c : List ℤ) (p : ℕ) → ascends_above 0 c ≡ true → opposites u c ≡ p ∷ [] → Met a (sign_in c) → (x : ℕ) → u x ≡ Some (a x) → (b : Bool) → nat_eq x p ≡ b → Met a (resolved u c p)
met_first a u c p h one m x here true e =
    let same : x ≡ p = grind (arith, nat_tests) in
    let up : u p ≡ Some (a p) = ap u (sym same) ∙ here ∙ ap (λ z. Some (a z)) same in
    record { at = m.at; sign = met_second a u c p h one up m.at m.sign (nat_eq m.at p) refl }
met_first a u c p h one m x here false e = record { at = x; sign = rw (e, here) refl }

some_union : (u w : Union) → ◌≡◌ {A = Option Union} (Some u) (Some w) → u ≡ w
some_union u w e = same_Some u w e

resolved_met : (a : ℕ → Bool) (u w : Union) (c : List ℤ) → ascends_above 0 c ≡ true → Met a u → Met a (sign_in c) → (ps : List ℕ) → opposites u c ≡ ps → resolved_at u c ps ≡ Some w → Met a w
resolved_met a u w c h m n [] e is = cc
resolved_met a u w c h m n (p ∷ []) e is =
    let r = met_first a u c p h e n m.at m.sign (nat_eq m.at p) refl in
    record { at = r.at; sign = sym (ap (λ (v : Union). v r.at) (some_union (resolved u c p) w is)) ∙ r.sign }
resolved_met a u w c h m n (p ∷ q ∷ ps) e is = cc

clause_met : (a : ℕ → Bool) (cs : List (List ℤ)) (n : ℕ) → MeetsAll a cs → 0 < n → n ≤ length cs → Meets a (clause cs n)
clause_met a cs n h some le = All-from_recursion (Meets a) cs h (n - 1) [] (omega arith)

step_met : (a : ℕ → Bool) (v : ℕ) (cs : List (List ℤ)) (u w : Union) (n : ℕ) → AreClauses v cs → MeetsAll a cs → 0 < n → n ≤ length cs → Met a u → resolvent u (clause cs n) ≡ Some w → Met a w
step_met a v cs u w n all meets some le m is =
    let asc = (clause_is v cs n all some le).0 in
    resolved_met a u w (clause cs n) asc m (met_clause a 0 (clause cs n) asc (clause_met a cs n meets some le)) (opposites u (clause cs n)) refl is

reached_met : (a : ℕ → Bool) (v : ℕ) (cs : List (List ℤ)) (ns : List ℕ) (u w : Union) → AreClauses v cs → MeetsAll a cs → all_known cs ns ≡ true → Met a u → reached cs u ns ≡ Some w → Met a w
unfolding reached
reached_met a v cs [] u w all meets known m is = record { at = m.at; sign = sym (ap (λ (r : Union). r m.at) (some_union u w is)) ∙ m.sign }
reached_met a v cs (n ∷ ns) u w all meets known m is =
    let here = known_within cs (n ∷ ns) 0 known (omega arith) in
    elim (resolvent u (clause cs n)) as (λ o. resolvent u (clause cs n) ≡ o → option_and_then (λ r. reached cs r ns) o ≡ Some w → Met a w) [
      | None ↦ λ e k. cc
      | Some r ↦ λ e k. reached_met a v cs ns r w all meets (known_others cs (n ∷ ns) known) (step_met a v cs u r n all meets here.0 here.1 m e) k
    ] refl is

union_met : (a : ℕ → Bool) (v : ℕ) (cs : List (List ℤ)) (ns : List ℕ) (w : Union) → AreClauses v cs → MeetsAll a cs → all_known cs ns ≡ true → union_of cs ns ≡ Some w → Met a w
union_met a v cs [] w all meets known is = cc
union_met a v cs (n ∷ ns) w all meets known is =
    let here = known_within cs (n ∷ ns) 0 known (omega arith) in
    let asc = (clause_is v cs n all here.0 here.1).0 in
    reached_met a v cs ns (sign_in (clause cs n)) w all meets (known_others cs (n ∷ ns) known) (met_clause a 0 (clause cs n) asc (clause_met a cs n meets here.0 here.1)) is

result_met : (a : ℕ → Bool) (v : ℕ) (cs : List (List ℤ)) (ns : List ℕ) (ls : List ℤ) → AreClauses v cs → MeetsAll a cs → all_known cs ns ≡ true
    → (o : Option Union) → union_of cs ns ≡ o → IsSomeAnd o (IsResult ls) → Meets a ls
result_met a v cs ns ls all meets known None e h = absurd h
result_met a v cs ns ls all meets known (Some w) e h =
    let m = union_met a v cs ns w all meets known e in
    met_union a ls m.at (sym (h.1 m.at) ∙ m.sign)

-- a clause that passes is met wherever the clauses before it are
pub derived_met : (v : ℕ) (cs : List (List ℤ)) (ns : List ℕ) (ls : List ℤ) → AreClauses v cs → all_known cs ns ≡ true → IsSomeAnd (union_of cs ns) (IsResult ls)
    → (a : ℕ → Bool) → MeetsAll a cs → Meets a ls
derived_met v cs ns ls all known h a meets = result_met a v cs ns ls all meets known (union_of cs ns) refl h

pub by_push : {X : Type 0} (P : X → Type 0) (xs : List X) (x : X) → AllByRecursion P xs → P x → AllByRecursion P (xs ++ x ∷ [])
by_push P [] x h p = (p, h)
by_push P (y ∷ xs) x h p = (h.0, by_push P xs x h.1 p)

by_front : {X : Type 0} (P : X → Type 0) (xs : List X) (x : X) → AllByRecursion P (xs ++ x ∷ []) → AllByRecursion P xs × P x
by_front P [] x h = (h.1, h.0)
by_front P (y ∷ xs) x h = let r = by_front P xs x h.1 in ((h.0, r.0), r.1)

-- a given clause more
pub follows_given : (given cs : List (List ℤ)) (ls : List ℤ) → Follows given cs → Follows (given ++ ls ∷ []) (cs ++ ls ∷ [])
follows_given given cs ls h a meets = let r = by_front (Meets a) given ls meets in by_push (Meets a) cs ls (h a r.0) r.1

-- a derived clause more
pub follows_derived : (given cs : List (List ℤ)) (ls : List ℤ) → Follows given cs → ((a : ℕ → Bool) → MeetsAll a cs → Meets a ls) → Follows given (cs ++ ls ∷ [])
follows_derived given cs ls h derives a meets = by_push (Meets a) cs ls (h a meets) (derives a (h a meets))

-- after the empty clause the given ones have no model
pub no_model : (given cs : List (List ℤ)) → Follows given (cs ++ [] ∷ []) → HasNoModel given
no_model given cs h a meets = (by_front (Meets a) cs [] (h a meets)).1
