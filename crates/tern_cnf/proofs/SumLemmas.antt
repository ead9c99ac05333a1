-- Serves specs/Rails.antt: an assignment meets the clauses of a sum where the rail is worth what its products are.
use Rattle.std.proofs.Common.{◌≡◌, ℕ, zero, suc, ◌<◌, inl, inr, Bool, true, false, ◌&&◌, ◌||◌, List, [], ◌∷◌, ◌++◌, refl, sym, ◌∙◌, arith, ℤ}
use Rattle.std.specs.Prelude.{map}
use Rattle.std.specs.List.{AllByRecursion, flat_map, list_all, list_any}
use Rattle.std.proofs.lemmas.Bool.{and_parts}
use Rattle.std.proofs.lemmas.List.Folds.{list_all-append}
use Rattle.sat_chain.specs.Clause.{variable, is_positive, Meets, MeetsAll}
use Rattle.tern_cnf.specs.Written.{stated, negated, clause}
use Rattle.tern_cnf.specs.Rails.{implied_by, implying, led_by, choices, is_sum, is_difference}
use Rattle.tern_cnf.specs.Sums.{AreVariables}
use Rattle.tern_cnf.proofs.MeetsLemmas.{clause_to, clause_from}

pub negated_to : (a : ℕ → Bool) (v : ℕ) → 0 < v → a (variable (negated v)) ≡ is_positive (negated v) → a v ≡ false
negated_to a zero lt h = absurd (omega arith)
negated_to a (suc v) lt h = h

pub negated_from : (a : ℕ → Bool) (v : ℕ) → 0 < v → a v ≡ false → a (variable (negated v)) ≡ is_positive (negated v)
negated_from a zero lt h = absurd (omega arith)
negated_from a (suc v) lt h = h

and_right_true : (x y : Bool) → (x && y) ≡ true → y ≡ true
and_right_true true y h = h
and_right_true false y h = cc

or_more : (x y : Bool) → y ≡ true → (x || y) ≡ true
or_more true y h = refl
or_more false y h = h

-- a clause of negated rails and a stated one
implied_to : (a : ℕ → Bool) (r : ℕ) (p : List ℕ) → AreVariables p → Meets a (map negated p ++ stated r ∷ []) → list_all a p ≡ true → a r ≡ true
implied_to a r [] vs (inl here) all = here
implied_to a r [] vs (inr none) all = absurd none
implied_to a r (v ∷ p) vs (inl here) all = let off : a v ≡ false = negated_to a v vs.0 here in let on : (a v && list_all a p) ≡ false = rw off refl in cc
implied_to a r (v ∷ p) vs (inr rest) all = implied_to a r p vs.1 rest (and_right_true (a v) (list_all a p) all)

implied_from : (a : ℕ → Bool) (r : ℕ) (p : List ℕ) → AreVariables p → (list_all a p ≡ true → a r ≡ true) → Meets a (map negated p ++ stated r ∷ [])
implied_from a r [] vs h = inl (h refl)
implied_from a r (v ∷ p) vs h =
    elim (a v) as (λ b. a v ≡ b → Meets a (map negated (v ∷ p) ++ stated r ∷ [])) [
      | true ↦ λ on. inr (implied_from a r p vs.1 (λ all. h (rw on all)))
      | false ↦ λ off. inl (negated_from a v vs.0 off)
    ] refl

-- a clause of stated rails and a negated one
implying_to : (a : ℕ → Bool) (r : ℕ) (c : List ℕ) → 0 < r → Meets a (map stated c ++ negated r ∷ []) → a r ≡ true → list_any a c ≡ true
implying_to a r [] lt (inl here) on = let off : a r ≡ false = negated_to a r lt here in cc
implying_to a r [] lt (inr none) on = absurd none
implying_to a r (v ∷ c) lt (inl here) on = rw here refl
implying_to a r (v ∷ c) lt (inr rest) on = or_more (a v) (list_any a c) (implying_to a r c lt rest on)

implying_from : (a : ℕ → Bool) (r : ℕ) (c : List ℕ) → 0 < r → (a r ≡ true → list_any a c ≡ true) → Meets a (map stated c ++ negated r ∷ [])
implying_from a r [] lt h =
    elim (a r) as (λ b. a r ≡ b → Meets a (negated r ∷ [])) [ true ↦ λ on. absurd (let no : false ≡ true = h on in cc) | false ↦ λ off. inl (negated_from a r lt off) ] refl
implying_from a r (v ∷ c) lt h =
    elim (a v) as (λ b. a v ≡ b → Meets a (map stated (v ∷ c) ++ negated r ∷ [])) [
      | true ↦ λ on. inl on
      | false ↦ λ off. inr (implying_from a r c lt (λ on. rw off at (h on)))
    ] refl

pub met_append : (a : ℕ → Bool) (xs ys : List (List ℤ)) → MeetsAll a xs → MeetsAll a ys → MeetsAll a (xs ++ ys)
met_append a [] ys h k = k
met_append a (x ∷ xs) ys h k = (h.0, met_append a xs ys h.1 k)

pub met_parts : (a : ℕ → Bool) (xs ys : List (List ℤ)) → MeetsAll a (xs ++ ys) → MeetsAll a xs × MeetsAll a ys
met_parts a [] ys h = (tt, h)
met_parts a (x ∷ xs) ys h = let r = met_parts a xs ys h.1 in ((h.0, r.0), r.1)

abbrev pub AreProducts : List (List ℕ) → Type 0
AreProducts ps = AllByRecursion AreVariables ps

pub implied_by_to : (a : ℕ → Bool) (r : ℕ) (ps : List (List ℕ)) → AreProducts ps → MeetsAll a (implied_by r ps) → list_any (list_all a) ps ≡ true → a r ≡ true
unfolding implied_by
implied_by_to a r [] vs h some = cc
implied_by_to a r (p ∷ ps) vs h some =
    let parts = met_parts a (clause (map negated p ++ stated r ∷ [])) (flat_map (λ q. clause (map negated q ++ stated r ∷ [])) ps) h in
    elim (list_all a p) as (λ b. list_all a p ≡ b → (b || list_any (list_all a) ps) ≡ true → a r ≡ true) [
      | true ↦ λ all _. implied_to a r p vs.0 (clause_to a (map negated p ++ stated r ∷ []) parts.0) all
      | false ↦ λ _ rest. implied_by_to a r ps vs.1 parts.1 rest
    ] refl some

pub implied_by_from : (a : ℕ → Bool) (r : ℕ) (ps : List (List ℕ)) → AreProducts ps → (list_any (list_all a) ps ≡ true → a r ≡ true) → MeetsAll a (implied_by r ps)
unfolding implied_by
implied_by_from a r [] vs h = tt
implied_by_from a r (p ∷ ps) vs h =
    met_append a (clause (map negated p ++ stated r ∷ [])) (flat_map (λ q. clause (map negated q ++ stated r ∷ [])) ps)
    (clause_from a (map negated p ++ stated r ∷ []) (implied_from a r p vs.0 (λ all. h (rw all refl)))) (implied_by_from a r ps vs.1 (λ some. h (or_more (list_all a p) (list_any (list_all a) ps) some)))

pub implying_all_to : (a : ℕ → Bool) (r : ℕ) (cs : List (List ℕ)) → 0 < r → MeetsAll a (implying r cs) → a r ≡ true → list_all (list_any a) cs ≡ true
unfolding implying
implying_all_to a r [] lt h on = refl
implying_all_to a r (c ∷ cs) lt h on =
    let parts = met_parts a (clause (map stated c ++ negated r ∷ [])) (flat_map (λ d. clause (map stated d ++ negated r ∷ [])) cs) h in
    rw (implying_to a r c lt (clause_to a (map stated c ++ negated r ∷ []) parts.0) on) (implying_all_to a r cs lt parts.1 on)

pub implying_all_from : (a : ℕ → Bool) (r : ℕ) (cs : List (List ℕ)) → 0 < r → (a r ≡ true → list_all (list_any a) cs ≡ true) → MeetsAll a (implying r cs)
unfolding implying
implying_all_from a r [] lt h = tt
implying_all_from a r (c ∷ cs) lt h =
    met_append a (clause (map stated c ++ negated r ∷ [])) (flat_map (λ d. clause (map stated d ++ negated r ∷ [])) cs)
    (clause_from a (map stated c ++ negated r ∷ []) (implying_from a r c lt (λ on. (and_parts (list_any a c) (list_all (list_any a) cs) (h on)).0)))
    (implying_all_from a r cs lt (λ on. (and_parts (list_any a c) (list_all (list_any a) cs) (h on)).1))

or_and : (x y z : Bool) → ((x || y) && (x || z)) ≡ (x || (y && z))
or_and true y z = refl
or_and false y z = refl

and_or : (x y z : Bool) → ((x || z) && (y || z)) ≡ ((x && y) || z)
and_or true y true = refl
and_or true true false = refl
and_or true false false = refl
and_or false true true = refl
and_or false false true = refl
and_or false y false = refl

or_true : (x : Bool) → (x || true) ≡ true
or_true true = refl
or_true false = refl

led_by_is : (a : ℕ → Bool) (r : ℕ) (cs : List (List ℕ)) → list_all (list_any a) (led_by r cs) ≡ (a r || list_all (list_any a) cs)
led_by_is a r [] = sym (or_true (a r))
led_by_is a r (c ∷ cs) = rw (led_by_is a r cs) (or_and (a r) (list_any a c) (list_all (list_any a) cs))

led_each : (a : ℕ → Bool) (p : List ℕ) (cs : List (List ℕ)) → list_all (list_any a) (flat_map (λ r. led_by r cs) p) ≡ (list_all a p || list_all (list_any a) cs)
led_each a [] cs = refl
led_each a (r ∷ p) cs =
    list_all-append (list_any a) (led_by r cs) (flat_map (λ q. led_by q cs) p) ∙ rw (led_by_is a r cs, led_each a p cs) (and_or (a r) (list_all a p) (list_all (list_any a) cs))

-- each choice has a true factor where some product has true factors alone
choices_is : (a : ℕ → Bool) (ps : List (List ℕ)) → list_all (list_any a) (choices ps) ≡ list_any (list_all a) ps
unfolding choices
choices_is a [] = refl
choices_is a (p ∷ ps) = led_each a p (choices ps) ∙ rw (choices_is a ps) refl

same_truth : (x y : Bool) → (x ≡ true → y ≡ true) → (y ≡ true → x ≡ true) → y ≡ x
same_truth true y h k = h refl
same_truth false true h k = sym (k refl)
same_truth false false h k = refl

-- the clauses of a sum are met where the rail is worth the sum
pub sum_to : (a : ℕ → Bool) (r : ℕ) (ps : List (List ℕ)) → 0 < r → AreProducts ps → MeetsAll a (is_sum r ps) → a r ≡ list_any (list_all a) ps
sum_to a r ps lt vs h =
    let parts = met_parts a (implied_by r ps) (implying r (choices ps)) h in
    same_truth (list_any (list_all a) ps) (a r) (implied_by_to a r ps vs parts.0) (λ on. sym (choices_is a ps) ∙ implying_all_to a r (choices ps) lt parts.1 on)

pub sum_from : (a : ℕ → Bool) (r : ℕ) (ps : List (List ℕ)) → 0 < r → AreProducts ps → a r ≡ list_any (list_all a) ps → MeetsAll a (is_sum r ps)
sum_from a r ps lt vs is =
    met_append a (implied_by r ps) (implying r (choices ps)) (implied_by_from a r ps vs (λ some. is ∙ some)) (implying_all_from a r (choices ps) lt (λ on. choices_is a ps ∙ sym is ∙ on))

-- those of a difference, where its products and its choices agree
pub difference_to : (a : ℕ → Bool) (r x x' y y' : ℕ) (v : Bool) → 0 < r → AreVariables (x ∷ x' ∷ y ∷ y' ∷ []) → list_any (list_all a) ((x ∷ y' ∷ []) ∷ (x' ∷ y ∷ []) ∷ []) ≡ v
    → list_all (list_any a) ((x ∷ y ∷ []) ∷ (x' ∷ y' ∷ []) ∷ []) ≡ v → MeetsAll a (is_difference r x x' y y') → a r ≡ v
difference_to a r x x' y y' v lt vs some each h =
    let ps = (x ∷ y' ∷ []) ∷ (x' ∷ y ∷ []) ∷ [] in
    let cs = (x ∷ y ∷ []) ∷ (x' ∷ y' ∷ []) ∷ [] in
    let parts = met_parts a (implied_by r ps) (implying r cs) h in
    same_truth v (a r) (λ on. implied_by_to a r ps ((vs.0, (vs.1.1.1.0, tt)), ((vs.1.0, (vs.1.1.0, tt)), tt)) parts.0 (some ∙ on)) (λ on. sym each ∙ implying_all_to a r cs lt parts.1 on)

pub difference_from : (a : ℕ → Bool) (r x x' y y' : ℕ) (v : Bool) → 0 < r → AreVariables (x ∷ x' ∷ y ∷ y' ∷ []) → list_any (list_all a) ((x ∷ y' ∷ []) ∷ (x' ∷ y ∷ []) ∷ []) ≡ v
    → list_all (list_any a) ((x ∷ y ∷ []) ∷ (x' ∷ y' ∷ []) ∷ []) ≡ v → a r ≡ v → MeetsAll a (is_difference r x x' y y')
difference_from a r x x' y y' v lt vs some each is =
    let ps = (x ∷ y' ∷ []) ∷ (x' ∷ y ∷ []) ∷ [] in
    let cs = (x ∷ y ∷ []) ∷ (x' ∷ y' ∷ []) ∷ [] in
    met_append a (implied_by r ps) (implying r cs) (implied_by_from a r ps ((vs.0, (vs.1.1.1.0, tt)), ((vs.1.0, (vs.1.1.0, tt)), tt)) (λ on. is ∙ sym some ∙ on)) (implying_all_from a r cs lt (λ on. each ∙ sym is ∙ on))
