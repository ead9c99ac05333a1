-- Serves specs/States.antt: what an assignment has to do to meet the clauses of a sum.
use Rattle.std.proofs.Common.{◌≡◌, ℕ, ◌⊎◌, inl, inr, Bool, true, false, nat_eq, cond, List, [], ◌∷◌, refl, sym, ap, ◌∙◌, Option, Some, None, ℤ}
use Rattle.std.specs.Option.{option_map, option_and_then}
use Rattle.std.proofs.lemmas.Bool.{eqb-true}
use Rattle.sat_chain.specs.Clause.{variable, is_positive, Meets, MeetsAll}
use Rattle.sat_chain.specs.Resolvent.{differs}
use Rattle.tern_cnf.specs.Written.{in_front, put, ascending, listed, clause}

-- the literal is true
abbrev IsMet : (ℕ → Bool) → ℤ → Type 0
IsMet a l = a (variable l) ≡ is_positive l

-- the clause, if there is one, is met
abbrev MeetsIf : (ℕ → Bool) → Option (List ℤ) → Type 0
MeetsIf a None = Unit {0}
MeetsIf a (Some c) = Meets a c

-- one of two signs that differ is the value
one_of_two : (v s t : Bool) → differs s t ≡ true → (v ≡ s) ⊎ (v ≡ t)
one_of_two true true t h = inl refl
one_of_two true false true h = inr refl
one_of_two true false false h = absurd (cc)
one_of_two false false t h = inl refl
one_of_two false true false h = inr refl
one_of_two false true true h = absurd (cc)

same_signs : (s t : Bool) → differs s t ≡ false → s ≡ t
same_signs true true h = refl
same_signs true false h = cc
same_signs false true h = cc
same_signs false false h = refl

-- what is put in front of a literal is met where one of the two or the rest is
front_to : (a : ℕ → Bool) (l m : ℤ) (ms : List ℤ) (o : Option (List ℤ)) → (MeetsIf a o → IsMet a l ⊎ Meets a ms) → MeetsIf a (option_map (in_front m) o) → IsMet a l ⊎ (IsMet a m ⊎ Meets a ms)
front_to a l m ms None more h = elim (more tt) [ inl here ↦ inl here | inr rest ↦ inr (inr rest) ]
front_to a l m ms (Some c) more (inl here) = inr (inl here)
front_to a l m ms (Some c) more (inr rest) = elim (more rest) [ inl here ↦ inl here | inr others ↦ inr (inr others) ]

front_from : (a : ℕ → Bool) (l m : ℤ) (ms : List ℤ) (o : Option (List ℤ)) → (IsMet a l ⊎ Meets a ms → MeetsIf a o) → IsMet a l ⊎ (IsMet a m ⊎ Meets a ms) → MeetsIf a (option_map (in_front m) o)
front_from a l m ms None more h = tt
front_from a l m ms (Some c) more (inl here) = inr (more (inl here))
front_from a l m ms (Some c) more (inr (inl there)) = inl there
front_from a l m ms (Some c) more (inr (inr rest)) = inr (more (inr rest))

put_to_cases : (a : ℕ → Bool) (l m : ℤ) (ms : List ℤ) (o : Option (List ℤ)) (lower same differ : Bool) → nat_eq (variable l) (variable m) ≡ same → differs (is_positive l) (is_positive m) ≡ differ
    → (MeetsIf a o → IsMet a l ⊎ Meets a ms) → MeetsIf a (cond lower (Some (l ∷ m ∷ ms)) (cond same (cond differ None (Some (m ∷ ms))) (option_map (in_front m) o))) → IsMet a l ⊎ (IsMet a m ⊎ Meets a ms)
put_to_cases a l m ms o true same differ e d more h = h
put_to_cases a l m ms o false true true e d more h =
    let v : variable l ≡ variable m = eqb-true (variable l) (variable m) e in
    elim (one_of_two (a (variable l)) (is_positive l) (is_positive m) d) [ inl here ↦ inl here | inr there ↦ inr (inl (ap a (sym v) ∙ there)) ]
put_to_cases a l m ms o false true false e d more h = inr h
put_to_cases a l m ms o false false differ e d more h = front_to a l m ms o more h

put_to : (a : ℕ → Bool) (l : ℤ) (ms : List ℤ) → MeetsIf a (put l ms) → IsMet a l ⊎ Meets a ms
unfolding put
put_to a l [] h = h
put_to a l (m ∷ ms) h = put_to_cases a l m ms (put l ms) _ _ _ refl refl (put_to a l ms) h

put_from_cases : (a : ℕ → Bool) (l m : ℤ) (ms : List ℤ) (o : Option (List ℤ)) (lower same differ : Bool) → nat_eq (variable l) (variable m) ≡ same → differs (is_positive l) (is_positive m) ≡ differ
    → (IsMet a l ⊎ Meets a ms → MeetsIf a o) → IsMet a l ⊎ (IsMet a m ⊎ Meets a ms) → MeetsIf a (cond lower (Some (l ∷ m ∷ ms)) (cond same (cond differ None (Some (m ∷ ms))) (option_map (in_front m) o)))
put_from_cases a l m ms o true same differ e d more h = h
put_from_cases a l m ms o false true true e d more h = tt
put_from_cases a l m ms o false true false e d more (inl here) = inl (ap a (sym (eqb-true (variable l) (variable m) e)) ∙ here ∙ same_signs (is_positive l) (is_positive m) d)
put_from_cases a l m ms o false true false e d more (inr rest) = rest
put_from_cases a l m ms o false false differ e d more h = front_from a l m ms o more h

put_from : (a : ℕ → Bool) (l : ℤ) (ms : List ℤ) → IsMet a l ⊎ Meets a ms → MeetsIf a (put l ms)
unfolding put
put_from a l [] h = h
put_from a l (m ∷ ms) h = put_from_cases a l m ms (put l ms) _ _ _ refl refl (put_from a l ms) h

put_each_to : (a : ℕ → Bool) (l : ℤ) (ls : List ℤ) (o : Option (List ℤ)) → (MeetsIf a o → Meets a ls) → MeetsIf a (option_and_then (put l) o) → IsMet a l ⊎ Meets a ls
put_each_to a l ls None more h = inr (more tt)
put_each_to a l ls (Some c) more h = elim (put_to a l c h) [ inl here ↦ inl here | inr rest ↦ inr (more rest) ]

put_each_from : (a : ℕ → Bool) (l : ℤ) (ls : List ℤ) (o : Option (List ℤ)) → (Meets a ls → MeetsIf a o) → IsMet a l ⊎ Meets a ls → MeetsIf a (option_and_then (put l) o)
put_each_from a l ls None more h = tt
put_each_from a l ls (Some c) more (inl here) = put_from a l c (inl here)
put_each_from a l ls (Some c) more (inr rest) = put_from a l c (inr (more rest))

ascending_to : (a : ℕ → Bool) (ls : List ℤ) → MeetsIf a (ascending ls) → Meets a ls
unfolding ascending
ascending_to a [] h = h
ascending_to a (l ∷ ls) h = put_each_to a l ls (ascending ls) (ascending_to a ls) h

ascending_from : (a : ℕ → Bool) (ls : List ℤ) → Meets a ls → MeetsIf a (ascending ls)
unfolding ascending
ascending_from a [] h = h
ascending_from a (l ∷ ls) h = put_each_from a l ls (ascending ls) (ascending_from a ls) h

listed_to : (a : ℕ → Bool) (o : Option (List ℤ)) → MeetsAll a (listed o) → MeetsIf a o
listed_to a None h = h
listed_to a (Some c) h = h.0

listed_from : (a : ℕ → Bool) (o : Option (List ℤ)) → MeetsIf a o → MeetsAll a (listed o)
listed_from a None h = h
listed_from a (Some c) h = (h, tt)

-- the clause of literals is met where one of them is true
pub clause_to : (a : ℕ → Bool) (ls : List ℤ) → MeetsAll a (clause ls) → Meets a ls
unfolding clause
clause_to a ls h = ascending_to a ls (listed_to a (ascending ls) h)

pub clause_from : (a : ℕ → Bool) (ls : List ℤ) → Meets a ls → MeetsAll a (clause ls)
unfolding clause
clause_from a ls h = listed_from a (ascending ls) (ascending_from a ls h)
