-- Serves specs/Store.antt: the clause at a place, and one clause more.
use Rattle.std.proofs.Common.{◌≡◌, ℕ, zero, suc, ◌+◌, ◌-◌, ◌<◌, ◌≤◌, Bool, true, false, List, [], ◌∷◌, ◌++◌, length, get_or, take, drop, refl, ap, ◌∙◌, arith, ℤ, length-append}
use Rattle.std.specs.Prelude.{slice_range}
use Rattle.std.proofs.lemmas.Grind.{common_steps}
use Rattle.std.proofs.lemmas.List.{drop-take}
use native.Mathlib.Numerals.{unary_clauses}
use Rattle.sat_chain.specs.Resolvent.{clause}
use Rattle.sat_chain.specs.Store.{cut, cut_from, AscendTo, IsCut, marked}

length-cut_from : (s : ℕ) (es : List ℕ) (lits : List ℤ) → length (cut_from s es lits) ≡ length es
unfolding cut_from
length-cut_from s [] lits = refl
length-cut_from s (e ∷ es) lits = omega (arith, length-cut_from e es lits)

pub length-cut : (end : ℕ) (bs : List ℕ) (lits : List ℤ) → IsCut end bs → length (cut bs lits) + 1 ≡ length bs
unfolding cut IsCut
length-cut end [] lits h = absurd h
length-cut end (s ∷ es) lits h = omega (arith, length-cut_from s es lits)

ascend_within : (end s : ℕ) (es : List ℕ) (k : ℕ) → AscendTo end s es → k < length es → (get_or (s ∷ es) k 0 ≤ get_or es k 0) × (get_or es k 0 ≤ end)
unfolding AscendTo
ascend_within end s [] k h lt = absurd (omega arith)
ascend_within end s (e ∷ []) zero h lt = (h.0, omega (arith, h.1))
ascend_within end s (e ∷ f ∷ es) zero h lt = let next = ascend_within end e (f ∷ es) zero h.1 (omega arith) in (h.0, omega (arith, next.0, next.1))
ascend_within end s (e ∷ es) (suc k) h lt = ascend_within end e es k h.1 (omega arith)

-- the places of clause n lie in the literals
pub cut_within : (end : ℕ) (bs : List ℕ) (n : ℕ) → IsCut end bs → 0 < n → n < length bs → (get_or bs (n - 1) 0 ≤ get_or bs n 0) × (get_or bs n 0 ≤ end)
unfolding IsCut
cut_within end [] n h some lt = absurd h
cut_within end (s ∷ es) zero h some lt = absurd (omega arith)
cut_within end (s ∷ es) (suc n) h some lt = simp unary_clauses (ascend_within end s es n h.1 (omega arith))

cut_from_at : (s : ℕ) (es : List ℕ) (lits : List ℤ) (k : ℕ) → k < length es → get_or (cut_from s es lits) k [] ≡ slice_range lits (get_or (s ∷ es) k 0) (get_or es k 0)
unfolding cut_from
cut_from_at s [] lits k lt = absurd (omega arith)
cut_from_at s (e ∷ es) lits zero lt = refl
cut_from_at s (e ∷ es) lits (suc k) lt = cut_from_at e es lits k (omega arith)

pub cut_at : (end : ℕ) (bs : List ℕ) (lits : List ℤ) (n : ℕ) → IsCut end bs → 0 < n → n < length bs → clause (cut bs lits) n ≡ slice_range lits (get_or bs (n - 1) 0) (get_or bs n 0)
unfolding cut IsCut
cut_at end [] lits n h some lt = absurd h
cut_at end (s ∷ es) lits zero h some lt = absurd (omega arith)
cut_at end (s ∷ es) lits (suc n) h some lt = simp unary_clauses (cut_from_at s es lits n (omega arith))

-- the part of a list between two places
pub parts_range : (a e : ℕ) (lits : List ℤ) → a ≤ e → drop a (take e lits) ≡ slice_range lits a e
parts_range a e lits h = let is : e ≡ a + (e - a) = omega arith in ap (λ k. drop a (take k lits)) is ∙ drop-take a (e - a) lits

pub range_front : (a e : ℕ) (lits more : List ℤ) → a ≤ e → e ≤ length lits → slice_range (lits ++ more) a e ≡ slice_range lits a e
range_front a e lits more h k = grind (arith, common_steps)

cut_from_more : (end s : ℕ) (es : List ℕ) (lits more : List ℤ) → AscendTo end s es → end ≤ length lits → cut_from s es (lits ++ more) ≡ cut_from s es lits
unfolding cut_from AscendTo
cut_from_more end s [] lits more h le = refl
cut_from_more end s (e ∷ es) lits more h le =
    let e-le : e ≤ end = (ascend_within end s (e ∷ es) 0 h (omega arith)).1 in
    rw (range_front s e lits more h.0 (omega arith), cut_from_more end e es lits more h.1 le) refl

pub range_back : (lits more : List ℤ) → slice_range (lits ++ more) (length lits) (length (lits ++ more)) ≡ more
range_back lits more = grind (arith, common_steps)

ascend_push : (end more s : ℕ) (es : List ℕ) → AscendTo end s es → end ≤ more → AscendTo more s (es ++ more ∷ [])
unfolding AscendTo
ascend_push end more s [] h le = (omega (arith, h), refl)
ascend_push end more s (e ∷ es) h le = (h.0, ascend_push end more e es h.1 le)

cut_from_push : (end s : ℕ) (es : List ℕ) (lits : List ℤ) (next : ℕ) → AscendTo end s es → cut_from s (es ++ next ∷ []) lits ≡ cut_from s es lits ++ slice_range lits end next ∷ []
unfolding cut_from AscendTo
cut_from_push end s [] lits next h = ap (λ a. slice_range lits a next ∷ []) h
cut_from_push end s (e ∷ es) lits next h = ap (λ r. slice_range lits s e ∷ r) (cut_from_push end e es lits next h.1)

-- one clause more, at the end
pub cut_push : (bs : List ℕ) (lits more : List ℤ) → IsCut (length lits) bs → cut (bs ++ length (lits ++ more) ∷ []) (lits ++ more) ≡ cut bs lits ++ more ∷ []
unfolding cut IsCut
cut_push [] lits more h = absurd h
cut_push (s ∷ es) lits more h =
    cut_from_push (length lits) s es (lits ++ more) (length (lits ++ more)) h.1
    ∙ rw (range_back lits more, cut_from_more (length lits) s es lits more h.1 (omega arith)) refl

pub is_cut_push : (bs : List ℕ) (lits more : List ℤ) → IsCut (length lits) bs → IsCut (length (lits ++ more)) (bs ++ length (lits ++ more) ∷ [])
unfolding IsCut
is_cut_push [] lits more h = absurd h
is_cut_push (s ∷ es) lits more h = (h.0, ascend_push (length lits) (length (lits ++ more)) s es h.1 (omega (arith, length-append lits more)))

-- a mark more, and a clause more
pub marked_push : (ms : List Bool) (cs : List (List ℤ)) (m : Bool) (c : List ℤ) → length ms ≡ length cs → marked (ms ++ m ∷ []) (cs ++ c ∷ []) ≡ marked ms cs ++ marked (m ∷ []) (c ∷ [])
unfolding marked
marked_push [] [] true c e = refl
marked_push [] [] false c e = refl
marked_push [] (d ∷ cs) m c e = absurd (omega arith)
marked_push (k ∷ ms) [] m c e = absurd (omega arith)
marked_push (true ∷ ms) (d ∷ cs) m c e = ap (λ r. d ∷ r) (marked_push ms cs m c (omega arith))
marked_push (false ∷ ms) (d ∷ cs) m c e = marked_push ms cs m c (omega arith)
