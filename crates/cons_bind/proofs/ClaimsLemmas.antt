-- Claims, one by one.
use Rattle.std.proofs.Common.{◌≡◌, ◌⊎◌, ℕ, zero, suc, ◌+◌, ◌<◌, ◌≤◌, Bool, true, false, List, [], ◌∷◌, ◌++◌, length, take, drop, get_or, set, Contains, refl, sym, ap, subst, ◌∙◌, inl, inr, arith, append_assoc, append-nil}
use Rattle.std.specs.Prelude.{slice_index_or}
use Rattle.std.proofs.lemmas.List.Elements.{Contains-append_left, Contains-append_right, Contains-append_cases}
use Rattle.cons_bind.specs.Marks.{Marks}
use Rattle.cons_bind.specs.Claims.{Repeats}
use Rattle.cons_bind.proofs.MarksLemmas.{marks_more}

-- the first so many claims are marked, and what is left decides whether one is repeated
pub record SoFar (before claims : List ℕ) (i : ℕ) (marks : List Bool) : Type 0 where
  pub marked : Marks (Contains (before ++ take i claims)) marks
  pub to : Repeats before claims → Repeats (before ++ take i claims) (drop i claims)
  pub from : Repeats (before ++ take i claims) (drop i claims) → Repeats before claims

pub so_far_none : (before claims : List ℕ) (marks : List Bool) → Marks (Contains before) marks → SoFar before claims 0 marks
so_far_none before claims marks marked =
    let none : before ++ take 0 claims ≡ before = append-nil before in
    record {
      marked = rw none marked;
      to = λ is. rw none is;
      from = λ is. rw none at is;
    }

pub take_next : (xs : List ℕ) (i : ℕ) → i < length xs → take (i + 1) xs ≡ take i xs ++ (get_or xs i 0 ∷ [])
take_next [] i lt = absurd (omega arith)
take_next (x ∷ xs) zero lt = refl
take_next (x ∷ xs) (suc i) lt =
    let k : suc i + 1 ≡ suc (i + 1) = omega arith in
    rw k (ap (λ (l : List ℕ). x ∷ l) (take_next xs i (omega arith)))

pub drop_next : (xs : List ℕ) (i : ℕ) → i < length xs → drop i xs ≡ get_or xs i 0 ∷ drop (i + 1) xs
drop_next [] i lt = absurd (omega arith)
drop_next (x ∷ xs) zero lt = refl
drop_next (x ∷ xs) (suc i) lt =
    let k : suc i + 1 ≡ suc (i + 1) = omega arith in
    rw k (drop_next xs i (omega arith))

one_member : (n k : ℕ) → Contains (n ∷ []) k → k ≡ n
one_member n k (zero, below, here) = sym here
one_member n k (suc i, below, here) = absurd (omega arith)

-- a further claim, which no earlier one is
pub so_far_more : (before claims : List ℕ) (i : ℕ) (marks : List Bool) → i < length claims → get_or claims i 0 < length marks → slice_index_or marks (get_or claims i 0) false ≡ false → SoFar before claims i marks
    → SoFar before claims (i + 1) (set marks (get_or claims i 0) true)
so_far_more before claims i marks lt inside unmarked so =
    let s = get_or claims i 0 in
    let done : List ℕ = before ++ take i claims in
    let next : before ++ take (i + 1) claims ≡ done ++ (s ∷ []) = ap (λ (l : List ℕ). before ++ l) (take_next claims i lt) ∙ sym (append_assoc before (take i claims) (s ∷ [])) in
    let rest : drop i claims ≡ s ∷ drop (i + 1) claims = drop_next claims i lt in
    let fresh : Contains done s → ⊥ = λ is. let e = sym unmarked ∙ (so.marked.each s).1 is in absurd cc in
    let marked : Marks (Contains (done ++ (s ∷ []))) (set marks s true) =
    marks_more (Contains done) (Contains (done ++ (s ∷ []))) marks s inside
    (λ k is. elim (Contains-append_cases done (s ∷ []) k is) [ inl old ↦ inl old | inr new ↦ inr (one_member s k new) ])
    (λ k is. Contains-append_left done (s ∷ []) k is)
    (Contains-append_right done (s ∷ []) s (0, omega arith, refl))
    so.marked in
    record {
      marked = rw next marked;
      to = λ is. rw next (left done s (drop (i + 1) claims) fresh (rw rest at (so.to is)));
      from = λ is. so.from (rw rest (inr (rw next at is)));
    }
  where
    left : (done : List ℕ) (s : ℕ) (rest : List ℕ) → (Contains done s → ⊥) → Contains done s ⊎ Repeats (done ++ (s ∷ [])) rest → Repeats (done ++ (s ∷ [])) rest
    left done s rest fresh (inl is) = absurd (fresh is)
    left done s rest fresh (inr is) = is

-- a claim that an earlier one is
pub so_far_again : (before claims : List ℕ) (i : ℕ) (marks : List Bool) → i < length claims → slice_index_or marks (get_or claims i 0) false ≡ true → SoFar before claims i marks → Repeats before claims
so_far_again before claims i marks lt marked so =
    so.from (rw (drop_next claims i lt) (inl ((so.marked.each (get_or claims i 0)).0 marked)))

no_claim : (xs : List ℕ) (i : ℕ) → length xs ≤ i → (take i xs ≡ xs) × (drop i xs ≡ [])
no_claim [] zero le = (refl, refl)
no_claim [] (suc i) le = (refl, refl)
no_claim (x ∷ xs) zero le = absurd (omega arith)
no_claim (x ∷ xs) (suc i) le = let rest = no_claim xs i (omega arith) in (ap (λ (l : List ℕ). x ∷ l) rest.0, rest.1)

-- all claims are marked, and none is repeated
pub so_far_all : (before claims : List ℕ) (i : ℕ) (marks : List Bool) → length claims ≤ i → SoFar before claims i marks → (Repeats before claims → ⊥) × Marks (Contains (before ++ claims)) marks
so_far_all before claims i marks le so =
    let ends = no_claim claims i le in
    (λ is. nothing (before ++ take i claims) (rw ends.1 at (so.to is)), subst (λ (l : List ℕ). Marks (Contains (before ++ l)) marks) ends.0 so.marked)
  where
    nothing : (done : List ℕ) → Repeats done [] → ⊥
    nothing done is = is
