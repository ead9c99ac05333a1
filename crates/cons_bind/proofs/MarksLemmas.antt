-- Marks that are put one by one.
use Rattle.std.proofs.Common.{◌≡◌, ◌⊎◌, ℕ, zero, suc, ◌<◌, Bool, true, false, List, length, get_or, set, replicate, refl, sym, subst, ◌∙◌, inl, inr, arith, get_or-set_same, get_or-set_other}
use Rattle.std.specs.Prelude.{slice_index_or}
use Rattle.cons_bind.specs.Marks.{Marks}

one_of : (k n : ℕ) → (k ≡ n) ⊎ (k ≡ n → ⊥)
one_of k n = grind arith

none_marked : (n k : ℕ) → slice_index_or (replicate n false) k false ≡ false
none_marked zero k = refl
none_marked (suc n) zero = refl
none_marked (suc n) (suc k) = none_marked n k

-- no number is marked
pub marks_none : (P : ℕ → Type 0) (n : ℕ) → ((k : ℕ) → P k → ⊥) → Marks P (replicate n false)
marks_none P n none = record { each = λ k. (λ is. let e : false ≡ true = sym (none_marked n k) ∙ is in absurd cc, λ is. absurd (none k is)) }

-- one more number is marked
pub marks_more : (P Q : ℕ → Type 0) (marks : List Bool) (s : ℕ) → s < length marks → ((k : ℕ) → Q k → P k ⊎ (k ≡ s)) → ((k : ℕ) → P k → Q k) → Q s → Marks P marks → Marks Q (set marks s true)
marks_more P Q marks s lt from to here before = record {
  each = λ k. elim (one_of k s) [
    | inl same ↦ (λ is. subst Q (sym same) here, λ is. subst (λ j. get_or (set marks s true) j false ≡ true) (sym same) (get_or-set_same marks s true false lt))
    | inr other ↦
        let kept = get_or-set_other marks s k true false other in
        (λ is. to k ((before.each k).0 (sym kept ∙ is)), λ is. kept ∙ (before.each k).1 (left k other (from k is)))
  ];
}
  where
    left : (k : ℕ) → (k ≡ s → ⊥) → P k ⊎ (k ≡ s) → P k
    left k other (inl is) = is
    left k other (inr same) = absurd (other same)

-- the same numbers are marked
pub marks_same : (P Q : ℕ → Type 0) (marks : List Bool) → ((k : ℕ) → P k → Q k) → ((k : ℕ) → Q k → P k) → Marks P marks → Marks Q marks
marks_same P Q marks to from before = record { each = λ k. (λ is. to k ((before.each k).0 is), λ is. (before.each k).1 (from k is)) }
