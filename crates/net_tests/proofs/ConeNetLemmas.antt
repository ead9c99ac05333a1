-- The small net of the tests is a net.
use Rattle.std.proofs.Common.{◌≡◌, ◌⊎◌, inl, inr, ℕ, zero, suc, ◌<◌, true, false, refl, sym, subst, ◌∙◌, arith}
use Rattle.net_view.specs.declared.gate.Gate.TheVariants.{Const, Source, Not, And, Or, Xor, Pick, Lift}
use Rattle.net_view.specs.View.{Numbered, Reads, IsGateAt, IsNet}
use Rattle.net_tests.specs.ConeNet.{small_gates}
use Rattle.net_view.proofs.ValuesLemmas.{some_is}

reads_of : (k : ℕ) (h g : Numbered) → IsGateAt small_gates k h → Reads (λ j. j < k) (λ s. s < 3) h → IsGateAt small_gates k g → Reads (λ j. j < k) (λ s. s < 3) g
reads_of k h g is-h reads is = subst (λ (x : Numbered). Reads (λ j. j < k) (λ s. s < 3) x) (some_is h g (sym is-h ∙ is)) reads

reads_lower : (k : ℕ) (g : Numbered) → IsGateAt small_gates k g → Reads (λ j. j < k) (λ s. s < 3) g
reads_lower zero g is = reads_of 0 (Source 2) g refl (omega arith) is
reads_lower (suc zero) g is = reads_of 1 (Source 0) g refl (omega arith) is
reads_lower (suc (suc zero)) g is = reads_of 2 (Source 1) g refl (omega arith) is
reads_lower (suc (suc (suc zero))) g is = reads_of 3 (Not 0) g refl (omega arith) is
reads_lower (suc (suc (suc (suc zero)))) g is = reads_of 4 (And 3 1) g refl (omega arith, omega arith) is
reads_lower (suc (suc (suc (suc (suc zero))))) g is = reads_of 5 (Const true) g refl (tt) is
reads_lower (suc (suc (suc (suc (suc (suc zero)))))) g is = reads_of 6 (Or 4 4) g refl (omega arith, omega arith) is
reads_lower (suc (suc (suc (suc (suc (suc (suc zero))))))) g is = reads_of 7 (Xor 6 2) g refl (omega arith, omega arith) is
reads_lower (suc (suc (suc (suc (suc (suc (suc (suc zero)))))))) g is = reads_of 8 (Pick 2 5 3) g refl (omega arith, omega arith, omega arith) is
reads_lower (suc (suc (suc (suc (suc (suc (suc (suc (suc zero))))))))) g is = reads_of 9 (Lift 1 3 false) g refl (omega arith, omega arith) is
reads_lower (suc (suc (suc (suc (suc (suc (suc (suc (suc (suc k)))))))))) g is = absurd (cc)

source_place : (k s : ℕ) → IsGateAt small_gates k (Source s) → ((k ≡ 0) × (s ≡ 2)) ⊎ (((k ≡ 1) × (s ≡ 0)) ⊎ ((k ≡ 2) × (s ≡ 1)))
source_place zero s is = let same : Source 2 ≡ Source s = some_is (Source 2) (Source s) is in let s-is : s ≡ 2 = cc in inl (refl, s-is)
source_place (suc zero) s is = let same : Source 0 ≡ Source s = some_is (Source 0) (Source s) is in let s-is : s ≡ 0 = cc in inr (inl (refl, s-is))
source_place (suc (suc zero)) s is = let same : Source 1 ≡ Source s = some_is (Source 1) (Source s) is in let s-is : s ≡ 1 = cc in inr (inr (refl, s-is))
source_place (suc (suc (suc zero))) s is = absurd (cc)
source_place (suc (suc (suc (suc zero)))) s is = absurd (cc)
source_place (suc (suc (suc (suc (suc zero))))) s is = absurd (cc)
source_place (suc (suc (suc (suc (suc (suc zero)))))) s is = absurd (cc)
source_place (suc (suc (suc (suc (suc (suc (suc zero))))))) s is = absurd (cc)
source_place (suc (suc (suc (suc (suc (suc (suc (suc zero)))))))) s is = absurd (cc)
source_place (suc (suc (suc (suc (suc (suc (suc (suc (suc zero))))))))) s is = absurd (cc)
source_place (suc (suc (suc (suc (suc (suc (suc (suc (suc (suc k)))))))))) s is = absurd (cc)

place_of : (s : ℕ) → s < 3 → (k : ℕ) × IsGateAt small_gates k (Source s)
place_of zero lt = (1, refl)
place_of (suc zero) lt = (2, refl)
place_of (suc (suc zero)) lt = (0, refl)
place_of (suc (suc (suc s))) lt = absurd (omega arith)

one_place : (j k s : ℕ) → IsGateAt small_gates j (Source s) → IsGateAt small_gates k (Source s) → j ≡ k
one_place j k s at-j at-k =
    elim (source_place j s at-j) [
      | inl a ↦ elim (source_place k s at-k) [ inl b ↦ omega arith | inr r ↦ elim r [ inl b ↦ absurd (omega arith) | inr b ↦ absurd (omega arith) ] ]
      | inr q ↦ elim q [
        | inl a ↦ elim (source_place k s at-k) [ inl b ↦ absurd (omega arith) | inr r ↦ elim r [ inl b ↦ omega arith | inr b ↦ absurd (omega arith) ] ]
        | inr a ↦ elim (source_place k s at-k) [ inl b ↦ absurd (omega arith) | inr r ↦ elim r [ inl b ↦ absurd (omega arith) | inr b ↦ omega arith ] ]
      ]
    ]

pub small_net : IsNet small_gates 3
small_net = record { lower = reads_lower; placed = place_of; once = one_place }
