-- A text without the blanks at its end, told from its end.
use Rattle.std.proofs.Common.{◌≡◌, ℕ, zero, suc, ◌<◌, true, false, List, [], ◌∷◌, length, get_or, take, refl, ap, inl, inr, arith}
use Rattle.std.specs.List.{list_all}
use Rattle.std.proofs.lemmas.Bool.{cases_Bool}
use Rattle.cons_file.specs.Lines.{is_blank}
use Rattle.cons_file.specs.Forms.{cut_blanks}

all_blank_step : (text : List ℕ) (k : ℕ) → k < length text → is_blank (get_or text k 0) ≡ true → list_all is_blank (take (suc k) text) ≡ list_all is_blank (take k text)
all_blank_step [] k lt e = absurd (omega arith)
all_blank_step (b ∷ text) zero lt e = rw e refl
all_blank_step (b ∷ text) (suc k) lt e = let shorter : k < length text = omega arith in rw (all_blank_step text k shorter e) refl

-- a blank at the end is cut
pub cut_step : (text : List ℕ) (k : ℕ) → k < length text → is_blank (get_or text k 0) ≡ true → cut_blanks (take (suc k) text) ≡ cut_blanks (take k text)
cut_step [] k lt e = absurd (omega arith)
cut_step (b ∷ text) zero lt e = rw e refl
cut_step (b ∷ text) (suc k) lt e = let shorter : k < length text = omega arith in rw (all_blank_step text k shorter e, cut_step text k shorter e) refl

not_all_blank : (text : List ℕ) (k : ℕ) → k < length text → is_blank (get_or text k 0) ≡ false → list_all is_blank (take (suc k) text) ≡ false
not_all_blank [] k lt e = absurd (omega arith)
not_all_blank (b ∷ text) zero lt e = rw e refl
not_all_blank (b ∷ text) (suc k) lt e =
    let shorter : k < length text = omega arith in
    elim (cases_Bool (is_blank b)) [
      | inl blank ↦ rw (blank, not_all_blank text k shorter e) refl
      | inr other ↦ rw other refl
    ]

-- a text that ends with another byte stays
pub cut_stop : (text : List ℕ) (k : ℕ) → k < length text → is_blank (get_or text k 0) ≡ false → cut_blanks (take (suc k) text) ≡ take (suc k) text
cut_stop [] k lt e = absurd (omega arith)
cut_stop (b ∷ text) zero lt e = rw e refl
cut_stop (b ∷ text) (suc k) lt e =
    let shorter : k < length text = omega arith in
    let long : list_all is_blank (b ∷ take (suc k) text) ≡ false = not_all_blank (b ∷ text) (suc k) lt e in
    rw long (ap (λ (t : List ℕ). b ∷ t) (cut_stop text k shorter e))
