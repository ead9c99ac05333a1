-- Words bit by bit: what is left after each step, and how wide they are.
use Rattle.std.proofs.Common.{◌≡◌, ℕ, zero, suc, ◌+◌, ◌-◌, ◌/◌, ◌<◌, ◌≤◌, true, List, [], ◌∷◌, ◌++◌, length, drop, get_or, nat_lt, ◌^◌, refl, sym, ap, ◌∙◌, append_assoc, add-one, arith}
use Rattle.std.proofs.Math.Seq.{drop-cons}
use Rattle.std.proofs.lemmas.List.{append-nil}
use Rattle.std.proofs.lemmas.Nat.{one_shl}
use Rattle.std.proofs.lemmas.Bool.Decides.{nat_tests}
use Rattle.std.proofs.Math.Pow.{pow_mono}
use Rattle.rdc_tern.specs.declared.value.Tern.{Tern}
use Rattle.rdc_tern.specs.declared.value.Tern.TheVariants.{Unsettled}
use Rattle.rdc_tern.specs.Kleene.{mux_of}
use Rattle.rdc_tern.specs.Shifts.{select_of, sar_of}
use Rattle.rdc_tern.proofs.KeptLemmas.{nothing_shifts}
use Rattle.design_form.specs.Bits.{bits, low_bit, each, copies}

-- ---- bits of a number

pub bits-more : (w p n : ℕ) → p < w → bits (w - p) n ≡ low_bit n ∷ bits (w - (p + 1)) (n / 2)
unfolding bits
bits-more w p n h =
    let e : w - p ≡ suc (w - (p + 1)) = omega arith in
    ap (λ (k : ℕ). bits k n) e

pub bits-end : (w p n : ℕ) → w ≤ p → bits (w - p) n ≡ []
unfolding bits
bits-end w p n h =
    let e : w - p ≡ zero = omega arith in
    ap (λ (k : ℕ). bits k n) e

-- ---- gates bit by bit

pub each-more : (f : Tern → Tern → Tern) (x y : List Tern) (i : ℕ) (d e : Tern) → i < length x → i < length y → each f (drop i x) (drop i y) ≡ f (get_or x i d) (get_or y i e) ∷ each f (drop (i + 1) x) (drop (i + 1) y)
unfolding each
each-more f x y i d e h k = rw (drop-cons x i d h, drop-cons y i e k, add-one) refl

pub each-end : (f : Tern → Tern → Tern) (x y : List Tern) → length x ≤ 0 → each f x y ≡ []
unfolding each
each-end f [] y h = refl
each-end f (a ∷ x) y h = absurd (omega arith)

pub select-more : (s : Tern) (x y : List Tern) (i : ℕ) (d e : Tern) → i < length x → i < length y → select_of s (drop i x) (drop i y) ≡ mux_of s (get_or x i d) (get_or y i e) ∷ select_of s (drop (i + 1) x) (drop (i + 1) y)
select-more s x y i d e h k = rw (drop-cons x i d h, drop-cons y i e k, add-one) refl

pub select-end : (s : Tern) (x y : List Tern) → length x ≤ 0 → select_of s x y ≡ []
select-end s [] y h = refl
select-end s (a ∷ x) y h = absurd (omega arith)

-- ---- copies

pub copies-more : (n k : ℕ) (w : List Tern) → k < n → copies (n - k) w ≡ w ++ copies (n - (k + 1)) w
unfolding copies
copies-more n k w h =
    let e : n - k ≡ suc (n - (k + 1)) = omega arith in
    ap (λ (m : ℕ). copies m w) e

pub copies-end : (n k : ℕ) (w : List Tern) → n ≤ k → copies (n - k) w ≡ []
unfolding copies
copies-end n k w h =
    let e : n - k ≡ zero = omega arith in
    ap (λ (m : ℕ). copies m w) e

pub copies-nothing : (n : ℕ) → copies n [] ≡ []
unfolding copies
copies-nothing zero = refl
copies-nothing (suc n) = copies-nothing n

pub ruleset word_steps = (bits-more, bits-end, each-more, each-end, select-more, select-end, copies-more, copies-end, copies-nothing)

-- ---- steps of loops

-- one element more at the end
pub pushed : {A : Type 0} (xs ys : List A) (x y : A) (left rest whole : List A) → ys ≡ xs ++ x ∷ [] → x ≡ y → left ≡ y ∷ rest → xs ++ left ≡ whole → ys ++ rest ≡ whole
pushed {A} xs ys x y left rest whole e f l h =
    ap (λ (z : List A). z ++ rest) e ∙ append_assoc xs (x ∷ []) rest ∙ ap (λ (a : A). xs ++ a ∷ rest) f ∙ ap (λ (z : List A). xs ++ z) (sym l) ∙ h

-- more elements at the end
pub appended : {A : Type 0} (xs ys w left rest whole : List A) → ys ≡ xs ++ w → left ≡ w ++ rest → xs ++ left ≡ whole → ys ++ rest ≡ whole
appended {A} xs ys w left rest whole e l h =
    ap (λ (z : List A). z ++ rest) e ∙ append_assoc xs w rest ∙ ap (λ (z : List A). xs ++ z) (sym l) ∙ h

-- nothing is left
pub ended : {A : Type 0} (xs left whole : List A) → left ≡ [] → xs ++ left ≡ whole → xs ≡ whole
ended {A} xs left whole l h = sym (append-nil xs) ∙ ap (λ (z : List A). xs ++ z) (sym l) ∙ h

pub copies-empty : (n : ℕ) (w : List Tern) → length w ≡ 0 → copies n w ≡ []
copies-empty n [] h = copies-nothing n
copies-empty n (a ∷ w) h = absurd (omega arith)

-- ---- numbers of few bits

pub fits-wide : (n w : ℕ) → n < 2 ^ 64 → 64 ≤ w → nat_lt n (2 ^ w) ≡ true
fits-wide n w h e =
    let above : n < 2 ^ w = omega (arith, pow_mono {i = 64} {j = w} e) in
    grind (arith, nat_tests)

pub ruleset fit_steps = (fits-wide, one_shl)

-- ---- shifts

pub sar-empty : (w n : List Tern) → length w ≡ 0 → sar_of w n ≡ w
sar-empty [] n h = nothing_shifts Unsettled 0 n
sar-empty (a ∷ w) n h = absurd (omega arith)

pub ruleset shift_steps = (sar-empty)
