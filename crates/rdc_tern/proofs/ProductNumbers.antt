-- Serves specs/WordLaws.antt: products of settled words, and that a number is one word's.
use Rattle.std.proofs.Common.{◌≡◌, ℕ, ◌+◌, ◌*◌, ◌%◌, ◌^◌, ◌<◌, List, [], ◌∷◌, ◌++◌, length, replicate, refl, sym, ap, ◌∙◌, subst, arith}
use Rattle.std.proofs.lemmas.Nat.{pow-add}
use Rattle.std.proofs.lemmas.List.{length-replicate}
use Rattle.std.proofs.lemmas.List.Elements.{All-head, All-tail, All-replicate, All-append, All-take}
use Rattle.rdc_tern.specs.declared.value.Tern.{Tern}
use Rattle.rdc_tern.specs.declared.value.Tern.TheVariants.{Zero, One, Unsettled}
use Rattle.rdc_tern.specs.Kleene.{IsSettled}
use Rattle.rdc_tern.specs.Shifts.{raised}
use Rattle.rdc_tern.specs.Words.{masked, zeros, carry_out, add_of, products_of, mul_of}
use Rattle.rdc_tern.specs.Numbers.{AreSettled, bit_of, number}
use Rattle.rdc_tern.proofs.MonotoneLemmas.{words_settle}
use Rattle.rdc_tern.proofs.SumNumbers.{number-below, remainder_is, whole_sum, length-sum_of, number_zeros, number_raised, lost}
use Rattle.rdc_tern.proofs.WordSteps.{length-masked}
use Rattle.rdc_tern.proofs.GateLemmas.{and_one, and_zero, zero_settled}

masked_one : (w : List Tern) → masked One w ≡ w
masked_one [] = refl
masked_one (a ∷ w) = rw (and_one a) (ap (λ (t : List Tern). a ∷ t) (masked_one w))

masked_zero : (w : List Tern) → masked Zero w ≡ replicate (length w) Zero
masked_zero [] = refl
masked_zero (a ∷ w) = rw (and_zero a) (ap (λ (t : List Tern). Zero ∷ t) (masked_zero w))

pub raised_settled : (n : ℕ) (w : List Tern) → AreSettled w → AreSettled (raised Zero n w)
raised_settled n w h = All-take IsSettled (length w) (replicate n Zero ++ w) (All-append IsSettled (replicate n Zero) w (All-replicate IsSettled n Zero zero_settled) h)

without_row : (r m q out s t a p b : ℕ) → t + m * out ≡ s → r + m * q ≡ t + a * (2 * p) * b → r + m * (q + out) ≡ s + a * p * (0 + 2 * b)
without_row r m q out s t a p b row rest = omega arith

with_row : (r m q out over s t row a p b : ℕ) → t + m * out ≡ s + row → row + m * over ≡ a * p → r + m * q ≡ t + a * (2 * p) * b → r + m * (q + out + over) ≡ s + a * p * (1 + 2 * b)
with_row r m q out over s t row a p b sum row-is rest = omega arith

twice : (i : ℕ) → 2 ^ (i + 1) ≡ 2 * 2 ^ i
twice i = pow-add 2 i 1 ∙ omega arith

-- the product with what it loses at its top
whole_product : (s a : List Tern) (i : ℕ) (b : List Tern) → AreSettled s → AreSettled a → AreSettled b → length s ≡ length a
    → (q : ℕ) × (number (products_of s a i b) + 2 ^ length a * q ≡ number s + number a * 2 ^ i * number b)
whole_product s a i [] hs ha hb same = (0, omega arith)
whole_product s a i (Unsettled ∷ b) hs ha hb same = absurd (All-head IsSettled Unsettled b hb refl)
whole_product s a i (Zero ∷ b) hs ha hb same =
    let row = masked Zero (raised Zero i a) in
    let as_wide : length s ≡ length row = same ∙ sym (length-masked Zero a i) in
    let row-is : row ≡ replicate (length (raised Zero i a)) Zero = masked_zero (raised Zero i a) in
    let none : number row ≡ 0 = ap number row-is ∙ number_zeros (length (raised Zero i a)) in
    let row-settled : AreSettled row = subst AreSettled (sym row-is) (All-replicate IsSettled (length (raised Zero i a)) Zero zero_settled) in
    let sum : number (add_of s row) + 2 ^ length a * bit_of (carry_out Zero s row) ≡ number s =
    subst (λ (n : ℕ). number (add_of s row) + 2 ^ n * bit_of (carry_out Zero s row) ≡ number s) same (whole_sum Zero s row zero_settled hs row-settled as_wide ∙ omega arith) in
    let rest = whole_product (add_of s row) a (i + 1) b (words_settle.sum s row hs row-settled) ha (All-tail IsSettled Zero b hb) (length-sum_of Zero s row as_wide ∙ same) in (
      rest.0 + bit_of (carry_out Zero s row),
      without_row (number (products_of (add_of s row) a (i + 1) b)) (2 ^ length a) rest.0 (bit_of (carry_out Zero s row)) (number s) (number (add_of s row)) (number a) (2 ^ i) (number b) sum
          (rw (twice i) at rest.1),
    )
whole_product s a i (One ∷ b) hs ha hb same =
    let row = masked One (raised Zero i a) in
    let as_wide : length s ≡ length row = same ∙ sym (length-masked One a i) in
    let row-is : row ≡ raised Zero i a = masked_one (raised Zero i a) in
    let row-settled : AreSettled row = subst AreSettled (sym row-is) (raised_settled i a ha) in
    let row-number : number row + 2 ^ length a * lost i a ≡ number a * 2 ^ i = subst (λ (t : List Tern). number t + 2 ^ length a * lost i a ≡ number a * 2 ^ i) (sym row-is) (number_raised i a) in
    let sum : number (add_of s row) + 2 ^ length a * bit_of (carry_out Zero s row) ≡ number s + number row =
    subst (λ (n : ℕ). number (add_of s row) + 2 ^ n * bit_of (carry_out Zero s row) ≡ number s + number row) same (whole_sum Zero s row zero_settled hs row-settled as_wide ∙ omega arith) in
    let rest = whole_product (add_of s row) a (i + 1) b (words_settle.sum s row hs row-settled) ha (All-tail IsSettled One b hb) (length-sum_of Zero s row as_wide ∙ same) in (
      rest.0 + bit_of (carry_out Zero s row) + lost i a,
      with_row (number (products_of (add_of s row) a (i + 1) b)) (2 ^ length a) rest.0 (bit_of (carry_out Zero s row)) (lost i a) (number s) (number (add_of s row)) (number row) (number a) (2 ^ i) (number b) sum row-number
          (rw (twice i) at rest.1),
    )

pub length-products_of : (s a : List Tern) (i : ℕ) (b : List Tern) → length s ≡ length a → length (products_of s a i b) ≡ length a
length-products_of s a i [] same = same
length-products_of s a i (bit ∷ b) same =
    length-products_of (add_of s (masked bit (raised Zero i a))) a (i + 1) b (length-sum_of Zero s (masked bit (raised Zero i a)) (same ∙ sym (length-masked bit a i)) ∙ same)

pub length-mul_of : (a b : List Tern) → length (mul_of a b) ≡ length a
length-mul_of a b = length-products_of (zeros a) a 0 b (length-replicate (length a) Zero)

pub number_product : (a b : List Tern) → AreSettled a → AreSettled b → number (mul_of a b) ≡ (number a * number b) % 2 ^ length a
number_product a b ha hb =
    let none : number (zeros a) ≡ 0 = number_zeros (length a) in
    let whole = whole_product (zeros a) a 0 b (All-replicate IsSettled (length a) Zero zero_settled) ha hb (length-replicate (length a) Zero) in
    let small : number (mul_of a b) < 2 ^ length a = subst (λ (n : ℕ). number (mul_of a b) < 2 ^ n) (length-mul_of a b) (number-below (mul_of a b)) in
    remainder_is (number (mul_of a b)) (2 ^ length a) whole.0 (number a * number b) (whole.1 ∙ omega arith) small

-- a number is one word's of its width
pub word_is : (a b : List Tern) → AreSettled a → AreSettled b → length a ≡ length b → number a ≡ number b → a ≡ b
word_is [] [] ha hb same e = refl
word_is [] (b ∷ y) ha hb same e = absurd (omega arith)
word_is (a ∷ x) [] ha hb same e = absurd (omega arith)
word_is (Unsettled ∷ x) (b ∷ y) ha hb same e = absurd (All-head IsSettled Unsettled x ha refl)
word_is (Zero ∷ x) (Unsettled ∷ y) ha hb same e = absurd (All-head IsSettled Unsettled y hb refl)
word_is (Zero ∷ x) (One ∷ y) ha hb same e = absurd (omega arith)
word_is (Zero ∷ x) (Zero ∷ y) ha hb same e = ap (λ (t : List Tern). Zero ∷ t) (word_is x y (All-tail IsSettled Zero x ha) (All-tail IsSettled Zero y hb) (omega arith) (omega arith))
word_is (One ∷ x) (Unsettled ∷ y) ha hb same e = absurd (All-head IsSettled Unsettled y hb refl)
word_is (One ∷ x) (Zero ∷ y) ha hb same e = absurd (omega arith)
word_is (One ∷ x) (One ∷ y) ha hb same e = ap (λ (t : List Tern). One ∷ t) (word_is x y (All-tail IsSettled One x ha) (All-tail IsSettled One y hb) (omega arith) (omega arith))
