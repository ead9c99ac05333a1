-- Serves specs/WordLaws.antt: sums, differences and products of settled words are those of numbers.
use Rattle.std.proofs.Common.{◌≡◌, ℕ, zero, suc, ◌+◌, ◌-◌, ◌*◌, ◌%◌, ◌^◌, ◌<◌, List, [], ◌∷◌, ◌++◌, length, take, drop, replicate, refl, sym, ap, ◌∙◌, subst, arith}
use Rattle.std.proofs.Math.Nat.{pow-succ'}
use Rattle.std.proofs.lemmas.Nat.{mod-mul-add}
use Rattle.std.proofs.lemmas.List.{length-replicate, length-map}
use Rattle.std.proofs.lemmas.List.Elements.{All-nil, All-cons, All-head, All-tail, All-replicate}
use Rattle.rdc_tern.specs.declared.value.Tern.{Tern}
use Rattle.rdc_tern.specs.declared.value.Tern.TheVariants.{Zero, One, Unsettled}
use Rattle.rdc_tern.specs.Kleene.{not_of, IsSettled}
use Rattle.rdc_tern.specs.Shifts.{raised}
use Rattle.rdc_tern.specs.Words.{inverted, zeros, sum_bit, carry_of, sum_of, carry_out, add_of, sub_of, neg_of}
use Rattle.rdc_tern.specs.Numbers.{AreSettled, bit_of, number}
use Rattle.rdc_tern.proofs.GateLemmas.{zero_settled, one_settled, not_settled, carry_settled}

pub double : (n : ℕ) → 2 ^ suc n ≡ 2 * 2 ^ n
double n = pow-succ' 2 n

pub bit-below : (a : Tern) → bit_of a < 2
bit-below Zero = omega arith
bit-below One = omega arith
bit-below Unsettled = omega arith

pub number-below : (w : List Tern) → number w < 2 ^ length w
number-below [] = omega arith
number-below (a ∷ w) = rw (double (length w)) (omega (arith, number-below w, bit-below a))

-- the remainder, from a quotient
pub remainder_is : (r m q n : ℕ) → r + m * q ≡ n → r < m → r ≡ n % m
remainder_is r m q n whole small =
    let turned : q * m + r ≡ n = omega arith in
    sym (mod-mul-add q m r small) ∙ ap (λ (k : ℕ). k % m) turned

full_adder : (c a b : Tern) → IsSettled c → IsSettled a → IsSettled b → bit_of (sum_bit c a b) + 2 * bit_of (carry_of c a b) ≡ bit_of a + bit_of b + bit_of c
full_adder Unsettled a b hc ha hb = absurd (hc refl)
full_adder Zero Unsettled b hc ha hb = absurd (ha refl)
full_adder Zero Zero Unsettled hc ha hb = absurd (hb refl)
full_adder Zero Zero Zero hc ha hb = refl
full_adder Zero Zero One hc ha hb = refl
full_adder Zero One Unsettled hc ha hb = absurd (hb refl)
full_adder Zero One Zero hc ha hb = refl
full_adder Zero One One hc ha hb = refl
full_adder One Unsettled b hc ha hb = absurd (ha refl)
full_adder One Zero Unsettled hc ha hb = absurd (hb refl)
full_adder One Zero Zero hc ha hb = refl
full_adder One Zero One hc ha hb = refl
full_adder One One Unsettled hc ha hb = absurd (hb refl)
full_adder One One Zero hc ha hb = refl
full_adder One One One hc ha hb = refl

sum_step : (s p out x y k a b c d : ℕ) → s + p * out ≡ x + y + k → d + 2 * k ≡ a + b + c → (d + 2 * s) + (2 * p) * out ≡ (a + 2 * x) + (b + 2 * y) + c
sum_step s p out x y k a b c d rest bit = omega arith

-- the sum with its carries in and out
pub whole_sum : (c : Tern) (x y : List Tern) → IsSettled c → AreSettled x → AreSettled y → length x ≡ length y
    → number (sum_of c x y) + 2 ^ length x * bit_of (carry_out c x y) ≡ number x + number y + bit_of c
whole_sum c [] [] hc hx hy same = omega arith
whole_sum c [] (b ∷ y) hc hx hy same = absurd (omega arith)
whole_sum c (a ∷ x) [] hc hx hy same = absurd (omega arith)
whole_sum c (a ∷ x) (b ∷ y) hc hx hy same =
    let ha = All-head IsSettled a x hx in
    let hb = All-head IsSettled b y hy in
    rw (double (length x)) (sum_step (number (sum_of (carry_of c a b) x y)) (2 ^ length x) (bit_of (carry_out (carry_of c a b) x y)) (number x) (number y) (bit_of (carry_of c a b)) (bit_of a) (bit_of b) (bit_of c) (bit_of (sum_bit c a b))
    (whole_sum (carry_of c a b) x y (carry_settled c a b hc ha hb) (All-tail IsSettled a x hx) (All-tail IsSettled b y hy) (omega arith)) (full_adder c a b hc ha hb))

pub length-sum_of : (c : Tern) (x y : List Tern) → length x ≡ length y → length (sum_of c x y) ≡ length x
length-sum_of c [] y same = refl
length-sum_of c (a ∷ x) [] same = absurd (omega arith)
length-sum_of c (a ∷ x) (b ∷ y) same = ap (λ (n : ℕ). suc n) (length-sum_of (carry_of c a b) x y (omega arith))

pub add_whole : (a b : List Tern) → AreSettled a → AreSettled b → length a ≡ length b → number (add_of a b) + 2 ^ length a * bit_of (carry_out Zero a b) ≡ number a + number b
add_whole a b ha hb same = whole_sum Zero a b zero_settled ha hb same ∙ omega arith

pub number_sum : (a b : List Tern) → AreSettled a → AreSettled b → length a ≡ length b → number (add_of a b) ≡ (number a + number b) % 2 ^ length a
number_sum a b ha hb same =
    let wide : length (add_of a b) ≡ length a = length-sum_of Zero a b same in
    let small : number (add_of a b) < 2 ^ length a = subst (λ (n : ℕ). number (add_of a b) < 2 ^ n) wide (number-below (add_of a b)) in
    remainder_is (number (add_of a b)) (2 ^ length a) (bit_of (carry_out Zero a b)) (number a + number b) (add_whole a b ha hb same) small

inverted_bit : (a : Tern) → IsSettled a → bit_of (not_of a) + bit_of a ≡ 1
inverted_bit Zero h = refl
inverted_bit One h = refl
inverted_bit Unsettled h = absurd (h refl)

pub number_inverted : (w : List Tern) → AreSettled w → number (inverted w) + number w + 1 ≡ 2 ^ length w
number_inverted [] h = omega arith
number_inverted (a ∷ w) h = rw (double (length w)) (omega (arith, number_inverted w (All-tail IsSettled a w h), inverted_bit a (All-head IsSettled a w h)))

pub inverted_settled : (w : List Tern) → AreSettled w → AreSettled (inverted w)
inverted_settled [] h = All-nil IsSettled
inverted_settled (a ∷ w) h = All-cons IsSettled (not_of a) (inverted w) (not_settled a (All-head IsSettled a w h)) (inverted_settled w (All-tail IsSettled a w h))

pub number_difference : (a b : List Tern) → AreSettled a → AreSettled b → length a ≡ length b → number (sub_of a b) ≡ (2 ^ length a + number a - number b) % 2 ^ length a
number_difference a b ha hb same =
    let as_wide : length a ≡ length (inverted b) = same ∙ sym (length-map b not_of) in
    let wide : length (sub_of a b) ≡ length a = length-sum_of One a (inverted b) as_wide in
    let small : number (sub_of a b) < 2 ^ length a = subst (λ (n : ℕ). number (sub_of a b) < 2 ^ n) wide (number-below (sub_of a b)) in
    let all : number (inverted b) + number b + 1 ≡ 2 ^ length a = number_inverted b hb ∙ ap (λ (n : ℕ). 2 ^ n) (sym same) in
    let whole = whole_sum One a (inverted b) one_settled ha (inverted_settled b hb) as_wide in
    remainder_is (number (sub_of a b)) (2 ^ length a) (bit_of (carry_out One a (inverted b))) (2 ^ length a + number a - number b) (whole ∙ omega arith) small

pub number_zeros : (n : ℕ) → number (replicate n Zero) ≡ 0
number_zeros zero = refl
number_zeros (suc n) = omega (arith, number_zeros n)

pub number_negation : (a : List Tern) → AreSettled a → number (neg_of a) ≡ (2 ^ length a - number a) % 2 ^ length a
number_negation a ha =
    let wide : length (zeros a) ≡ length a = length-replicate (length a) Zero in
    let none : number (zeros a) ≡ 0 = number_zeros (length a) in
    let least : 2 ^ length a + number (zeros a) - number a ≡ 2 ^ length a - number a = omega arith in
    number_difference (zeros a) a (All-replicate IsSettled (length a) Zero zero_settled) ha wide
    ∙ ap (λ (n : ℕ). (2 ^ n + number (zeros a) - number a) % 2 ^ n) wide ∙ ap (λ (n : ℕ). n % 2 ^ length a) least

-- a word parts into what is below a place and what is above it
pub number_parts : (n : ℕ) (w : List Tern) → number (take n w) + 2 ^ n * number (drop n w) ≡ number w
number_parts zero w = omega arith
number_parts (suc n) [] = omega arith
number_parts (suc n) (a ∷ w) = rw (double n) (omega (arith, number_parts n w))

number_filled : (n : ℕ) (w : List Tern) → number (replicate n Zero ++ w) ≡ number w * 2 ^ n
number_filled zero w = omega arith
number_filled (suc n) w = rw (double n) (omega (arith, number_filled n w))

-- what a word loses at its top when it is moved up
abbrev pub lost : ℕ → List Tern → ℕ
lost n w = number (drop (length w) (replicate n Zero ++ w))

pub number_raised : (n : ℕ) (w : List Tern) → number (raised Zero n w) + 2 ^ length w * lost n w ≡ number w * 2 ^ n
number_raised n w = number_parts (length w) (replicate n Zero ++ w) ∙ number_filled n w
