-- Serves specs/WordLaws.antt: comparisons and reductions of settled words are those of numbers.
use Rattle.std.proofs.Common.{◌≡◌, ◌↔◌, ℕ, suc, ◌+◌, ◌-◌, ◌*◌, ◌%◌, ◌^◌, ◌<◌, List, [], ◌∷◌, length, get_or, refl, sym, ap, ◌∙◌, arith}
use Rattle.std.specs.Prelude.{pos, ◌-ℤ◌, ◌<ℤ◌}
use Rattle.std.proofs.lemmas.Int.{ints}
use Rattle.std.proofs.lemmas.List.Elements.{All-nil, All-cons, All-head, All-tail}
use Rattle.rdc_tern.specs.declared.value.Tern.{Tern}
use Rattle.rdc_tern.specs.declared.value.Tern.TheVariants.{Zero, One, Unsettled}
use Rattle.rdc_tern.specs.Kleene.{not_of, xor_of, IsSettled}
use Rattle.rdc_tern.specs.Shifts.{top_of}
use Rattle.rdc_tern.specs.Words.{any_of, all_of, parity_of, eq_of, lt_bit, lt_from, lt_of, top_inverted, lt_signed_of}
use Rattle.rdc_tern.specs.Numbers.{AreSettled, bit_of, number, ones, signed}
use Rattle.rdc_tern.proofs.SumNumbers.{double}
use Rattle.rdc_tern.proofs.MonotoneLemmas.{words_settle}
use Rattle.rdc_tern.proofs.GateLemmas.{zero_settled, not_settled, lt_bit_settled}

-- a bit says that its number is 1
bit_says : (a : Tern) → (a ≡ One) ↔ (0 < 0 + bit_of a)
bit_says Zero = (λ e. cc, λ lt. absurd (omega arith))
bit_says One = (λ e. omega arith, λ lt. refl)
bit_says Unsettled = (λ e. cc, λ lt. absurd (omega arith))

-- one bit decides, or leaves it to those above
lt_step : (s a b : Tern) (x y : ℕ) → IsSettled s → IsSettled a → IsSettled b → (x < y + bit_of (lt_bit s a b)) ↔ (bit_of a + 2 * x < bit_of b + 2 * y + bit_of s)
lt_step Unsettled a b x y hs ha hb = absurd (hs refl)
lt_step Zero Unsettled b x y hs ha hb = absurd (ha refl)
lt_step Zero Zero Unsettled x y hs ha hb = absurd (hb refl)
lt_step Zero Zero Zero x y hs ha hb = (λ lt. omega arith, λ lt. omega arith)
lt_step Zero Zero One x y hs ha hb = (λ lt. omega arith, λ lt. omega arith)
lt_step Zero One Unsettled x y hs ha hb = absurd (hb refl)
lt_step Zero One Zero x y hs ha hb = (λ lt. omega arith, λ lt. omega arith)
lt_step Zero One One x y hs ha hb = (λ lt. omega arith, λ lt. omega arith)
lt_step One Unsettled b x y hs ha hb = absurd (ha refl)
lt_step One Zero Unsettled x y hs ha hb = absurd (hb refl)
lt_step One Zero Zero x y hs ha hb = (λ lt. omega arith, λ lt. omega arith)
lt_step One Zero One x y hs ha hb = (λ lt. omega arith, λ lt. omega arith)
lt_step One One Unsettled x y hs ha hb = absurd (hb refl)
lt_step One One Zero x y hs ha hb = (λ lt. omega arith, λ lt. omega arith)
lt_step One One One x y hs ha hb = (λ lt. omega arith, λ lt. omega arith)

lt_from_number : (s : Tern) (x y : List Tern) → IsSettled s → AreSettled x → AreSettled y → length x ≡ length y → (lt_from s x y ≡ One) ↔ (number x < number y + bit_of s)
lt_from_number s [] [] hs hx hy same = bit_says s
lt_from_number s [] (b ∷ y) hs hx hy same = absurd (omega arith)
lt_from_number s (a ∷ x) [] hs hx hy same = absurd (omega arith)
lt_from_number s (a ∷ x) (b ∷ y) hs hx hy same =
    let ha = All-head IsSettled a x hx in
    let hb = All-head IsSettled b y hy in
    let rest = lt_from_number (lt_bit s a b) x y (lt_bit_settled s a b hs ha hb) (All-tail IsSettled a x hx) (All-tail IsSettled b y hy) (omega arith) in
    let step = lt_step s a b (number x) (number y) hs ha hb in
    (λ e. step.0 (rest.0 e), λ lt. rest.1 (step.1 lt))

pub lt_number : (x y : List Tern) → AreSettled x → AreSettled y → length x ≡ length y → (lt_of x y ≡ One) ↔ (number x < number y)
lt_number x y hx hy same =
    let whole = lt_from_number Zero x y zero_settled hx hy same in
    (λ e. let lt : number x < number y + 0 = whole.0 e in omega arith, λ lt. whole.1 (omega arith))

pub eq_number : (x y : List Tern) → AreSettled x → AreSettled y → length x ≡ length y → (eq_of x y ≡ One) ↔ (number x ≡ number y)
eq_number [] [] hx hy same = (λ e. refl, λ e. refl)
eq_number [] (b ∷ y) hx hy same = absurd (omega arith)
eq_number (a ∷ x) [] hx hy same = absurd (omega arith)
eq_number (Unsettled ∷ x) (b ∷ y) hx hy same = absurd (All-head IsSettled Unsettled x hx refl)
eq_number (Zero ∷ x) (Unsettled ∷ y) hx hy same = absurd (All-head IsSettled Unsettled y hy refl)
eq_number (Zero ∷ x) (One ∷ y) hx hy same = (λ e. cc, λ e. absurd (omega arith))
eq_number (Zero ∷ x) (Zero ∷ y) hx hy same =
    let rest = eq_number x y (All-tail IsSettled Zero x hx) (All-tail IsSettled Zero y hy) (omega arith) in
    (λ e. let here : number x ≡ number y = rest.0 e in omega arith, λ e. rest.1 (omega arith))
eq_number (One ∷ x) (Unsettled ∷ y) hx hy same = absurd (All-head IsSettled Unsettled y hy refl)
eq_number (One ∷ x) (Zero ∷ y) hx hy same = (λ e. cc, λ e. absurd (omega arith))
eq_number (One ∷ x) (One ∷ y) hx hy same =
    let rest = eq_number x y (All-tail IsSettled One x hx) (All-tail IsSettled One y hy) (omega arith) in
    (λ e. let here : number x ≡ number y = rest.0 e in omega arith, λ e. rest.1 (omega arith))

pub any_number : (w : List Tern) → AreSettled w → (any_of w ≡ One) ↔ (0 < number w)
any_number [] h = (λ e. cc, λ lt. absurd (omega arith))
any_number (Unsettled ∷ w) h = absurd (All-head IsSettled Unsettled w h refl)
any_number (Zero ∷ w) h =
    let rest = any_number w (All-tail IsSettled Zero w h) in
    (λ e. let here : 0 < number w = rest.0 e in omega arith, λ lt. rest.1 (omega arith))
any_number (One ∷ w) h = (λ e. omega arith, λ lt. refl)

pub all_number : (w : List Tern) → AreSettled w → (all_of w ≡ One) ↔ (number w + 1 ≡ 2 ^ length w)
all_number [] h = (λ e. refl, λ e. refl)
all_number (Unsettled ∷ w) h = absurd (All-head IsSettled Unsettled w h refl)
all_number (Zero ∷ w) h = (λ e. cc, λ e. let whole = rw (double (length w)) at e in absurd (omega arith))
all_number (One ∷ w) h =
    let rest = all_number w (All-tail IsSettled One w h) in
    (λ e. let here : number w + 1 ≡ 2 ^ length w = rest.0 e in rw (double (length w)) (omega arith), λ e. let whole = rw (double (length w)) at e in rest.1 (omega arith))

inverted_parity : (p : Tern) (n : ℕ) → IsSettled p → bit_of p ≡ n % 2 → bit_of (xor_of One p) ≡ (1 + n) % 2
inverted_parity Zero n h e = omega arith
inverted_parity One n h e = omega arith
inverted_parity Unsettled n h e = absurd (h refl)

pub parity_number : (w : List Tern) → AreSettled w → bit_of (parity_of w) ≡ ones w % 2
parity_number [] h = refl
parity_number (Unsettled ∷ w) h = absurd (All-head IsSettled Unsettled w h refl)
parity_number (Zero ∷ w) h = parity_number w (All-tail IsSettled Zero w h) ∙ omega arith
parity_number (One ∷ w) h = inverted_parity (parity_of w) (ones w) (words_settle.odd w (All-tail IsSettled One w h)) (parity_number w (All-tail IsSettled One w h))

top-cons : (a b : Tern) (w : List Tern) → top_of (a ∷ b ∷ w) ≡ top_of (b ∷ w)
top-cons a b w =
    let last : length (a ∷ b ∷ w) - 1 ≡ suc (length (b ∷ w) - 1) = omega arith in
    ap (λ (n : ℕ). get_or (a ∷ b ∷ w) n Unsettled) last

top_step : (a t top p n half top' p' : ℕ) → top' ≡ top → p' ≡ 2 * p → p ≡ 2 * half → t + top * p ≡ n + half → (a + 2 * t) + top' * p' ≡ (a + 2 * n) + p
top_step a t top p n half top' p' top-is p'-is p-is rest = rw (top-is, p'-is) (omega arith)

-- the word with its top inverted is half the range more than the signed number
top_number : (a : Tern) (w : List Tern) → AreSettled (a ∷ w) → number (top_inverted (a ∷ w)) + bit_of (top_of (a ∷ w)) * 2 ^ length (a ∷ w) ≡ number (a ∷ w) + 2 ^ length w
top_number Zero [] h = omega arith
top_number One [] h = omega arith
top_number Unsettled [] h = absurd (All-head IsSettled Unsettled [] h refl)
top_number a (b ∷ w) h =
    let rest = top_number b w (All-tail IsSettled a (b ∷ w) h) in
    let top : top_of (a ∷ b ∷ w) ≡ top_of (b ∷ w) = top-cons a b w in
    top_step (bit_of a) (number (top_inverted (b ∷ w))) (bit_of (top_of (b ∷ w))) (2 ^ length (b ∷ w)) (number (b ∷ w)) (2 ^ length w) (bit_of (top_of (a ∷ b ∷ w))) (2 ^ length (a ∷ b ∷ w)) (ap bit_of top) (double (length (b ∷ w))) (double (length w)) rest

length-top_inverted : (w : List Tern) → length (top_inverted w) ≡ length w
length-top_inverted [] = refl
length-top_inverted (a ∷ []) = refl
length-top_inverted (a ∷ b ∷ w) = ap (λ (n : ℕ). suc n) (length-top_inverted (b ∷ w))

top_inverted_settled : (w : List Tern) → AreSettled w → AreSettled (top_inverted w)
top_inverted_settled [] h = h
top_inverted_settled (a ∷ []) h = All-cons IsSettled (not_of a) [] (not_settled a (All-head IsSettled a [] h)) (All-nil IsSettled)
top_inverted_settled (a ∷ b ∷ w) h = All-cons IsSettled a (top_inverted (b ∷ w)) (All-head IsSettled a (b ∷ w) h) (top_inverted_settled (b ∷ w) (All-tail IsSettled a (b ∷ w) h))

signed_step : (t p n t' p' n' half : ℕ) → t + p ≡ n + half → t' + p' ≡ n' + half → (t < t') ↔ ((pos n -ℤ pos p) <ℤ (pos n' -ℤ pos p'))
signed_step t p n t' p' n' half left right = (λ lt. omega (arith, ints), λ lt. omega (arith, ints))

pub lt_signed_number : (x y : List Tern) → AreSettled x → AreSettled y → length x ≡ length y → 0 < length x → (lt_signed_of x y ≡ One) ↔ (signed x <ℤ signed y)
lt_signed_number [] y hx hy same some = absurd (omega arith)
lt_signed_number (a ∷ x) [] hx hy same some = absurd (omega arith)
lt_signed_number (a ∷ x) (b ∷ y) hx hy same some =
    let left = top_number a x hx in
    let right = top_number b y hy in
    let wide : length x ≡ length y = omega arith in
    let whole = lt_number (top_inverted (a ∷ x)) (top_inverted (b ∷ y)) (top_inverted_settled (a ∷ x) hx) (top_inverted_settled (b ∷ y) hy) (length-top_inverted (a ∷ x) ∙ same ∙ sym (length-top_inverted (b ∷ y))) in
    let compared = signed_step (number (top_inverted (a ∷ x))) (bit_of (top_of (a ∷ x)) * 2 ^ length (a ∷ x)) (number (a ∷ x)) (number (top_inverted (b ∷ y))) (bit_of (top_of (b ∷ y)) * 2 ^ length (b ∷ y)) (number (b ∷ y)) (2 ^ length x) left
    (right ∙ ap (λ (n : ℕ). number (b ∷ y) + 2 ^ n) (sym wide)) in
    (λ e. compared.0 (whole.0 e), λ lt. whole.1 (compared.1 lt))
