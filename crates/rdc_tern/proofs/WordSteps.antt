-- Serves specs/Words.antt: one more bit of a sum, of a comparison or of a reduction.
use Rattle.std.proofs.Common.{◌≡◌, ℕ, zero, suc, ◌+◌, ◌-◌, ◌<◌, ◌≤◌, List, [], ◌∷◌, ◌++◌, length, take, drop, get_or, set, map, replicate, inl, inr, refl, sym, ap, ◌∙◌, append_assoc, arith, add-one}
use Rattle.std.proofs.lemmas.List.{drop_more, take_more_set, drop-set-lt, drop_all, take_all, append-nil, get_or-take, get_or-append_right, get_or_append_left, get_or-replicate, get_or_default, get_or-map, get_or_past, length-map, length-replicate, map-id}
use Rattle.std.proofs.lemmas.Bool.{cases_lt}
use Rattle.rdc_tern.specs.declared.value.Tern.{Tern}
use Rattle.rdc_tern.specs.declared.value.Tern.TheVariants.{Zero}
use Rattle.rdc_tern.specs.Kleene.{not_of, and_of, or_of, xor_of}
use Rattle.rdc_tern.specs.Shifts.{raised}
use Rattle.rdc_tern.proofs.ShiftSteps.{length-raised}
use Rattle.rdc_tern.specs.Words.{masked, add_of, products_of, sum_bit, carry_of, sum_of, any_of, all_of, parity_of, eq_of, lt_bit, lt_from, lt_of, top_inverted, lt_signed_of}
use Rattle.rdc_tern.proofs.GateLemmas.{or_assoc, and_assoc, xor_assoc, or_zero, and_one, xor_zero, plus_zero, carry_zero}

sum_more : (c : Tern) (x y : List Tern) (i : ℕ) (d e : Tern) → i < length x → i < length y
    → sum_of c (drop i x) (drop i y) ≡ sum_bit c (get_or x i d) (get_or y i e) ∷ sum_of (carry_of c (get_or x i d) (get_or y i e)) (drop (i + 1) x) (drop (i + 1) y)
sum_more c x y i d e p q = rw (drop_more x i d p, drop_more y i e q) refl

-- a bit written into a sum
pub sum_written : (c : Tern) (s y : List Tern) (i : ℕ) (d e v w : Tern) (whole : List Tern) → i < length s → i < length y → v ≡ sum_bit c (get_or s i d) (get_or y i e)
    → w ≡ carry_of c (get_or s i d) (get_or y i e) → take i s ++ sum_of c (drop i s) (drop i y) ≡ whole
    → take (i + 1) (set s i v) ++ sum_of w (drop (i + 1) (set s i v)) (drop (i + 1) y) ≡ whole
sum_written c s y i d e v w whole p q v-is w-is before =
    let front : take (i + 1) (set s i v) ≡ take i s ++ v ∷ [] = take_more_set s i v p in
    let rest : drop (i + 1) (set s i v) ≡ drop (i + 1) s = drop-set-lt (i + 1) s i v (omega arith) in
    let more = sum_more c s y i d e p q in
    rw (front, rest, append_assoc, v-is, w-is) (rw more at before)

-- the last bit is written
pub sum_whole : (c : Tern) (s y : List Tern) (i : ℕ) (whole : List Tern) → length s ≤ i → take i s ++ sum_of c (drop i s) (drop i y) ≡ whole → s ≡ whole
sum_whole c s y i whole p before =
    let front : take i s ≡ s = take_all i s p in
    let rest : drop i s ≡ [] = drop_all i s p in
    sym (append-nil s) ∙ (rw (front, rest) at before)

pub any_more : (so_far : Tern) (w : List Tern) (i : ℕ) (d whole : Tern) → i < length w → or_of so_far (any_of (drop i w)) ≡ whole → or_of (or_of so_far (get_or w i d)) (any_of (drop (i + 1) w)) ≡ whole
any_more so_far w i d whole p before = or_assoc so_far (get_or w i d) _ ∙ (rw (drop_more w i d p) at before)

pub any_whole : (so_far : Tern) (w : List Tern) (i : ℕ) (whole : Tern) → length w ≤ i → or_of so_far (any_of (drop i w)) ≡ whole → so_far ≡ whole
any_whole so_far w i whole p before = sym (or_zero so_far) ∙ (rw (drop_all i w p) at before)

pub all_more : (so_far : Tern) (w : List Tern) (i : ℕ) (d whole : Tern) → i < length w → and_of so_far (all_of (drop i w)) ≡ whole → and_of (and_of so_far (get_or w i d)) (all_of (drop (i + 1) w)) ≡ whole
all_more so_far w i d whole p before = and_assoc so_far (get_or w i d) _ ∙ (rw (drop_more w i d p) at before)

pub all_whole : (so_far : Tern) (w : List Tern) (i : ℕ) (whole : Tern) → length w ≤ i → and_of so_far (all_of (drop i w)) ≡ whole → so_far ≡ whole
all_whole so_far w i whole p before = sym (and_one so_far) ∙ (rw (drop_all i w p) at before)

pub parity_more : (so_far : Tern) (w : List Tern) (i : ℕ) (d whole : Tern) → i < length w → xor_of so_far (parity_of (drop i w)) ≡ whole
    → xor_of (xor_of so_far (get_or w i d)) (parity_of (drop (i + 1) w)) ≡ whole
parity_more so_far w i d whole p before = xor_assoc so_far (get_or w i d) _ ∙ (rw (drop_more w i d p) at before)

pub parity_whole : (so_far : Tern) (w : List Tern) (i : ℕ) (whole : Tern) → length w ≤ i → xor_of so_far (parity_of (drop i w)) ≡ whole → so_far ≡ whole
parity_whole so_far w i whole p before = sym (xor_zero so_far) ∙ (rw (drop_all i w p) at before)

pub eq_more : (so_far : Tern) (x y : List Tern) (i : ℕ) (d e whole : Tern) → i < length x → i < length y → and_of so_far (eq_of (drop i x) (drop i y)) ≡ whole
    → and_of (and_of so_far (not_of (xor_of (get_or x i d) (get_or y i e)))) (eq_of (drop (i + 1) x) (drop (i + 1) y)) ≡ whole
eq_more so_far x y i d e whole p q before = and_assoc so_far (not_of (xor_of (get_or x i d) (get_or y i e))) _ ∙ (rw (drop_more x i d p, drop_more y i e q) at before)

pub eq_whole : (so_far : Tern) (x y : List Tern) (i : ℕ) (whole : Tern) → length x ≤ i → and_of so_far (eq_of (drop i x) (drop i y)) ≡ whole → so_far ≡ whole
eq_whole so_far x y i whole p before = sym (and_one so_far) ∙ (rw (drop_all i x p) at before)

lt_suc : (s : Tern) (x y : List Tern) (i : ℕ) (d e : Tern) → i < length x → i < length y
    → lt_from s (take (suc i) x) (take (suc i) y) ≡ lt_bit (lt_from s (take i x) (take i y)) (get_or x i d) (get_or y i e)
lt_suc s [] y i d e p q = absurd (omega arith)
lt_suc s (a ∷ x) [] i d e p q = absurd (omega arith)
lt_suc s (a ∷ x) (b ∷ y) zero d e p q = refl
lt_suc s (a ∷ x) (b ∷ y) (suc i) d e p q = lt_suc (lt_bit s a b) x y i d e (omega arith) (omega arith)

-- one more bit is compared
pub lt_more : (x y : List Tern) (i : ℕ) (d e less v : Tern) → i < length x → i < length y → less ≡ lt_of (take i x) (take i y) → v ≡ lt_bit less (get_or x i d) (get_or y i e)
    → v ≡ lt_of (take (i + 1) x) (take (i + 1) y)
lt_more x y i d e less v p q before v-is = rw (add-one, lt_suc Zero x y i d e p q) (v-is ∙ ap (λ (l : Tern). lt_bit l (get_or x i d) (get_or y i e)) before)

lt_top : (s : Tern) (x y : List Tern) (n : ℕ) (d e : Tern) → length x ≡ suc n → length y ≡ suc n
    → lt_bit (lt_from s (take n x) (take n y)) (not_of (get_or x n d)) (not_of (get_or y n e)) ≡ lt_from s (top_inverted x) (top_inverted y)
lt_top s [] y n d e p q = absurd (omega arith)
lt_top s (a ∷ x) [] n d e p q = absurd (omega arith)
lt_top s (a ∷ []) (b ∷ []) zero d e p q = refl
lt_top s (a ∷ []) (b ∷ b' ∷ y) zero d e p q = absurd (omega arith)
lt_top s (a ∷ a' ∷ x) (b ∷ y) zero d e p q = absurd (omega arith)
lt_top s (a ∷ []) (b ∷ y) (suc n) d e p q = absurd (omega arith)
lt_top s (a ∷ a' ∷ x) (b ∷ []) (suc n) d e p q = absurd (omega arith)
lt_top s (a ∷ a' ∷ x) (b ∷ b' ∷ y) (suc n) d e p q = lt_top (lt_bit s a b) (a' ∷ x) (b' ∷ y) n d e (omega arith) (omega arith)

-- the top bits are compared last, inverted
pub lt_signed_is : (x y : List Tern) (n : ℕ) (d e less v : Tern) → 0 < length x → length x ≡ length y → n ≡ length x - 1 → less ≡ lt_of (take n x) (take n y)
    → v ≡ lt_bit less (not_of (get_or x n d)) (not_of (get_or y n e)) → v ≡ lt_signed_of x y
lt_signed_is x y n d e less v some same n-is less-is v-is =
    v-is ∙ ap (λ (l : Tern). lt_bit l (not_of (get_or x n d)) (not_of (get_or y n e))) less-is ∙ lt_top Zero x y n d e (omega arith) (omega arith)

-- zeros at the bottom change nothing
pub sum_above : (s r : List Tern) (p : ℕ) → length s ≡ length r → ((k : ℕ) → k < p → get_or r k Zero ≡ Zero) → take p s ++ sum_of Zero (drop p s) (drop p r) ≡ sum_of Zero s r
sum_above s r zero same low = refl
sum_above [] r (suc p) same low = refl
sum_above (a ∷ s) [] (suc p) same low = absurd (omega arith)
sum_above (a ∷ s) (b ∷ r) (suc p) same low =
    let b-is : b ≡ Zero = low 0 (omega arith) in
    let bit : sum_bit Zero a b ≡ a = ap (sum_bit Zero a) b-is ∙ plus_zero a in
    let carry : carry_of Zero a b ≡ Zero = ap (carry_of Zero a) b-is ∙ carry_zero a in
    rw (bit, carry) (ap (λ (t : List Tern). a ∷ t) (sum_above s r p (omega arith) (λ k lt. low (suc k) (omega arith))))

-- a bit of a word that is moved up, AND a bit
pub masked_read : (bit : Tern) (w : List Tern) (p k : ℕ) (d e : Tern) → p ≤ k → k < length w → and_of (get_or w (k - p) d) bit ≡ get_or (masked bit (raised Zero p w)) k e
masked_read bit w p k d e from lt =
    let wide : length (raised Zero p w) ≡ length w = length-raised Zero p w in
    let read : get_or (raised Zero p w) k Zero ≡ get_or w (k - p) d =
    get_or-take (length w) (replicate p Zero ++ w) k Zero lt ∙ get_or-append_right (replicate p Zero) w p k Zero (length-replicate p Zero) from ∙ get_or_default w (k - p) Zero d (omega arith) in
    ap (λ (a : Tern). and_of a bit) (sym read) ∙ sym (get_or-map (λ (a : Tern). and_of a bit) (raised Zero p w) k Zero e (omega arith))

-- below the places that it is moved up by it is 0
pub masked_low : (bit : Tern) (w : List Tern) (p k : ℕ) → k < p → get_or (masked bit (raised Zero p w)) k Zero ≡ Zero
masked_low bit w p k lt =
    let wide : length (raised Zero p w) ≡ length w = length-raised Zero p w in
    elim (cases_lt k (length w)) [
      | inl here ↦
          let read : get_or (raised Zero p w) k Zero ≡ Zero =
          get_or-take (length w) (replicate p Zero ++ w) k Zero here ∙ get_or_append_left (replicate p Zero) w Zero k (omega (arith, length-replicate p Zero)) ∙ get_or-replicate p k Zero Zero lt in
          get_or-map (λ (a : Tern). and_of a bit) (raised Zero p w) k Zero Zero (omega arith) ∙ ap (λ (a : Tern). and_of a bit) read
      | inr past ↦ get_or_past (masked bit (raised Zero p w)) k Zero (omega (arith, length-map (raised Zero p w) (λ (a : Tern). and_of a bit)))
    ]

pub length-masked : (bit : Tern) (w : List Tern) (p : ℕ) → length (masked bit (raised Zero p w)) ≡ length w
length-masked bit w p = length-map (raised Zero p w) (λ (a : Tern). and_of a bit) ∙ length-raised Zero p w

-- one more row is added
pub products_more : (s a : List Tern) (i : ℕ) (b : List Tern) (d : Tern) (whole : List Tern) → i < length b → products_of s a i (drop i b) ≡ whole
    → products_of (add_of s (masked (get_or b i d) (raised Zero i a))) a (i + 1) (drop (i + 1) b) ≡ whole
products_more s a i b d whole lt before = rw (drop_more b i d lt) at before

pub products_whole : (s a : List Tern) (i : ℕ) (b whole : List Tern) → length b ≤ i → products_of s a i (drop i b) ≡ whole → s ≡ whole
products_whole s a i b whole past before = rw (drop_all i b past) at before

-- an exclusive or with 0 changes no bit
pub xor_zero_each : (w : List Tern) → map (xor_of Zero) w ≡ w
xor_zero_each w = map-id w
