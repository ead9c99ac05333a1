-- Serves specs/ConstantLaws.antt: settled words of a width, and the numbers that they are.
use Rattle.std.proofs.Common.{◌≡◌, ℕ, zero, suc, ◌+◌, ◌-◌, ◌*◌, ◌/◌, ◌%◌, ◌^◌, ◌<◌, ◌≤◌, Bool, true, false, ◌==◌, nat_le, if◌then◌else◌, List, [], ◌∷◌, ◌++◌, length, get_or, take, drop, replicate, refl, sym, ap, subst, ◌∙◌, inl, inr, append-nil, arith, pow_mono, pow-add, pow_pos, mod-lt, mod-eq_of_lt, div-add-mod', take_all, length-take-le, le-leb}
use Rattle.std.proofs.lemmas.Bool.{cases_lt, lt-leb}
use Rattle.std.proofs.lemmas.List.Elements.{All-nil, All-cons, All-head, All-tail, All-replicate, All-append, All-take}
use Rattle.rdc_tern.specs.declared.value.Tern.{Tern}
use Rattle.rdc_tern.specs.declared.value.Tern.TheVariants.{Zero, One, Unsettled}
use Rattle.rdc_tern.specs.Kleene.{IsSettled}
use Rattle.rdc_tern.specs.Numbers.{AreSettled, bit_of, number}
use Rattle.rdc_tern.proofs.GateLemmas.{zero_settled, one_settled}
use Rattle.rdc_tern.proofs.SumNumbers.{double, bit-below, number-below, remainder_is, number_parts, number_zeros}
use Rattle.rdc_tern.proofs.ProductNumbers.{word_is}
use Rattle.vlog_const.specs.declared.shape.Shape.{Shape}
use Rattle.vlog_const.specs.Words.{is_negative, extended as stretched}
use Rattle.vlog_const.proofs.WordLemmas.{no_fill}
use Rattle.design_form.specs.Bits.{bits, low_bit, fill_of, extended, copies}
use Rattle.design_form.proofs.LengthLemmas.{length-bits}
use Rattle.design_form.proofs.WidthLemmas.{length-extended}

-- a word of n settled bits, which is the number x
pub record Is (n x : ℕ) (w : List Tern) : Type 0 where
  pub wide : length w ≡ n
  pub settled : AreSettled w
  pub number_is : number w ≡ x

pub is-below : (n x : ℕ) (w : List Tern) → Is n x w → x < 2 ^ n
is-below n x w h = subst (λ (k : ℕ). x < 2 ^ k) h.wide (subst (λ (k : ℕ). k < 2 ^ length w) h.number_is (number-below w))

-- a number below the bound is its own remainder
pub low-id : (n x : ℕ) → x < 2 ^ n → x % 2 ^ n ≡ x
low-id n x h = mod-eq_of_lt h

-- ---- the bits of a number

bit-number : (k : ℕ) → k < 2 → bit_of (if k == 1 then One else Zero) ≡ k
bit-number zero h = refl
bit-number (suc zero) h = refl
bit-number (suc (suc k)) h = absurd (omega arith)

number-bits : (w n : ℕ) → number (bits w n) ≡ n % 2 ^ w
unfolding bits
number-bits zero n = omega arith
number-bits (suc w) n =
    let rest = number-bits w (n / 2) in
    let low = bit-number (n % 2) (omega arith) in
    let parts = div-add-mod' (n / 2) (2 ^ w) in
    let small = mod-lt (n / 2) (pow_pos w) in
    rw (double w) (remainder_is (bit_of (low_bit n) + 2 * number (bits w (n / 2))) (2 * 2 ^ w) (n / 2 / 2 ^ w) n (omega (arith, rest, low, parts)) (omega (arith, rest, low, small)))

low_bit-settled : (b : Bool) → IsSettled (if b then One else Zero)
low_bit-settled true = one_settled
low_bit-settled false = zero_settled

bits-settled : (w n : ℕ) → AreSettled (bits w n)
unfolding bits
bits-settled zero n = All-nil IsSettled
bits-settled (suc w) n = All-cons IsSettled (low_bit n) (bits w (n / 2)) (low_bit-settled (n % 2 == 1)) (bits-settled w (n / 2))

pub is-bits : (n x : ℕ) → Is n (x % 2 ^ n) (bits n x)
is-bits n x = record { wide = length-bits n x; settled = bits-settled n x; number_is = number-bits n x }

-- a settled word is the bits of its number
pub bits-is : (n x : ℕ) (w : List Tern) → Is n x w → w ≡ bits n x
bits-is n x w h =
    let b = is-bits n x in
    word_is w (bits n x) h.settled b.settled (h.wide ∙ sym b.wide) (h.number_is ∙ sym (low-id n x (is-below n x w h)) ∙ sym b.number_is)

-- ---- words side by side

number-append : (x y : List Tern) (n : ℕ) → length x ≡ n → number (x ++ y) ≡ number x + 2 ^ n * number y
number-append x y n e = whole x y ∙ ap (λ (k : ℕ). number x + 2 ^ k * number y) e
  where
    whole : (x y : List Tern) → number (x ++ y) ≡ number x + 2 ^ length x * number y
    whole [] y = omega arith
    whole (a ∷ x) y = rw (double (length x)) (omega (arith, whole x y))

number-ones : (m : ℕ) → number (replicate m One) + 1 ≡ 2 ^ m
number-ones zero = omega arith
number-ones (suc m) = rw (double m) (omega (arith, number-ones m))

times : (p n q : ℕ) → n + 1 ≡ q → p * n ≡ p * q - p
times p n q e =
    let f : p * (n + 1) ≡ p * q = ap (λ (k : ℕ). p * k) e in
    omega (arith, f)

-- filled above with ones or zeros
number-filled : (b : Bool) (w : List Tern) (n m : ℕ) → length w ≡ n → number (w ++ replicate m (if b then One else Zero)) ≡ (if b then number w + (2 ^ (n + m) - 2 ^ n) else number w)
number-filled true w n m e =
    number-append w (replicate m One) n e
    ∙ ap (λ (k : ℕ). number w + k) (times (2 ^ n) (number (replicate m One)) (2 ^ m) (number-ones m))
    ∙ ap (λ (k : ℕ). number w + (k - 2 ^ n)) (sym (pow-add 2 n m))
number-filled false w n m e =
    number-append w (replicate m Zero) n e ∙ ap (λ (k : ℕ). number w + 2 ^ n * k) (number_zeros m) ∙ omega arith

-- ---- a word in a context

at-settled : (n : ℕ) (w : List Tern) → AreSettled w → IsSettled (get_or w n Zero)
at-settled n [] h = zero_settled
at-settled zero (a ∷ w) h = All-head IsSettled a w h
at-settled (suc n) (a ∷ w) h = at-settled n w (All-tail IsSettled a w h)

fill-settled : (s : Bool) (w : List Tern) → AreSettled w → IsSettled (fill_of s w)
unfolding fill_of
fill-settled true w h = at-settled (length w - 1) w h
fill-settled false w h = zero_settled

half-test : (p n a : ℕ) → a < 2 → nat_le (2 * p) (a + 2 * n) ≡ nat_le p n
half-test p n a h =
    elim (cases_lt n p) [
      | inl lt ↦ lt-leb (2 * p) (a + 2 * n) (omega arith) ∙ sym (lt-leb p n lt)
      | inr le ↦ le-leb (2 * p) (a + 2 * n) (omega arith) ∙ sym (le-leb p n le)
    ]

-- the top bit is 1 from half the bound up
pub top-bit : (w : List Tern) → AreSettled w → get_or w (length w - 1) Zero ≡ (if nat_le (2 ^ (length w - 1)) (number w) then One else Zero)
top-bit [] h = refl
top-bit (Zero ∷ []) h = refl
top-bit (One ∷ []) h = refl
top-bit (Unsettled ∷ []) h = absurd (All-head IsSettled Unsettled [] h refl)
top-bit (a ∷ b ∷ w) h =
    let last : length (a ∷ b ∷ w) - 1 ≡ suc (length (b ∷ w) - 1) = omega arith in
    let half : 2 ^ (length (a ∷ b ∷ w) - 1) ≡ 2 * 2 ^ (length (b ∷ w) - 1) = ap (λ (k : ℕ). 2 ^ k) last ∙ double (length (b ∷ w) - 1) in
    let test : nat_le (2 ^ (length (a ∷ b ∷ w) - 1)) (number (a ∷ b ∷ w)) ≡ nat_le (2 ^ (length (b ∷ w) - 1)) (number (b ∷ w)) =
    ap (λ (p : ℕ). nat_le p (number (a ∷ b ∷ w))) half ∙ half-test (2 ^ (length (b ∷ w) - 1)) (number (b ∷ w)) (bit_of a) (bit-below a) in
    ap (λ (k : ℕ). get_or (a ∷ b ∷ w) k Zero) last ∙ top-bit (b ∷ w) (All-tail IsSettled a (b ∷ w) h) ∙ sym (ap (λ (t : Bool). if t then One else Zero) test)

fill-is : (s : Bool) (w : List Tern) → AreSettled w → fill_of s w ≡ (if is_negative s (length w) (number w) then One else Zero)
unfolding fill_of is_negative
fill-is false w h = refl
fill-is true w h = top-bit w h

number-cut : (k : ℕ) (w : List Tern) → k ≤ length w → number (take k w) ≡ number w % 2 ^ k
number-cut k w h =
    let wide : length (take k w) ≡ k = length-take-le k w h in
    let small : number (take k w) < 2 ^ k = subst (λ (n : ℕ). number (take k w) < 2 ^ n) wide (number-below (take k w)) in
    remainder_is (number (take k w)) (2 ^ k) (number (drop k w)) (number w) (number_parts k w) small

unfilled : (b : Bool) (x k : ℕ) → k ≡ 0 → (if b then x + k else x) ≡ x
unfilled true x k e = omega arith
unfilled false x k e = refl

extended-settled : (c : Shape) (w : List Tern) → AreSettled w → AreSettled (extended c w)
unfolding extended
extended-settled c w h =
    All-append IsSettled (take c.width w) (replicate (c.width - length w) (fill_of c.signed w)) (All-take IsSettled c.width w h) (All-replicate IsSettled (c.width - length w) (fill_of c.signed w) (fill-settled c.signed w h))

abbrev padded : Shape → List Tern → ℕ → ℕ
padded c w k = if is_negative c.signed (length w) (number w) then number w + (2 ^ k - 2 ^ length w) else number w

number-padded : (c : Shape) (w : List Tern) → AreSettled w → length w < c.width → number (extended c w) ≡ padded c w c.width
unfolding extended
number-padded c w h lt =
    let whole : take c.width w ≡ w = take_all c.width w (omega arith) in
    let all : length w + (c.width - length w) ≡ c.width = omega arith in
    ap (λ (t : List Tern). number (t ++ replicate (c.width - length w) (fill_of c.signed w))) whole
    ∙ ap (λ (f : Tern). number (w ++ replicate (c.width - length w) f)) (fill-is c.signed w h)
    ∙ number-filled (is_negative c.signed (length w) (number w)) w (length w) (c.width - length w) refl
    ∙ ap (padded c w) all

number-taken : (c : Shape) (w : List Tern) → c.width ≤ length w → number (extended c w) ≡ number w % 2 ^ c.width
unfolding extended
number-taken c w le =
    let none : c.width - length w ≡ 0 = omega arith in
    ap (λ (k : ℕ). number (take c.width w ++ replicate k (fill_of c.signed w))) none ∙ ap number (append-nil (take c.width w)) ∙ number-cut c.width w le

number-extended : (c : Shape) (w : List Tern) → AreSettled w → number (extended c w) ≡ stretched (length w) c (number w)
unfolding stretched
number-extended c w h =
    elim (cases_lt (length w) c.width) [
      | inl lt ↦
          let small : number (extended c w) < 2 ^ c.width = subst (λ (n : ℕ). number (extended c w) < 2 ^ n) (length-extended c w) (number-below (extended c w)) in
          sym (low-id c.width (number (extended c w)) small) ∙ ap (λ (k : ℕ). k % 2 ^ c.width) (number-padded c w h lt)
      | inr le ↦ number-taken c w le ∙ sym (ap (λ (k : ℕ). k % 2 ^ c.width) (unfilled (is_negative c.signed (length w) (number w)) (number w) (2 ^ c.width - 2 ^ length w) (no_fill (length w) c.width le)))
    ]

pub is-extended : (c : Shape) (n x : ℕ) (w : List Tern) → Is n x w → Is c.width (stretched n c x) (extended c w)
is-extended c n x w h = record {
  wide = length-extended c w;
  settled = extended-settled c w h.settled;
  number_is = number-extended c w h.settled ∙ ap (λ (k : ℕ). stretched k c (number w)) h.wide ∙ ap (stretched n c) h.number_is;
}

-- ---- one bit

pub one_bit-is : (b : Bool) → Is 1 (if b then 1 else 0) ((if b then One else Zero) ∷ [])
one_bit-is true = record { wide = refl; settled = All-cons IsSettled One [] one_settled (All-nil IsSettled); number_is = refl }
one_bit-is false = record { wide = refl; settled = All-cons IsSettled Zero [] zero_settled (All-nil IsSettled); number_is = refl }

-- ---- side by side

pub is-append : (n m x y : ℕ) (low high : List Tern) → Is n x low → Is m y high → Is (n + m) (x + 2 ^ n * y) (low ++ high)
is-append n m x y low high h k = record {
  wide = length-both low high ∙ ap (λ (i : ℕ). i + length high) h.wide ∙ ap (λ (i : ℕ). n + i) k.wide;
  settled = All-append IsSettled low high h.settled k.settled;
  number_is = number-append low high n h.wide ∙ ap (λ (i : ℕ). i + 2 ^ n * number high) h.number_is ∙ ap (λ (i : ℕ). x + 2 ^ n * i) k.number_is;
}
  where
    length-both : (a b : List Tern) → length (a ++ b) ≡ length a + length b
    length-both [] b = omega arith
    length-both (x ∷ a) b = omega (arith, length-both a b)

pub is-nothing : Is 0 0 []
is-nothing = record { wide = refl; settled = All-nil IsSettled; number_is = refl }
