-- Serves specs/ConstantLaws.antt: sums, products and gates of settled words give what constants give of their numbers.
use Rattle.std.proofs.Common.{◌≡◌, ℕ, suc, ◌+◌, ◌-◌, ◌*◌, ◌/◌, ◌%◌, ◌^◌, ◌<◌, false, bit_and, bit_or, bit_xor, List, [], ◌∷◌, length, refl, sym, ap, ap₂, subst, ◌∙◌, arith}
use Rattle.std.proofs.Math.Nat.{mod-add-mod}
use Rattle.std.proofs.lemmas.Nat.{and_block, or_block, xor_block}
use Rattle.std.proofs.lemmas.List.{length-map, length-replicate}
use Rattle.std.proofs.lemmas.List.Elements.{All-nil, All-cons, All-head, All-tail}
use Rattle.rdc_tern.specs.declared.value.Tern.{Tern}
use Rattle.rdc_tern.specs.declared.value.Tern.TheVariants.{Zero, One, Unsettled}
use Rattle.rdc_tern.specs.Kleene.{not_of, and_of, or_of, xor_of, IsSettled}
use Rattle.rdc_tern.specs.Words.{inverted, zeros, add_of, sub_of, neg_of, mul_of}
use Rattle.rdc_tern.specs.Numbers.{AreSettled, bit_of, number}
use Rattle.rdc_tern.proofs.GateLemmas.{and_settled, or_settled, xor_settled}
use Rattle.rdc_tern.proofs.MonotoneLemmas.{words_settle}
use Rattle.rdc_tern.proofs.SumNumbers.{bit-below, length-sum_of, number_sum, number_difference, number_negation, number_inverted, inverted_settled}
use Rattle.rdc_tern.proofs.ProductNumbers.{length-mul_of, number_product}
use Rattle.vlog_tree.specs.declared.operator.Unary.{Unary}
use Rattle.vlog_tree.specs.declared.operator.Unary.TheVariants as unary
use Rattle.vlog_tree.specs.declared.operator.Binary.{Binary}
use Rattle.vlog_tree.specs.declared.operator.Binary.TheVariants as binary
use Rattle.vlog_const.specs.declared.shape.Shape.{Shape}
use Rattle.vlog_const.specs.declared.shape.Family.TheVariants.{Contextual}
use Rattle.vlog_const.specs.Widths.{family_of, operand_family}
use Rattle.vlog_const.specs.Operations.{is_division}
use Rattle.vlog_const.specs.Words.{inverted as flipped, negated, sized as turned, arithmetic as computed}
use Rattle.design_form.specs.Bits.{each}
use Rattle.design_form.specs.Gates.{gate_of, sized, arithmetic}
use Rattle.design_form.proofs.SettledWords.{Is, is-below}

-- ---- sums

pub is-inverted : (n x : ℕ) (w : List Tern) → Is n x w → Is n (flipped n x) (inverted w)
is-inverted n x w h =
    let all = number_inverted w h.settled in
    let number = h.number_is in
    let wide = ap (λ (k : ℕ). 2 ^ k) h.wide in
    record { wide = length-map w not_of ∙ h.wide; settled = inverted_settled w h.settled; number_is = omega (arith, all, number, wide) }

length-negated : (a : List Tern) → length (neg_of a) ≡ length a
length-negated a = length-sum_of One (zeros a) (inverted a) (length-replicate (length a) Zero ∙ sym (length-map a not_of)) ∙ length-replicate (length a) Zero

is-negated : (n x : ℕ) (w : List Tern) → Is n x w → Is n (negated n x) (neg_of w)
is-negated n x w h =
    let below = is-below n x w h in
    let same : 2 ^ n - x ≡ ((2 ^ n - 1) - x) + 1 = omega (arith, below) in
    record {
      wide = length-negated w ∙ h.wide;
      settled = words_settle.negation w h.settled;
      number_is = number_negation w h.settled ∙ ap (λ (k : ℕ). (2 ^ k - number w) % 2 ^ k) h.wide ∙ ap (λ (k : ℕ). (2 ^ n - k) % 2 ^ n) h.number_is ∙ ap (λ (k : ℕ). k % 2 ^ n) same;
    }

is-sum : (n x y : ℕ) (a b : List Tern) → Is n x a → Is n y b → Is n ((x + y) % 2 ^ n) (add_of a b)
is-sum n x y a b h k =
    let same : length a ≡ length b = h.wide ∙ sym k.wide in
    record {
      wide = length-sum_of Zero a b same ∙ h.wide;
      settled = words_settle.sum a b h.settled k.settled;
      number_is = number_sum a b h.settled k.settled same ∙ ap (λ (j : ℕ). (number a + number b) % 2 ^ j) h.wide ∙ ap (λ (j : ℕ). (j + number b) % 2 ^ n) h.number_is ∙ ap (λ (j : ℕ). (x + j) % 2 ^ n) k.number_is;
    }

-- a difference is a sum with the number of opposite sign
less-negated : (m x y : ℕ) → y < m → (m + x - y) % m ≡ (x + (((m - 1) - y) + 1) % m) % m
less-negated m x y h =
    let z = ((m - 1) - y) + 1 in
    let whole : m + x - y ≡ z + x = omega arith in
    let turn : z % m + x ≡ x + z % m = omega arith in
    ap (λ (j : ℕ). j % m) whole ∙ sym (mod-add-mod z m x) ∙ ap (λ (j : ℕ). j % m) turn

is-difference : (n x y : ℕ) (a b : List Tern) → Is n x a → Is n y b → Is n ((x + negated n y) % 2 ^ n) (sub_of a b)
is-difference n x y a b h k =
    let same : length a ≡ length b = h.wide ∙ sym k.wide in
    record {
      wide = length-sum_of One a (inverted b) (same ∙ sym (length-map b not_of)) ∙ h.wide;
      settled = words_settle.difference a b h.settled k.settled;
      number_is = number_difference a b h.settled k.settled same ∙ ap (λ (j : ℕ). (2 ^ j + number a - number b) % 2 ^ j) h.wide ∙ ap (λ (j : ℕ). (2 ^ n + j - number b) % 2 ^ n) h.number_is
          ∙ ap (λ (j : ℕ). (2 ^ n + x - j) % 2 ^ n) k.number_is ∙ less-negated (2 ^ n) x y (is-below n y b k);
    }

is-product : (n x y : ℕ) (a b : List Tern) → Is n x a → Is n y b → Is n ((x * y) % 2 ^ n) (mul_of a b)
is-product n x y a b h k = record {
  wide = length-mul_of a b ∙ h.wide;
  settled = words_settle.product a b h.settled k.settled;
  number_is = number_product a b h.settled k.settled ∙ ap (λ (j : ℕ). (number a * number b) % 2 ^ j) h.wide ∙ ap (λ (j : ℕ). (j * number b) % 2 ^ n) h.number_is ∙ ap (λ (j : ℕ). (x * j) % 2 ^ n) k.number_is;
}

-- ---- gates bit by bit

-- a gate on bits, and an operation on numbers that is that gate on each bit
record IsBitwise (f : Tern → Tern → Tern) (g : ℕ → ℕ → ℕ) : Type 0 where
  pub none : g 0 0 ≡ 0
  pub step : (p q m n : ℕ) → p < 2 → q < 2 → g (p + 2 * m) (q + 2 * n) ≡ g p q + 2 * g m n
  pub bit : (a b : Tern) → IsSettled a → IsSettled b → bit_of (f a b) ≡ g (bit_of a) (bit_of b)
  pub settles : (a b : Tern) → IsSettled a → IsSettled b → IsSettled (f a b)

number-each : (f : Tern → Tern → Tern) (g : ℕ → ℕ → ℕ) → IsBitwise f g → (a b : List Tern) → AreSettled a → AreSettled b → length a ≡ length b → number (each f a b) ≡ g (number a) (number b)
unfolding each
number-each f g is [] [] ha hb same = sym is.none
number-each f g is [] (b ∷ y) ha hb same = absurd (omega arith)
number-each f g is (a ∷ x) [] ha hb same = absurd (omega arith)
number-each f g is (a ∷ x) (b ∷ y) ha hb same =
    let rest = number-each f g is x y (All-tail IsSettled a x ha) (All-tail IsSettled b y hb) (omega arith) in
    ap₂ (λ (i j : ℕ). i + 2 * j) (is.bit a b (All-head IsSettled a x ha) (All-head IsSettled b y hb)) rest
    ∙ sym (is.step (bit_of a) (bit_of b) (number x) (number y) (bit-below a) (bit-below b))

each-settled : (f : Tern → Tern → Tern) (g : ℕ → ℕ → ℕ) → IsBitwise f g → (a b : List Tern) → AreSettled a → AreSettled b → AreSettled (each f a b)
unfolding each
each-settled f g is [] b ha hb = All-nil IsSettled
each-settled f g is (a ∷ x) [] ha hb = All-nil IsSettled
each-settled f g is (a ∷ x) (b ∷ y) ha hb =
    All-cons IsSettled (f a b) (each f x y) (is.settles a b (All-head IsSettled a x ha) (All-head IsSettled b y hb)) (each-settled f g is x y (All-tail IsSettled a x ha) (All-tail IsSettled b y hb))

length-each : (f : Tern → Tern → Tern) (a b : List Tern) → length a ≡ length b → length (each f a b) ≡ length a
unfolding each
length-each f [] b h = refl
length-each f (a ∷ x) [] h = sym h
length-each f (a ∷ x) (b ∷ y) h = ap suc (length-each f x y (omega arith))

is-each : (f : Tern → Tern → Tern) (g : ℕ → ℕ → ℕ) → IsBitwise f g → (n x y : ℕ) (a b : List Tern) → Is n x a → Is n y b → Is n (g x y) (each f a b)
is-each f g is n x y a b h k =
    let same : length a ≡ length b = h.wide ∙ sym k.wide in
    record {
      wide = length-each f a b same ∙ h.wide;
      settled = each-settled f g is a b h.settled k.settled;
      number_is = number-each f g is a b h.settled k.settled same ∙ ap₂ g h.number_is k.number_is;
    }

-- what holds of 0 and 1 holds of settled bits
settled_cases : (P : Tern → Tern → Type 0) → P Zero Zero → P Zero One → P One Zero → P One One → (a b : Tern) → IsSettled a → IsSettled b → P a b
settled_cases P zz zo oz oo Unsettled b ha hb = absurd (ha refl)
settled_cases P zz zo oz oo Zero Unsettled ha hb = absurd (hb refl)
settled_cases P zz zo oz oo Zero Zero ha hb = zz
settled_cases P zz zo oz oo Zero One ha hb = zo
settled_cases P zz zo oz oo One Unsettled ha hb = absurd (hb refl)
settled_cases P zz zo oz oo One Zero ha hb = oz
settled_cases P zz zo oz oo One One ha hb = oo

-- the lowest bits and the rest, apart
split : (g : ℕ → ℕ → ℕ) → ((m n p q : ℕ) → p < 2 → q < 2 → g (m * 2 + p) (n * 2 + q) ≡ g m n * 2 + g p q) → (p q m n : ℕ) → p < 2 → q < 2 → g (p + 2 * m) (q + 2 * n) ≡ g p q + 2 * g m n
split g block p q m n hp hq =
    let left : p + 2 * m ≡ m * 2 + p = omega arith in
    let right : q + 2 * n ≡ n * 2 + q = omega arith in
    let turn : g m n * 2 + g p q ≡ g p q + 2 * g m n = omega arith in
    ap₂ g left right ∙ block m n p q hp hq ∙ turn

and_bits : IsBitwise and_of bit_and
and_bits = record {
  none = refl;
  step = split bit_and (λ m n p q hp hq. and_block 1 m n p q hp hq);
  bit = settled_cases (λ a b. bit_of (and_of a b) ≡ bit_and (bit_of a) (bit_of b)) refl refl refl refl;
  settles = and_settled;
}

or_bits : IsBitwise or_of bit_or
or_bits = record {
  none = refl;
  step = split bit_or (λ m n p q hp hq. or_block 1 m n p q hp hq);
  bit = settled_cases (λ a b. bit_of (or_of a b) ≡ bit_or (bit_of a) (bit_of b)) refl refl refl refl;
  settles = or_settled;
}

xor_bits : IsBitwise xor_of bit_xor
xor_bits = record {
  none = refl;
  step = split bit_xor (λ m n p q hp hq. xor_block 1 m n p q hp hq);
  bit = settled_cases (λ a b. bit_of (xor_of a b) ≡ bit_xor (bit_of a) (bit_of b)) refl refl refl refl;
  settles = xor_settled;
}

-- a gate that is another one on each pair of bits
each-same : (f g : Tern → Tern → Tern) → ((a b : Tern) → f a b ≡ g a b) → (a b : List Tern) → each f a b ≡ each g a b
unfolding each
each-same f g e [] b = refl
each-same f g e (a ∷ x) [] = refl
each-same f g e (a ∷ x) (b ∷ y) = ap₂ (λ (c : Tern) (t : List Tern). c ∷ t) (e a b) (each-same f g e x y)

each-not : (a b : List Tern) → each (λ c d. not_of (xor_of c d)) a b ≡ inverted (each xor_of a b)
unfolding each
each-not [] b = refl
each-not (a ∷ x) [] = refl
each-not (a ∷ x) (b ∷ y) = ap (λ (t : List Tern). not_of (xor_of a b) ∷ t) (each-not x y)

and-gate : (a b : List Tern) → each and_of a b ≡ each (gate_of binary.And) a b
unfolding gate_of
and-gate a b = each-same and_of (gate_of binary.And) (λ c d. refl) a b

or-gate : (a b : List Tern) → each or_of a b ≡ each (gate_of binary.Or) a b
unfolding gate_of
or-gate a b = each-same or_of (gate_of binary.Or) (λ c d. refl) a b

xor-gate : (a b : List Tern) → each xor_of a b ≡ each (gate_of binary.Xor) a b
unfolding gate_of
xor-gate a b = each-same xor_of (gate_of binary.Xor) (λ c d. refl) a b

xnor-gate : (a b : List Tern) → inverted (each xor_of a b) ≡ each (gate_of binary.Xnor) a b
unfolding gate_of
xnor-gate a b = sym (each-not a b) ∙ each-same (λ c d. not_of (xor_of c d)) (gate_of binary.Xnor) (λ c d. refl) a b

-- ---- operators

pub is-sized : (op : Unary) → operand_family op ≡ Contextual → (n x : ℕ) (w : List Tern) → Is n x w → Is n (turned op n x) (sized op w)
unfolding sized turned operand_family
is-sized unary.Plus f n x w h = h
is-sized unary.Minus f n x w h = is-negated n x w h
is-sized unary.Invert f n x w h = is-inverted n x w h
is-sized _ f n x w h = absurd cc

pub is-arithmetic : (op : Binary) → family_of op ≡ Contextual → is_division op ≡ false → (c : Shape) (x y : ℕ) (a b : List Tern) → Is c.width x a → Is c.width y b → Is c.width (computed op c x y) (arithmetic op a b)
unfolding computed arithmetic family_of is_division
is-arithmetic binary.Add f d c x y a b h k = is-sum c.width x y a b h k
is-arithmetic binary.Subtract f d c x y a b h k = is-difference c.width x y a b h k
is-arithmetic binary.Multiply f d c x y a b h k = is-product c.width x y a b h k
is-arithmetic binary.And f d c x y a b h k = subst (Is c.width (bit_and x y)) (and-gate a b) (is-each and_of bit_and and_bits c.width x y a b h k)
is-arithmetic binary.Or f d c x y a b h k = subst (Is c.width (bit_or x y)) (or-gate a b) (is-each or_of bit_or or_bits c.width x y a b h k)
is-arithmetic binary.Xor f d c x y a b h k = subst (Is c.width (bit_xor x y)) (xor-gate a b) (is-each xor_of bit_xor xor_bits c.width x y a b h k)
is-arithmetic binary.Xnor f d c x y a b h k =
    subst (Is c.width (flipped c.width (bit_xor x y))) (xnor-gate a b) (is-inverted c.width (bit_xor x y) (each xor_of a b) (is-each xor_of bit_xor xor_bits c.width x y a b h k))
is-arithmetic _ f d c x y a b h k = absurd cc
