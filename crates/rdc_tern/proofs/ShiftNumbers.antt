-- Serves specs/WordLaws.antt: a settled amount moves a word by its number, and moved words are products and quotients.
use Rattle.std.proofs.Common.{◌≡◌, ℕ, zero, suc, ◌+◌, ◌-◌, ◌*◌, ◌/◌, ◌%◌, ◌^◌, ◌<◌, ◌≤◌, List, [], ◌∷◌, ◌++◌, length, take, drop, get_or, replicate, refl, sym, ap, ◌∙◌, subst, inl, inr, append_assoc, arith}
use Rattle.std.specs.Prelude.{pos, negsuc, ◌-ℤ◌}
use Rattle.std.proofs.lemmas.Int.{ints}
use Rattle.std.proofs.lemmas.Bool.{cases_lt}
use Rattle.std.proofs.lemmas.Nat.{pow-add, div-mul-add}
use Rattle.std.proofs.lemmas.List.{take_all, take-take, replicate-append-replicate, get_or_past, length-map, get_or_default}
use Rattle.std.proofs.lemmas.List.Elements.{All-cons, All-head, All-tail}
use Rattle.rdc_tern.specs.declared.value.Tern.{Tern}
use Rattle.rdc_tern.specs.declared.value.Tern.TheVariants.{Zero, One, Unsettled}
use Rattle.rdc_tern.specs.Kleene.{not_of, IsSettled}
use Rattle.rdc_tern.specs.Shifts.{raised, lowered, select_of, shift_of, top_of, shl_of, shr_of, sar_of}
use Rattle.rdc_tern.specs.Words.{inverted}
use Rattle.rdc_tern.specs.Numbers.{AreSettled, bit_of, number, signed, quotient_down}
use Rattle.rdc_tern.proofs.ShiftSteps.{length-raised, length-lowered, length-select_of}
use Rattle.rdc_tern.proofs.SumNumbers.{double, bit-below, number-below, remainder_is, number_parts, number_raised, lost, number_inverted, inverted_settled}
use Rattle.rdc_tern.proofs.GateLemmas.{not_not, mux_one, mux_zero, zero_settled}

-- moves add up, and keep the width
record IsMove (moved : ℕ → List Tern → List Tern) : Type 0 where
  pub none : (w : List Tern) → moved 0 w ≡ w
  pub again : (n m : ℕ) (w : List Tern) → moved n (moved m w) ≡ moved (m + n) w
  pub wide : (n : ℕ) (w : List Tern) → length (moved n w) ≡ length w

select_one : (x y : List Tern) → length x ≡ length y → select_of One x y ≡ x
select_one [] y same = refl
select_one (a ∷ x) [] same = absurd (omega arith)
select_one (a ∷ x) (b ∷ y) same = rw (mux_one a b) (ap (λ (t : List Tern). a ∷ t) (select_one x y (omega arith)))

select_zero : (x y : List Tern) → length x ≡ length y → select_of Zero x y ≡ y
select_zero [] [] same = refl
select_zero [] (b ∷ y) same = absurd (omega arith)
select_zero (a ∷ x) [] same = absurd (omega arith)
select_zero (a ∷ x) (b ∷ y) same = rw (mux_zero a b) (ap (λ (t : List Tern). b ∷ t) (select_zero x y (omega arith)))

shift_is : (moved : ℕ → List Tern → List Tern) → IsMove moved → (i : ℕ) (w amount : List Tern) → AreSettled amount → shift_of moved i w amount ≡ moved (2 ^ i * number amount) w
shift_is moved m i w [] h =
    let none : 2 ^ i * 0 ≡ 0 = omega arith in
    sym (m.none w) ∙ ap (λ (n : ℕ). moved n w) (sym none)
shift_is moved m i w (Unsettled ∷ amount) h = absurd (All-head IsSettled Unsettled amount h refl)
shift_is moved m i w (Zero ∷ amount) h =
    let stays : select_of Zero (moved (2 ^ i) w) w ≡ w = select_zero (moved (2 ^ i) w) w (m.wide (2 ^ i) w) in
    let places : 2 ^ (i + 1) * number amount ≡ 2 ^ i * (0 + 2 * number amount) = rw (pow-add 2 i 1) (omega arith) in
    ap (λ (t : List Tern). shift_of moved (i + 1) t amount) stays ∙ shift_is moved m (i + 1) w amount (All-tail IsSettled Zero amount h) ∙ ap (λ (n : ℕ). moved n w) places
shift_is moved m i w (One ∷ amount) h =
    let moves : select_of One (moved (2 ^ i) w) w ≡ moved (2 ^ i) w = select_one (moved (2 ^ i) w) w (m.wide (2 ^ i) w) in
    let places : 2 ^ i + 2 ^ (i + 1) * number amount ≡ 2 ^ i * (1 + 2 * number amount) = rw (pow-add 2 i 1) (omega arith) in
    ap (λ (t : List Tern). shift_of moved (i + 1) t amount) moves ∙ shift_is moved m (i + 1) (moved (2 ^ i) w) amount (All-tail IsSettled One amount h)
    ∙ m.again (2 ^ (i + 1) * number amount) (2 ^ i) w ∙ ap (λ (n : ℕ). moved n w) places

take_inner : (n m : ℕ) (p q : List Tern) → n ≤ m → take n (p ++ take m q) ≡ take n (p ++ q)
take_inner n m [] q le = take-take n m q le
take_inner zero m (a ∷ p) q le = refl
take_inner (suc n) m (a ∷ p) q le = ap (λ (t : List Tern). a ∷ t) (take_inner n m p q (omega arith))

raised_again : (f : Tern) (n m : ℕ) (w : List Tern) → raised f n (raised f m w) ≡ raised f (m + n) w
raised_again f n m w =
    let fills : replicate n f ++ (replicate m f ++ w) ≡ replicate (m + n) f ++ w =
    sym (append_assoc (replicate n f) (replicate m f) w) ∙ ap (λ (t : List Tern). t ++ w) (replicate-append-replicate n m f) ∙ ap (λ (k : ℕ). replicate k f ++ w) (omega arith) in
    ap (λ (k : ℕ). take k (replicate n f ++ raised f m w)) (length-raised f m w) ∙ take_inner (length w) (length w) (replicate n f) (replicate m f ++ w) (omega arith) ∙ ap (take (length w)) fills

raised_moves : (f : Tern) → IsMove (raised f)
raised_moves f = record {
  none = λ w. take_all (length w) w (omega arith);
  again = raised_again f;
  wide = length-raised f;
}

get_or-lowered : (f : Tern) (m n : ℕ) (w : List Tern) → get_or (lowered f m w) n f ≡ get_or w (n + m) f
get_or-lowered f m n [] = refl
get_or-lowered f m zero (a ∷ w) = ap (λ (k : ℕ). get_or (a ∷ w) k f) (omega arith)
get_or-lowered f m (suc n) (a ∷ w) =
    let places : suc (n + m) ≡ suc n + m = omega arith in
    get_or-lowered f m n w ∙ ap (λ (k : ℕ). get_or (a ∷ w) k f) places

lowered_again : (f : Tern) (n m : ℕ) (w : List Tern) → lowered f n (lowered f m w) ≡ lowered f (m + n) w
lowered_again f n m [] = refl
lowered_again f n m (a ∷ w) =
    let read : get_or (lowered f m (a ∷ w)) n f ≡ get_or (a ∷ w) (m + n) f = get_or-lowered f m n (a ∷ w) ∙ ap (λ (k : ℕ). get_or (a ∷ w) k f) (omega arith) in
    ap (λ (b : Tern). b ∷ lowered f n (lowered f m w)) read ∙ ap (λ (t : List Tern). get_or (a ∷ w) (m + n) f ∷ t) (lowered_again f n m w)

lowered_none : (f : Tern) (w : List Tern) → lowered f 0 w ≡ w
lowered_none f [] = refl
lowered_none f (a ∷ w) = ap (λ (t : List Tern). a ∷ t) (lowered_none f w)

lowered_moves : (f : Tern) → IsMove (lowered f)
lowered_moves f = record {
  none = lowered_none f;
  again = lowered_again f;
  wide = length-lowered f;
}

places_are : (n : ℕ) → 2 ^ 0 * n ≡ n
places_are n = omega arith

pub shl_moves : (w amount : List Tern) → AreSettled amount → shl_of w amount ≡ raised Zero (number amount) w
shl_moves w amount h = shift_is (raised Zero) (raised_moves Zero) 0 w amount h ∙ ap (λ (n : ℕ). raised Zero n w) (places_are (number amount))

pub shr_moves : (w amount : List Tern) → AreSettled amount → shr_of w amount ≡ lowered Zero (number amount) w
shr_moves w amount h = shift_is (lowered Zero) (lowered_moves Zero) 0 w amount h ∙ ap (λ (n : ℕ). lowered Zero n w) (places_are (number amount))

pub sar_moves : (w amount : List Tern) → AreSettled amount → sar_of w amount ≡ lowered (top_of w) (number amount) w
sar_moves w amount h = shift_is (lowered (top_of w)) (lowered_moves (top_of w)) 0 w amount h ∙ ap (λ (n : ℕ). lowered (top_of w) n w) (places_are (number amount))

-- any amount keeps the width
length-shift_of : (moved : ℕ → List Tern → List Tern) → IsMove moved → (i : ℕ) (w amount : List Tern) → length (shift_of moved i w amount) ≡ length w
length-shift_of moved m i w [] = refl
length-shift_of moved m i w (b ∷ amount) =
    length-shift_of moved m (i + 1) (select_of b (moved (2 ^ i) w) w) amount ∙ length-select_of b (moved (2 ^ i) w) w (m.wide (2 ^ i) w)

pub length-shl_of : (w amount : List Tern) → length (shl_of w amount) ≡ length w
length-shl_of w amount = length-shift_of (raised Zero) (raised_moves Zero) 0 w amount

pub length-shr_of : (w amount : List Tern) → length (shr_of w amount) ≡ length w
length-shr_of w amount = length-shift_of (lowered Zero) (lowered_moves Zero) 0 w amount

pub length-sar_of : (w amount : List Tern) → length (sar_of w amount) ≡ length w
length-sar_of w amount = length-shift_of (lowered (top_of w)) (lowered_moves (top_of w)) 0 w amount

-- up is a product
pub shl_number : (w amount : List Tern) → AreSettled w → AreSettled amount → number (shl_of w amount) ≡ (number w * 2 ^ number amount) % 2 ^ length w
shl_number w amount hw ha =
    let n = number amount in
    let small : number (raised Zero n w) < 2 ^ length w = subst (λ (k : ℕ). number (raised Zero n w) < 2 ^ k) (length-raised Zero n w) (number-below (raised Zero n w)) in
    ap number (shl_moves w amount ha) ∙ remainder_is (number (raised Zero n w)) (2 ^ length w) (lost n w) (number w * 2 ^ n) (number_raised n w) small

number_read : (n : ℕ) (w : List Tern) → number (drop n w) ≡ bit_of (get_or w n Zero) + 2 * number (drop (suc n) w)
number_read zero [] = refl
number_read zero (a ∷ w) = refl
number_read (suc n) [] = refl
number_read (suc n) (a ∷ w) = number_read n w

number_lowered : (n : ℕ) (w : List Tern) → number (lowered Zero n w) ≡ number (drop n w)
number_lowered zero [] = refl
number_lowered (suc n) [] = refl
number_lowered n (a ∷ w) = ap (λ (k : ℕ). bit_of (get_or (a ∷ w) n Zero) + 2 * k) (number_lowered n w) ∙ sym (number_read n (a ∷ w))

number_front : (n : ℕ) (w : List Tern) → number (take n w) < 2 ^ n
number_front zero w = omega arith
number_front (suc n) [] = rw (double n) (omega (arith, number_front n []))
number_front (suc n) (a ∷ w) = rw (double n) (omega (arith, number_front n w, bit-below a))

-- down is a quotient
number_down : (n : ℕ) (w : List Tern) → number (lowered Zero n w) ≡ number w / 2 ^ n
number_down n w =
    let parts : number (drop n w) * 2 ^ n + number (take n w) ≡ number w = omega (arith, number_parts n w) in
    number_lowered n w ∙ sym (div-mul-add (number (drop n w)) (2 ^ n) (number (take n w)) (number_front n w)) ∙ ap (λ (k : ℕ). k / 2 ^ n) parts

pub shr_number : (w amount : List Tern) → AreSettled w → AreSettled amount → number (shr_of w amount) ≡ number w / 2 ^ number amount
shr_number w amount hw ha = ap number (shr_moves w amount ha) ∙ number_down (number amount) w

inverted_read : (n : ℕ) (w : List Tern) → not_of (get_or (inverted w) n Zero) ≡ get_or w n One
inverted_read n [] = refl
inverted_read zero (a ∷ w) = not_not a
inverted_read (suc n) (a ∷ w) = inverted_read n w

-- ones come in from the top as zeros do of the inverse
inverted_lowered : (n : ℕ) (w : List Tern) → inverted (lowered Zero n (inverted w)) ≡ lowered One n w
inverted_lowered n [] = refl
inverted_lowered n (a ∷ w) = ap (λ (b : Tern). b ∷ inverted (lowered Zero n (inverted w))) (inverted_read n (a ∷ w)) ∙ ap (λ (t : List Tern). get_or (a ∷ w) n One ∷ t) (inverted_lowered n w)

get_settled : (n : ℕ) (w : List Tern) → AreSettled w → IsSettled (get_or w n Zero)
get_settled n [] h = zero_settled
get_settled zero (a ∷ w) h = All-head IsSettled a w h
get_settled (suc n) (a ∷ w) h = get_settled n w (All-tail IsSettled a w h)

lowered_settled : (n : ℕ) (w : List Tern) → AreSettled w → AreSettled (lowered Zero n w)
lowered_settled n [] h = h
lowered_settled n (a ∷ w) h = All-cons IsSettled (get_or (a ∷ w) n Zero) (lowered Zero n w) (get_settled n (a ∷ w) h) (lowered_settled n w (All-tail IsSettled a w h))

low_number : (n m : ℕ) → pos n -ℤ pos (0 * m) ≡ pos n
low_number n m = omega (arith, ints)

high_number : (n m : ℕ) → n < m → pos n -ℤ pos (1 * m) ≡ negsuc (m - suc n)
high_number n m lt = omega (arith, ints)

signed_low : (w : List Tern) → top_of w ≡ Zero → signed w ≡ pos (number w)
signed_low w top = ap (λ (a : Tern). pos (number w) -ℤ pos (bit_of a * 2 ^ length w)) top ∙ low_number (number w) (2 ^ length w)

signed_high : (w : List Tern) → top_of w ≡ One → signed w ≡ negsuc (2 ^ length w - suc (number w))
signed_high w top = ap (λ (a : Tern). pos (number w) -ℤ pos (bit_of a * 2 ^ length w)) top ∙ high_number (number w) (2 ^ length w) (number-below w)

-- the sign stays
top_lowered : (t : Tern) (n : ℕ) (w : List Tern) → 0 < length w → top_of w ≡ t → top_of (lowered t n w) ≡ t
top_lowered t n w some top =
    let wide : length (lowered t n w) ≡ length w = length-lowered t n w in
    let last = length w - 1 in
    let same : get_or w last t ≡ t = get_or_default w last t Unsettled (omega arith) ∙ top in
    ap (λ (k : ℕ). get_or (lowered t n w) (k - 1) Unsettled) wide ∙ get_or_default (lowered t n w) last Unsettled t (omega arith) ∙ get_or-lowered t n last w ∙ elim (cases_lt (last + n) (length w)) [
      | inl here ↦ let place : last + n ≡ last = omega arith in ap (λ (k : ℕ). get_or w k t) place ∙ same
      | inr past ↦ get_or_past w (last + n) t past
    ]

sar_down : (t : Tern) (n : ℕ) (w : List Tern) → IsSettled t → AreSettled w → 0 < length w → top_of w ≡ t → signed (lowered t n w) ≡ quotient_down (signed w) (2 ^ n)
sar_down Unsettled n w ht h some top = absurd (ht refl)
sar_down Zero n w ht h some top =
    signed_low (lowered Zero n w) (top_lowered Zero n w some top) ∙ ap pos (number_down n w) ∙ sym (ap (λ z. quotient_down z (2 ^ n)) (signed_low w top))
sar_down One n w ht h some top =
    let r = lowered One n w in
    let z = lowered Zero n (inverted w) in
    let wide : length r ≡ length w = length-lowered One n w in
    let z-wide : length z ≡ length w = length-lowered Zero n (inverted w) ∙ length-map w not_of in
    let turned : number r + number z + 1 ≡ 2 ^ length w =
    ap (λ (t : List Tern). number t + number z + 1) (sym (inverted_lowered n w)) ∙ number_inverted z (lowered_settled n (inverted w) (inverted_settled w h)) ∙ ap (λ (k : ℕ). 2 ^ k) z-wide in
    let all : number (inverted w) + number w + 1 ≡ 2 ^ length w = number_inverted w h in
    let inverse : number (inverted w) ≡ 2 ^ length w - suc (number w) = omega arith in
    let quotient : 2 ^ length w - suc (number r) ≡ number z = omega arith in
    signed_high r (top_lowered One n w some top) ∙ ap (λ (k : ℕ). negsuc (2 ^ k - suc (number r))) wide ∙ ap negsuc (quotient ∙ number_down n (inverted w) ∙ ap (λ (k : ℕ). k / 2 ^ n) inverse)
    ∙ sym (ap (λ z. quotient_down z (2 ^ n)) (signed_high w top))

pub sar_number : (w amount : List Tern) → AreSettled w → AreSettled amount → 0 < length w → signed (sar_of w amount) ≡ quotient_down (signed w) (2 ^ number amount)
sar_number w amount hw ha some = ap signed (sar_moves w amount ha) ∙ sar_down (top_of w) (number amount) w (hw (length w - 1) Unsettled (omega arith)) hw some refl
