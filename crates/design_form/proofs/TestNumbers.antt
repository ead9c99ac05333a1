-- Serves specs/ConstantLaws.antt: a test of settled words tells what constants tell of their numbers, and a choice is its side.
use Rattle.std.proofs.Common.{◌≡◌, ◌↔◌, ℕ, zero, suc, ◌+◌, ◌-◌, ◌*◌, ◌/◌, ◌%◌, ◌^◌, ◌<◌, Bool, true, false, not, ◌&&◌, ◌||◌, ◌==◌, nat_lt, nat_le, if◌then◌else◌, count_ones, List, [], ◌∷◌, length, refl, sym, ap, ap₂, subst, ◌∙◌, arith, lt-ltb, ltb-true, eq-eqb, ne_eqb, eqb-true}
use Rattle.std.specs.Prelude.{pos, ◌-ℤ◌, ◌<ℤ◌}
use Rattle.std.proofs.lemmas.Int.{ints}
use Rattle.std.proofs.lemmas.Nat.{ones-le}
use Rattle.std.proofs.lemmas.List.{get_or_default}
use lib.Count.{ones_step}
use Rattle.rdc_tern.specs.declared.value.Tern.{Tern}
use Rattle.rdc_tern.specs.declared.value.Tern.TheVariants.{Zero, One, Unsettled}
use Rattle.rdc_tern.specs.Kleene.{not_of, and_of, or_of, IsSettled}
use Rattle.rdc_tern.specs.Shifts.{select_of, top_of}
use Rattle.rdc_tern.specs.Words.{any_of, all_of, parity_of, eq_of, lt_of, lt_signed_of}
use Rattle.rdc_tern.specs.Numbers.{bit_of, number, ones, signed}
use Rattle.rdc_tern.proofs.GateLemmas.{mux_one, mux_zero}
use Rattle.rdc_tern.proofs.MonotoneLemmas.{words_settle}
use Rattle.rdc_tern.proofs.SumNumbers.{bit-below}
use Rattle.rdc_tern.proofs.CompareNumbers.{eq_number, lt_number, lt_signed_number, any_number, all_number, parity_number}
use Rattle.vlog_tree.specs.declared.operator.Unary.{Unary}
use Rattle.vlog_tree.specs.declared.operator.Unary.TheVariants as unary
use Rattle.vlog_tree.specs.declared.operator.Binary.{Binary}
use Rattle.vlog_tree.specs.declared.operator.Binary.TheVariants as binary
use Rattle.vlog_const.specs.declared.shape.Shape.{Shape}
use Rattle.vlog_const.specs.Words.{is_negative, differ, is_less, compared as tested, reduced as folded, logical as joint}
use Rattle.design_form.specs.Gates.{less, compared, reduced, logical}
use Rattle.design_form.proofs.SettledWords.{Is, is-below, top-bit}

-- ---- one bit of a test

-- a bit that is 1 where a test is met, and else 0
abbrev pub Tells : Bool → Tern → Type 0
Tells b t = t ≡ (if b then One else Zero)

from_one : (t : Tern) (b : Bool) → IsSettled t → (t ≡ One → b ≡ true) → (b ≡ true → t ≡ One) → Tells b t
from_one Unsettled b h to back = absurd (h refl)
from_one Zero false h to back = refl
from_one Zero true h to back = back refl
from_one One true h to back = refl
from_one One false h to back = let e = to refl in cc

tells-not : (b : Bool) (t : Tern) → Tells b t → Tells (not b) (not_of t)
tells-not true t e = ap not_of e
tells-not false t e = ap not_of e

tells-and : (b c : Bool) (s t : Tern) → Tells b s → Tells c t → Tells (b && c) (and_of s t)
tells-and true c s t e f = ap₂ and_of e f
tells-and false c s t e f = ap₂ and_of e f

tells-or : (b c : Bool) (s t : Tern) → Tells b s → Tells c t → Tells (b || c) (or_of s t)
tells-or true c s t e f = ap₂ or_of e f
tells-or false c s t e f = ap₂ or_of e f

tells-equal : (n x y : ℕ) (a b : List Tern) → Is n x a → Is n y b → Tells (x == y) (eq_of a b)
tells-equal n x y a b h k =
    let numbers = eq_number a b h.settled k.settled (h.wide ∙ sym k.wide) in
    from_one (eq_of a b) (x == y) (words_settle.equal a b h.settled k.settled)
    (λ e. eq-eqb x y (sym h.number_is ∙ numbers.0 e ∙ k.number_is))
    (λ e. numbers.1 (h.number_is ∙ eqb-true x y e ∙ sym k.number_is))

tells-below : (n x y : ℕ) (a b : List Tern) → Is n x a → Is n y b → Tells (nat_lt x y) (lt_of a b)
tells-below n x y a b h k =
    let numbers = lt_number a b h.settled k.settled (h.wide ∙ sym k.wide) in
    let left = h.number_is in
    let right = k.number_is in
    from_one (lt_of a b) (nat_lt x y) (words_settle.less a b h.settled k.settled)
    (λ e. let lt = numbers.0 e in lt-ltb x y (omega (arith, lt, left, right)))
    (λ e. let lt = ltb-true x y e in numbers.1 (omega (arith, lt, left, right)))

sign_cases : (p q : Bool) (x y m : ℕ) → x < m → y < m
    → ((pos x -ℤ pos ((if p then 1 else 0) * m)) <ℤ (pos y -ℤ pos ((if q then 1 else 0) * m))) ↔ ((if differ p q then p else nat_lt x y) ≡ true)
unfolding differ
sign_cases true true x y m hx hy = (λ lt. lt-ltb x y (omega (arith, ints)), λ e. let lt = ltb-true x y e in omega (arith, ints))
sign_cases true false x y m hx hy = (λ lt. refl, λ e. omega (arith, ints))
sign_cases false true x y m hx hy = (λ lt. absurd (omega (arith, ints)), λ e. cc)
sign_cases false false x y m hx hy = (λ lt. lt-ltb x y (omega (arith, ints)), λ e. let lt = ltb-true x y e in omega (arith, ints))

-- the sign of a word is its top bit
signed-is : (n x : ℕ) (w : List Tern) → 0 < n → Is n x w → signed w ≡ (pos x -ℤ pos ((if nat_le (2 ^ (n - 1)) x then 1 else 0) * 2 ^ n))
signed-is n x w some h =
    let wide = h.wide in
    let top : top_of w ≡ (if nat_le (2 ^ (length w - 1)) (number w) then One else Zero) = get_or_default w (length w - 1) Unsettled Zero (omega arith) ∙ top-bit w h.settled in
    let bit : bit_of (top_of w) ≡ (if nat_le (2 ^ (n - 1)) x then 1 else 0) = ap bit_of top ∙ ap₂ (λ (k j : ℕ). bit_of (if nat_le (2 ^ (k - 1)) j then One else Zero)) h.wide h.number_is ∙ as-number (nat_le (2 ^ (n - 1)) x) in
    ap (λ (j : ℕ). pos j -ℤ pos (bit_of (top_of w) * 2 ^ length w)) h.number_is ∙ ap (λ (j : ℕ). pos x -ℤ pos (j * 2 ^ length w)) bit ∙ ap (λ (k : ℕ). pos x -ℤ pos ((if nat_le (2 ^ (n - 1)) x then 1 else 0) * 2 ^ k)) h.wide
  where
    as-number : (b : Bool) → bit_of (if b then One else Zero) ≡ (if b then 1 else 0)
    as-number true = refl
    as-number false = refl

tells-signed : (n x y : ℕ) (a b : List Tern) → Is n x a → Is n y b → Tells (is_less (record { width = n; signed = true }) x y) (lt_signed_of a b)
unfolding is_less is_negative differ
tells-signed zero x y [] [] h k =
    let left = h.number_is in
    let right = k.number_is in
    subst (λ (i : ℕ). Tells (if differ (nat_le 1 i) (nat_le 1 y) then nat_le 1 i else nat_lt i y) Zero) left (subst (λ (j : ℕ). Tells (if differ (nat_le 1 0) (nat_le 1 j) then nat_le 1 0 else nat_lt 0 j) Zero) right refl)
tells-signed zero x y (a ∷ w) b h k = let wide = h.wide in absurd (omega arith)
tells-signed zero x y [] (b ∷ v) h k = let wide = k.wide in absurd (omega arith)
tells-signed (suc m) x y a b h k =
    let wide = h.wide in
    let some : 0 < length a = omega arith in
    let p = nat_le (2 ^ (suc m - 1)) x in
    let q = nat_le (2 ^ (suc m - 1)) y in
    let numbers = lt_signed_number a b h.settled k.settled (h.wide ∙ sym k.wide) some in
    let left = signed-is (suc m) x a (omega arith) h in
    let right = signed-is (suc m) y b (omega arith) k in
    let cases = sign_cases p q x y (2 ^ suc m) (is-below (suc m) x a h) (is-below (suc m) y b k) in
    from_one (lt_signed_of a b) (if differ p q then p else nat_lt x y) (words_settle.signed_less a b h.settled k.settled)
    (λ e. cases.0 (rw (left, right) at (numbers.0 e)))
    (λ e. numbers.1 (rw (left, right) (cases.1 e)))

tells-less : (c : Shape) (x y : ℕ) (a b : List Tern) → Is c.width x a → Is c.width y b → Tells (is_less c x y) (less c.signed a b)
unfolding less is_less is_negative differ
tells-less c x y a b h k = by c.signed
  where
    by : (s : Bool) → Tells (is_less (record { width = c.width; signed = s }) x y) (less s a b)
    by true = tells-signed c.width x y a b h k
    by false = tells-below c.width x y a b h k

-- whether a number is not 0
positive : (x : ℕ) → 0 < x → not (x == 0) ≡ true
positive x h = ap not (ne_eqb x 0 (λ e. absurd (omega arith)))

from_positive : (x : ℕ) → not (x == 0) ≡ true → 0 < x
from_positive zero e = absurd cc
from_positive (suc x) e = omega arith

pub tells-some : (n x : ℕ) (w : List Tern) → Is n x w → Tells (not (x == 0)) (any_of w)
tells-some n x w h =
    let numbers = any_number w h.settled in
    let is = h.number_is in
    from_one (any_of w) (not (x == 0)) (words_settle.some w h.settled)
    (λ e. let lt = numbers.0 e in positive x (omega (arith, lt, is)))
    (λ e. let lt = from_positive x e in numbers.1 (omega (arith, lt, is)))

not-not : (b : Bool) (t : Tern) → Tells (not b) t → Tells b (not_of t)
not-not true t e = ap not_of e
not-not false t e = ap not_of e

tells-every : (n x : ℕ) (w : List Tern) → Is n x w → Tells (x == 2 ^ n - 1) (all_of w)
tells-every n x w h =
    let numbers = all_number w h.settled in
    let is = h.number_is in
    let wide = ap (λ (k : ℕ). 2 ^ k) h.wide in
    let below = is-below n x w h in
    from_one (all_of w) (x == 2 ^ n - 1) (words_settle.every w h.settled)
    (λ e. let whole = numbers.0 e in eq-eqb x (2 ^ n - 1) (omega (arith, whole, is, wide)))
    (λ e. let whole = eqb-true x (2 ^ n - 1) e in numbers.1 (omega (arith, whole, is, wide, below)))

ones-count : (w : List Tern) → ones w ≡ count_ones (number w)
ones-count [] = let few = ones-le 0 0 (omega arith) in omega (arith, few)
ones-count (a ∷ w) =
    let low : (bit_of a + 2 * number w) % 2 ≡ bit_of a = omega (arith, bit-below a) in
    let high : (bit_of a + 2 * number w) / 2 ≡ number w = omega (arith, bit-below a) in
    let step = ones_step (bit_of a + 2 * number w) in
    sym (step ∙ ap₂ (λ (i j : ℕ). i + j) low (ap count_ones high ∙ sym (ones-count w)))

tells-odd : (n x : ℕ) (w : List Tern) → Is n x w → Tells (count_ones x % 2 == 1) (parity_of w)
tells-odd n x w h = by (parity_of w) (words_settle.odd w h.settled) (parity_number w h.settled ∙ ap (λ (k : ℕ). k % 2) (ones-count w) ∙ ap (λ (k : ℕ). count_ones k % 2) h.number_is)
  where
    by : (t : Tern) → IsSettled t → bit_of t ≡ count_ones x % 2 → Tells (count_ones x % 2 == 1) t
    by Unsettled s e = absurd (s refl)
    by Zero s e = subst (λ (k : ℕ). Zero ≡ (if k == 1 then One else Zero)) e refl
    by One s e = subst (λ (k : ℕ). One ≡ (if k == 1 then One else Zero)) e refl

-- ---- choices

select_one : (x y : List Tern) → length x ≡ length y → select_of One x y ≡ x
select_one [] y same = refl
select_one (a ∷ x) [] same = absurd (omega arith)
select_one (a ∷ x) (b ∷ y) same = rw (mux_one a b) (ap (λ (t : List Tern). a ∷ t) (select_one x y (omega arith)))

select_zero : (x y : List Tern) → length x ≡ length y → select_of Zero x y ≡ y
select_zero [] [] same = refl
select_zero [] (b ∷ y) same = absurd (omega arith)
select_zero (a ∷ x) [] same = absurd (omega arith)
select_zero (a ∷ x) (b ∷ y) same = rw (mux_zero a b) (ap (λ (t : List Tern). b ∷ t) (select_zero x y (omega arith)))

pub is-choice : (first : Bool) (t : Tern) (n x y : ℕ) (a b : List Tern) → Tells first t → Is n x a → Is n y b → Is n (if first then x else y) (select_of t a b)
is-choice true t n x y a b e h k = subst (Is n x) (sym (ap (λ (s : Tern). select_of s a b) e ∙ select_one a b (h.wide ∙ sym k.wide))) h
is-choice false t n x y a b e h k = subst (Is n y) (sym (ap (λ (s : Tern). select_of s a b) e ∙ select_zero a b (h.wide ∙ sym k.wide))) k

-- ---- operators

pub tells-reduced : (op : Unary) (n x : ℕ) (w : List Tern) → Is n x w → Tells (folded op n x) (reduced op w)
unfolding reduced folded
tells-reduced unary.Not n x w h = not-not (x == 0) (any_of w) (tells-some n x w h)
tells-reduced unary.ReduceAnd n x w h = tells-every n x w h
tells-reduced unary.ReduceNand n x w h = tells-not (x == 2 ^ n - 1) (all_of w) (tells-every n x w h)
tells-reduced unary.ReduceOr n x w h = tells-some n x w h
tells-reduced unary.ReduceNor n x w h = not-not (x == 0) (any_of w) (tells-some n x w h)
tells-reduced unary.ReduceXor n x w h = tells-odd n x w h
tells-reduced unary.ReduceXnor n x w h = tells-not (count_ones x % 2 == 1) (parity_of w) (tells-odd n x w h)
tells-reduced _ n x w h = refl

pub tells-compared : (op : Binary) (c : Shape) (x y : ℕ) (a b : List Tern) → Is c.width x a → Is c.width y b → Tells (tested op c x y) (compared op c.signed a b)
unfolding compared tested
tells-compared binary.Less c x y a b h k = tells-less c x y a b h k
tells-compared binary.AtMost c x y a b h k = tells-not (is_less c y x) (less c.signed b a) (tells-less c y x b a k h)
tells-compared binary.Greater c x y a b h k = tells-less c y x b a k h
tells-compared binary.AtLeast c x y a b h k = tells-not (is_less c x y) (less c.signed a b) (tells-less c x y a b h k)
tells-compared binary.Equal c x y a b h k = tells-equal c.width x y a b h k
tells-compared binary.CaseEqual c x y a b h k = tells-equal c.width x y a b h k
tells-compared binary.NotEqual c x y a b h k = tells-not (x == y) (eq_of a b) (tells-equal c.width x y a b h k)
tells-compared binary.CaseNotEqual c x y a b h k = tells-not (x == y) (eq_of a b) (tells-equal c.width x y a b h k)
tells-compared _ c x y a b h k = refl

pub tells-logical : (op : Binary) (n m x y : ℕ) (a b : List Tern) → Is n x a → Is m y b → Tells (joint op x y) (logical op a b)
unfolding logical joint
tells-logical binary.LogicalAnd n m x y a b h k = tells-and (not (x == 0)) (not (y == 0)) (any_of a) (any_of b) (tells-some n x a h) (tells-some m y b k)
tells-logical binary.LogicalOr n m x y a b h k = tells-or (not (x == 0)) (not (y == 0)) (any_of a) (any_of b) (tells-some n x a h) (tells-some m y b k)
tells-logical _ n m x y a b h k = refl
