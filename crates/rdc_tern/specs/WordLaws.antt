-- What holds of every operation on words.
--   KeepsWidth                 how wide a result is
--   RaisesWords                words that tell less give words and bits that tell no more
--   SettlesWords               settled words give settled words and bits
--   AreNumbers, ComparesNumbers, MovesWords, ShiftsNumbers   what settled words give, as numbers
use Rattle.std.specs.Prelude.{◌≡◌, ◌↔◌, ◌+◌, ◌-◌, ◌*◌, ◌/◌, ◌%◌, ◌^◌, ◌<◌, ◌<ℤ◌, List, length}
use Rattle.rdc_tern.specs.declared.value.Tern.{Tern}
use Rattle.rdc_tern.specs.declared.value.Tern.TheVariants.{Zero, One}
use Rattle.rdc_tern.specs.Kleene.{IsBelow, IsSettled}
use Rattle.rdc_tern.specs.Shifts.{raised, lowered, top_of, shl_of, shr_of, sar_of}
use Rattle.rdc_tern.specs.Words.{carry_out, add_of, sub_of, neg_of, mul_of, any_of, all_of, parity_of, eq_of, lt_of, lt_signed_of}
use Rattle.rdc_tern.specs.Numbers.{AreSettled, AreBelow, bit_of, number, ones, signed, quotient_down}

-- a result is as wide as its words, a shifted word as wide as it was
pub record KeepsWidth : Type 0 where
  pub sum : (a b : List Tern) → length a ≡ length b → length (add_of a b) ≡ length a
  pub difference : (a b : List Tern) → length a ≡ length b → length (sub_of a b) ≡ length a
  pub negation : (a : List Tern) → length (neg_of a) ≡ length a
  pub product : (a b : List Tern) → length (mul_of a b) ≡ length a
  pub left : (w amount : List Tern) → length (shl_of w amount) ≡ length w
  pub right : (w amount : List Tern) → length (shr_of w amount) ≡ length w
  pub signed_right : (w amount : List Tern) → length (sar_of w amount) ≡ length w

-- what makes a word of two words keeps the order
abbrev pub RaisesWord : (List Tern → List Tern → List Tern) → Type 0
RaisesWord f = (a a' b b' : List Tern) → AreBelow a a' → AreBelow b b' → AreBelow (f a b) (f a' b')

-- what makes a bit of two words keeps the order
abbrev pub RaisesBit : (List Tern → List Tern → Tern) → Type 0
RaisesBit f = (a a' b b' : List Tern) → AreBelow a a' → AreBelow b b' → IsBelow (f a b) (f a' b')

-- what makes a bit of one word keeps the order
abbrev pub RaisesReduction : (List Tern → Tern) → Type 0
RaisesReduction f = (a a' : List Tern) → AreBelow a a' → IsBelow (f a) (f a')

-- words that are raised raise the result, or leave it
pub record RaisesWords : Type 0 where
  pub sum : RaisesWord add_of
  pub difference : RaisesWord sub_of
  pub negation : (a a' : List Tern) → AreBelow a a' → AreBelow (neg_of a) (neg_of a')
  pub product : RaisesWord mul_of
  pub left : RaisesWord shl_of
  pub right : RaisesWord shr_of
  pub signed_right : RaisesWord sar_of
  pub some : RaisesReduction any_of
  pub every : RaisesReduction all_of
  pub odd : RaisesReduction parity_of
  pub equal : RaisesBit eq_of
  pub less : RaisesBit lt_of
  pub signed_less : RaisesBit lt_signed_of

-- settled words give a settled word
abbrev pub SettlesWord : (List Tern → List Tern → List Tern) → Type 0
SettlesWord f = (a b : List Tern) → AreSettled a → AreSettled b → AreSettled (f a b)

-- settled words give a settled bit
abbrev pub SettlesBit : (List Tern → List Tern → Tern) → Type 0
SettlesBit f = (a b : List Tern) → AreSettled a → AreSettled b → IsSettled (f a b)

-- no X comes where none went in
pub record SettlesWords : Type 0 where
  pub sum : SettlesWord add_of
  pub difference : SettlesWord sub_of
  pub negation : (a : List Tern) → AreSettled a → AreSettled (neg_of a)
  pub product : SettlesWord mul_of
  pub left : SettlesWord shl_of
  pub right : SettlesWord shr_of
  pub signed_right : SettlesWord sar_of
  pub some : (w : List Tern) → AreSettled w → IsSettled (any_of w)
  pub every : (w : List Tern) → AreSettled w → IsSettled (all_of w)
  pub odd : (w : List Tern) → AreSettled w → IsSettled (parity_of w)
  pub equal : SettlesBit eq_of
  pub less : SettlesBit lt_of
  pub signed_less : SettlesBit lt_signed_of

-- arithmetic of settled words is that of numbers, modulo 2^width
pub record AreNumbers : Type 0 where
  pub below : (w : List Tern) → number w < 2 ^ length w
  pub one_word : (a b : List Tern) → AreSettled a → AreSettled b → length a ≡ length b → number a ≡ number b → a ≡ b
  pub whole_sum : (a b : List Tern) → AreSettled a → AreSettled b → length a ≡ length b → number (add_of a b) + 2 ^ length a * bit_of (carry_out Zero a b) ≡ number a + number b
  pub sum : (a b : List Tern) → AreSettled a → AreSettled b → length a ≡ length b → number (add_of a b) ≡ (number a + number b) % 2 ^ length a
  pub difference : (a b : List Tern) → AreSettled a → AreSettled b → length a ≡ length b → number (sub_of a b) ≡ (2 ^ length a + number a - number b) % 2 ^ length a
  pub negation : (a : List Tern) → AreSettled a → number (neg_of a) ≡ (2 ^ length a - number a) % 2 ^ length a
  pub product : (a b : List Tern) → AreSettled a → AreSettled b → number (mul_of a b) ≡ (number a * number b) % 2 ^ length a

-- comparisons and reductions of settled words are those of numbers
pub record ComparesNumbers : Type 0 where
  pub equal : (a b : List Tern) → AreSettled a → AreSettled b → length a ≡ length b → (eq_of a b ≡ One) ↔ (number a ≡ number b)
  pub less : (a b : List Tern) → AreSettled a → AreSettled b → length a ≡ length b → (lt_of a b ≡ One) ↔ (number a < number b)
  pub signed_less : (a b : List Tern) → AreSettled a → AreSettled b → length a ≡ length b → 0 < length a → (lt_signed_of a b ≡ One) ↔ (signed a <ℤ signed b)
  pub some : (w : List Tern) → AreSettled w → (any_of w ≡ One) ↔ (0 < number w)
  pub every : (w : List Tern) → AreSettled w → (all_of w ≡ One) ↔ (number w + 1 ≡ 2 ^ length w)
  pub odd : (w : List Tern) → AreSettled w → bit_of (parity_of w) ≡ ones w % 2

-- by a settled amount any word moves as many places as its number says
pub record MovesWords : Type 0 where
  pub left : (w amount : List Tern) → AreSettled amount → shl_of w amount ≡ raised Zero (number amount) w
  pub right : (w amount : List Tern) → AreSettled amount → shr_of w amount ≡ lowered Zero (number amount) w
  pub signed_right : (w amount : List Tern) → AreSettled amount → sar_of w amount ≡ lowered (top_of w) (number amount) w

-- a shift of settled words is a product or a quotient
pub record ShiftsNumbers : Type 0 where
  pub left : (w amount : List Tern) → AreSettled w → AreSettled amount → number (shl_of w amount) ≡ (number w * 2 ^ number amount) % 2 ^ length w
  pub right : (w amount : List Tern) → AreSettled w → AreSettled amount → number (shr_of w amount) ≡ number w / 2 ^ number amount
  pub signed_right : (w amount : List Tern) → AreSettled w → AreSettled amount → 0 < length w → signed (sar_of w amount) ≡ quotient_down (signed w) (2 ^ number amount)
