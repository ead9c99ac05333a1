-- Serves specs/ConstantLaws.antt: a settled word that is shifted is what constants give of its number.
use Rattle.std.proofs.Common.{◌≡◌, ℕ, zero, suc, ◌-◌, ◌*◌, ◌/◌, ◌%◌, ◌^◌, Bool, true, false, nat_le, if◌then◌else◌, List, [], ◌∷◌, length, get_or, refl, sym, ap, ap₂, subst, ◌∙◌, arith}
use Rattle.std.proofs.lemmas.List.{get_or_default}
use Rattle.rdc_tern.specs.declared.value.Tern.{Tern}
use Rattle.rdc_tern.specs.declared.value.Tern.TheVariants.{Zero, One, Unsettled}
use Rattle.rdc_tern.specs.Kleene.{not_of}
use Rattle.rdc_tern.specs.Shifts.{lowered, top_of, shl_of, shr_of, sar_of}
use Rattle.rdc_tern.specs.Words.{inverted, zeros}
use Rattle.rdc_tern.specs.Numbers.{AreSettled, number, ones, signed}
use Rattle.rdc_tern.proofs.GateLemmas.{not_not}
use Rattle.rdc_tern.proofs.MonotoneLemmas.{words_settle}
use Rattle.rdc_tern.proofs.ShiftNumbers.{shl_number, shr_number, shr_moves, sar_moves, length-shl_of, length-shr_of}
use Rattle.vlog_tree.specs.declared.operator.Binary.{Binary}
use Rattle.vlog_tree.specs.declared.operator.Binary.TheVariants as binary
use Rattle.vlog_const.specs.declared.shape.Shape.{Shape}
use Rattle.vlog_const.specs.declared.shape.Family.TheVariants.{Leading}
use Rattle.vlog_const.specs.Widths.{family_of}
use Rattle.vlog_const.specs.Operations.{is_power}
use Rattle.vlog_const.specs.Words.{inverted as flipped, is_negative, shifted_right, shifted as moved}
use Rattle.design_form.specs.Gates.{shifted}
use Rattle.design_form.proofs.SettledWords.{Is, top-bit}
use Rattle.design_form.proofs.GateNumbers.{is-inverted}

-- ---- shifts

is-left : (n x m k : ℕ) (w amount : List Tern) → Is n x w → Is m k amount → Is n ((x * 2 ^ k) % 2 ^ n) (shl_of w amount)
is-left n x m k w amount h a = record {
  wide = length-shl_of w amount ∙ h.wide;
  settled = words_settle.left w amount h.settled a.settled;
  number_is = shl_number w amount h.settled a.settled ∙ ap (λ (j : ℕ). (number w * 2 ^ number amount) % 2 ^ j) h.wide ∙ ap₂ (λ (i j : ℕ). (i * 2 ^ j) % 2 ^ n) h.number_is a.number_is;
}

is-right : (n x m k : ℕ) (w amount : List Tern) → Is n x w → Is m k amount → Is n (x / 2 ^ k) (shr_of w amount)
is-right n x m k w amount h a = record {
  wide = length-shr_of w amount ∙ h.wide;
  settled = words_settle.right w amount h.settled a.settled;
  number_is = shr_number w amount h.settled a.settled ∙ ap₂ (λ (i j : ℕ). i / 2 ^ j) h.number_is a.number_is;
}

inverted_read : (n : ℕ) (w : List Tern) → not_of (get_or (inverted w) n Zero) ≡ get_or w n One
inverted_read n [] = refl
inverted_read zero (a ∷ w) = not_not a
inverted_read (suc n) (a ∷ w) = inverted_read n w

-- ones come in from the top as zeros do of the inverse
inverted_lowered : (n : ℕ) (w : List Tern) → inverted (lowered Zero n (inverted w)) ≡ lowered One n w
inverted_lowered n [] = refl
inverted_lowered n (a ∷ w) = ap (λ (b : Tern). b ∷ inverted (lowered Zero n (inverted w))) (inverted_read n (a ∷ w)) ∙ ap (λ (t : List Tern). get_or (a ∷ w) n One ∷ t) (inverted_lowered n w)

sar-one : (w amount : List Tern) → AreSettled amount → top_of w ≡ One → sar_of w amount ≡ inverted (shr_of (inverted w) amount)
sar-one w amount h top =
    sar_moves w amount h ∙ ap (λ (t : Tern). lowered t (number amount) w) top ∙ sym (inverted_lowered (number amount) w) ∙ sym (ap inverted (shr_moves (inverted w) amount h))

sar-zero : (w amount : List Tern) → AreSettled amount → top_of w ≡ Zero → sar_of w amount ≡ shr_of w amount
sar-zero w amount h top = sar_moves w amount h ∙ ap (λ (t : Tern). lowered t (number amount) w) top ∙ sym (shr_moves w amount h)

is-filled : (n x m k : ℕ) (w amount : List Tern) → Is n x w → Is m k amount → Is n (shifted_right (is_negative true n x) n x k) (sar_of w amount)
unfolding shifted_right is_negative
is-filled zero x m k [] amount h a =
    let none = h.number_is in
    let stays : sar_of [] amount ≡ shr_of [] amount = sar_moves [] amount a.settled ∙ sym (shr_moves [] amount a.settled) in
    subst (Is 0 (if nat_le 1 x then flipped 0 (flipped 0 x / 2 ^ k) else x / 2 ^ k)) (sym stays)
    (subst (λ (i : ℕ). Is 0 (if nat_le 1 i then flipped 0 (flipped 0 i / 2 ^ k) else i / 2 ^ k) (shr_of [] amount)) none (is-right 0 0 m k [] amount (subst (λ (i : ℕ). Is 0 i []) (sym none) h) a))
is-filled zero x m k (b ∷ w) amount h a = let wide = h.wide in absurd (omega arith)
is-filled (suc n) x m k w amount h a =
    let wide = h.wide in
    let top : top_of w ≡ (if nat_le (2 ^ (suc n - 1)) x then One else Zero) = get_or_default w (length w - 1) Unsettled Zero (omega arith) ∙ top-bit w h.settled ∙ ap₂ (λ (i j : ℕ). if nat_le (2 ^ (i - 1)) j then One else Zero) h.wide h.number_is in
    by (nat_le (2 ^ (suc n - 1)) x) top
  where
    by : (b : Bool) → top_of w ≡ (if b then One else Zero) → Is (suc n) (if b then flipped (suc n) (flipped (suc n) x / 2 ^ k) else x / 2 ^ k) (sar_of w amount)
    by true top = subst (Is (suc n) (flipped (suc n) (flipped (suc n) x / 2 ^ k))) (sym (sar-one w amount a.settled top)) (is-inverted (suc n) _ _ (is-right (suc n) _ m k _ amount (is-inverted (suc n) x w h) a))
    by false top = subst (Is (suc n) (x / 2 ^ k)) (sym (sar-zero w amount a.settled top)) (is-right (suc n) x m k w amount h a)

-- ---- operators

is-right-by : (s : Bool) (n x m k : ℕ) (w amount : List Tern) → Is n x w → Is m k amount → Is n (shifted_right (is_negative s n x) n x k) (if s then sar_of w amount else shr_of w amount)
unfolding shifted_right is_negative
is-right-by true n x m k w amount h a = is-filled n x m k w amount h a
is-right-by false n x m k w amount h a = is-right n x m k w amount h a

pub is-shifted : (op : Binary) → family_of op ≡ Leading → is_power op ≡ false → (c : Shape) (m x k : ℕ) (w amount : List Tern) → Is c.width x w → Is m k amount → Is c.width (moved op c x k) (shifted op c.signed w amount)
unfolding moved shifted family_of is_power
is-shifted binary.ShiftLeft f p c m x k w amount h a = is-left c.width x m k w amount h a
is-shifted binary.ArithmeticShiftLeft f p c m x k w amount h a = is-left c.width x m k w amount h a
is-shifted binary.ShiftRight f p c m x k w amount h a = is-right c.width x m k w amount h a
is-shifted binary.ArithmeticShiftRight f p c m x k w amount h a = is-right-by c.signed c.width x m k w amount h a
is-shifted _ f p c m x k w amount h a = absurd cc
