-- Serves specs/ConstantLaws.antt: what an expression is worth as a constant, and its words, form by form.
use Rattle.std.proofs.Common.{◌≡◌, ℕ, zero, suc, ◌+◌, ◌*◌, ◌/◌, ◌%◌, ◌^◌, ◌<◌, ◌≤◌, max, Bool, true, false, ◌&&◌, ◌==◌, if◌then◌else◌, List, [], ◌∷◌, Ok, Err, refl, sym, ap, ap₂, subst, ◌∙◌, arith, mod-lt, pow_pos, div-le_self, div-add-mod'}
use Rattle.std.proofs.lemmas.Bool.{or_parts}
use Rattle.rdc_outside.specs.declared.source.Place.{Place}
use Rattle.vlog_tree.specs.declared.expr.Expr.{Expr}
use Rattle.vlog_tree.specs.declared.operator.Unary.{Unary}
use Rattle.vlog_tree.specs.declared.operator.Unary.TheVariants as unary
use Rattle.vlog_tree.specs.declared.operator.Binary.{Binary}
use Rattle.vlog_tree.specs.declared.operator.Binary.TheVariants as binary
use Rattle.rdc_tern.specs.declared.value.Tern.{Tern}
use Rattle.rdc_tern.specs.declared.value.Tern.TheVariants.{Zero, One}
use Rattle.rdc_tern.specs.Words.{any_of}
use Rattle.vlog_const.specs.declared.shape.Shape.{Shape}
use Rattle.vlog_const.specs.declared.shape.Family.{Family}
use Rattle.vlog_const.specs.declared.shape.Family.TheVariants.{Contextual, Compared, Alone, Leading}
use Rattle.vlog_const.specs.declared.answer.ConstValue.{ConstValue}
use Rattle.vlog_const.specs.declared.answer.ConstFault.TheVariants.{ZeroDivisor, NotConstant}
use Rattle.vlog_const.specs.Names.{no_values}
use Rattle.vlog_const.specs.Widths.{bit, common, operand_family, family_of, shape_in, left_in, right_in, unary_shape, binary_shape, unary_context, left_context, right_context}
use Rattle.vlog_const.specs.Words.{low, extended as stretched, negated, magnitude, with_sign, differ, is_negative, quotient, remainder, reduced as folded, sized as turned, arithmetic as figured, compared as tested, shifted as moved, logical as joint}
use Rattle.vlog_const.specs.Worths.{Or_fault, and_then, Worth, fixed as fixed_worth, narrow, valued as settled_value, in_context, alone, is_true, truth, one_bit as number_of_bit}
use Rattle.vlog_const.specs.Operations.{unary_in, binary_in, choice_worth, divided, amount, is_division, is_power}
use Rattle.vlog_const.specs.Constants.{worth, value_in, worth_in}
use Rattle.design_form.specs.Bits.{bits, extended}
use Rattle.design_form.specs.Gates.{before_in, between_in, reduced, compared, logical, one_bit}
use Rattle.design_form.specs.Values.{Valued, fixed, word_alone, unary_valued, binary_valued, binary_word, gates_word, choice_valued, constant_bits, is_computed}
use Rattle.design_form.proofs.SettledWords.{Is, is-below, low-id, is-bits, is-extended, one_bit-is}
use Rattle.design_form.proofs.GateNumbers.{is-sized, is-arithmetic}
use Rattle.design_form.proofs.TestNumbers.{Tells, tells-reduced, tells-compared, tells-logical, tells-some, is-choice}
use Rattle.design_form.proofs.ShiftNumbers.{is-shifted}
use Rattle.design_form.proofs.WorthForms.{same_answer, first_step, then_step, narrow_gives}

-- a constant by itself and an expression by itself: one shape, of at most 128 bits, and in each such context one number
pub record Agrees (a : Worth) (v : Valued) : Type 0 where
  pub shape : v.shape ≡ a.shape
  pub few : a.shape.width ≤ 128
  pub word : (c : Shape) (x : ℕ) → c.width ≤ 128 → a.value c ≡ Ok x → Is c.width x (v.word c)

-- ---- values in a context

-- a value in a context has its width and its sign, and is its word's number
pub record IsValue (c : Shape) (v : ConstValue) (w : List Tern) : Type 0 where
  pub width : v.width ≡ c.width
  pub signed : v.signed ≡ c.signed
  pub word : Is c.width v.bits w

pub context_tells : (a : Worth) (w : Valued) → Agrees a w → (c : Shape) (v : ConstValue) → c.width ≤ 128 → in_context a c ≡ Ok v → IsValue c v (w.word c)
unfolding in_context
context_tells a w h c v few e =
    let step = first_step (a.value c) (λ x. Ok (settled_value c x)) v e in
    let is = h.word c step.0 few step.1.0 in
    let same : settled_value c step.0 ≡ v = same_answer (Ok (settled_value c step.0)) (settled_value c step.0) v refl step.1.1 in
    subst (λ (u : ConstValue). IsValue c u (w.word c)) same (record {
      width = refl;
      signed = refl;
      word = subst (λ (n : ℕ). Is c.width n (w.word c)) (sym (low-id c.width step.0 (is-below c.width step.0 (w.word c) is))) is;
    })

pub alone_tells : (a : Worth) (w : Valued) → Agrees a w → (v : ConstValue) → alone a ≡ Ok v → IsValue a.shape v (word_alone w)
unfolding alone
alone_tells a w h v e = subst (λ (s : Shape). IsValue a.shape v (w.word s)) (sym h.shape) (context_tells a w h a.shape v h.few e)

-- ---- values that a context only extends

pub fixed_agrees : (place : Place) (s t : Shape) (x : ℕ) (w : List Tern) → t ≡ s → s.width ≤ 128 → Is s.width x w → Agrees (fixed_worth place s x) (fixed t w)
fixed_agrees place s t x w same few is = record {
  shape = same;
  few = few;
  word = λ c y _ e. subst (λ (n : ℕ). Is c.width n (extended c w)) (same_answer (Ok (stretched s.width c x)) (stretched s.width c x) y refl e) (is-extended c s.width x w is);
}

bit_is : (b : Bool) (t : Tern) (c : Shape) → Tells b t → Is c.width (stretched 1 c (number_of_bit b)) (one_bit c t)
bit_is b t c e = is-extended c 1 (number_of_bit b) _ (subst (λ (s : Tern). Is 1 (number_of_bit b) (s ∷ [])) (sym e) (one_bit-is b))

truth_agrees : (place : Place) (b : Bool) (v : Valued) → v.shape ≡ bit → ((c : Shape) → c.width ≤ 128 → Is c.width (stretched 1 c (number_of_bit b)) (v.word c)) → Agrees (truth place b) v
truth_agrees place b v same h = record {
  shape = same;
  few = one;
  word = λ c y few e. subst (λ (n : ℕ). Is c.width n (v.word c)) (same_answer (Ok (stretched 1 c (number_of_bit b))) (stretched 1 c (number_of_bit b)) y refl e) (h c few);
}
  where
    one : 1 ≤ 128
    one = omega arith

-- ---- an operator before its operand

abbrev unary_by : Family → Unary → Valued → Valued
unary_by f op v = record { shape = shape_in f v.shape v.shape; word = λ c. before_in f op c (v.word (left_in f v.shape v.shape c)) }

-- no operand is compared, and none leads
never : (op : Unary) → (operand_family op ≡ Compared → ⊥) × (operand_family op ≡ Leading → ⊥)
unfolding operand_family
never unary.Plus = (λ e. cc, λ e. cc)
never unary.Minus = (λ e. cc, λ e. cc)
never unary.Invert = (λ e. cc, λ e. cc)
never unary.Not = (λ e. cc, λ e. cc)
never unary.ReduceAnd = (λ e. cc, λ e. cc)
never unary.ReduceNand = (λ e. cc, λ e. cc)
never unary.ReduceOr = (λ e. cc, λ e. cc)
never unary.ReduceNor = (λ e. cc, λ e. cc)
never unary.ReduceXor = (λ e. cc, λ e. cc)
never unary.ReduceXnor = (λ e. cc, λ e. cc)

unary_cases : (f : Family) (place : Place) (op : Unary) (a r : Worth) (v : Valued) → operand_family op ≡ f → Agrees a v → unary_in f place op a ≡ Ok r → Agrees r (unary_by f op v)
unfolding unary_in before_in
unary_cases Contextual place op a r v family h e =
    let mine : Worth = record { place = place; shape = common a.shape a.shape; value = λ c. and_then (a.value c) (λ x. Ok (turned op c.width x)) } in
    let few = h.few in
    subst (λ (z : Worth). Agrees z (unary_by Contextual op v)) (same_answer (Ok mine) mine r refl e) (record {
      shape = ap (λ (s : Shape). common s s) h.shape;
      few = omega arith;
      word = λ c y narrow e.
          let step = first_step (a.value c) (λ x. Ok (turned op c.width x)) y e in
          subst (λ (n : ℕ). Is c.width n (before_in Contextual op c (v.word c))) (same_answer (Ok (turned op c.width step.0)) (turned op c.width step.0) y refl step.1.1) (is-sized op family c.width step.0 (v.word c) (h.word c step.0 narrow step.1.0));
    })
unary_cases Alone place op a r v family h e =
    let step = first_step (alone a) (λ x. Ok (truth place (folded op x.width x.bits))) r e in
    let x = step.0 in
    let is = alone_tells a v h x step.1.0 in
    let tells = tells-reduced op a.shape.width x.bits (word_alone v) is.word in
    subst (λ (z : Worth). Agrees z (unary_by Alone op v)) (same_answer (Ok (truth place (folded op x.width x.bits))) (truth place (folded op x.width x.bits)) r refl step.1.1)
    (truth_agrees place (folded op x.width x.bits) (unary_by Alone op v) refl (λ c _. bit_is (folded op x.width x.bits) (reduced op (word_alone v)) c (subst (λ (n : ℕ). Tells (folded op n x.bits) (reduced op (word_alone v))) (sym is.width) tells)))
unary_cases Compared place op a r v family h e = absurd ((never op).0 family)
unary_cases Leading place op a r v family h e = absurd ((never op).1 family)

pub unary_agrees : (place : Place) (op : Unary) (a r : Worth) (v : Valued) → Agrees a v → unary_in (operand_family op) place op a ≡ Ok r → Agrees r (unary_valued op v)
unfolding unary_shape unary_context
unary_agrees place op a r v h e = unary_cases (operand_family op) place op a r v refl h e

-- ---- an operator between its operands, as its gates

abbrev gates_by : Family → Binary → Shape → Shape → Valued → Valued → Shape → List Tern
gates_by f op s t v w c = between_in f op (common s t).signed c (v.word (left_in f s t c)) (w.word (right_in f s t c))

abbrev HasGates : Family → Binary → Shape → Shape → Valued → Valued → Worth → Type 0
HasGates f op s t v w r = (c : Shape) (z : ℕ) → c.width ≤ 128 → r.value c ≡ Ok z → Is c.width z (gates_by f op s t v w c)

divided_is : (op : Binary) (place : Place) (c : Shape) (x y z : ℕ) → is_division op ≡ false → divided op place c x y ≡ Ok z → figured op c x y ≡ z
unfolding divided
divided_is op place c x y z exact e =
    same_answer (Ok (figured op c x y)) (figured op c x y) z refl (ap (λ (t : Bool). if t && y == 0 then Err (ZeroDivisor place) else Ok (figured op c x y)) (sym exact) ∙ e)

amount_is : (op : Binary) (place : Place) (v : ConstValue) (n : ℕ) → is_power op ≡ false → amount op place v ≡ Ok n → v.bits ≡ n
unfolding amount
amount_is op place v n plain e =
    same_answer (Ok v.bits) v.bits n refl (ap (λ (t : Bool). if t && is_negative v.signed v.width v.bits then Err (NotConstant place) else Ok v.bits) (sym plain) ∙ e)

-- a shift or a power by n places
abbrev moving : Place → Binary → Worth → ℕ → Worth
moving place op a n = record { place = place; shape = a.shape; value = λ c. and_then (a.value c) (λ x. Ok (moved op c x n)) }

gates_cases : (f : Family) (place : Place) (op : Binary) (a b r : Worth) (v w : Valued) → family_of op ≡ f → is_division op ≡ false → is_power op ≡ false → Agrees a v → Agrees b w → binary_in f place op a b ≡ Ok r → HasGates f op a.shape b.shape v w r
unfolding binary_in between_in
gates_cases Contextual place op a b r v w family divides powers h k e =
    let mine : Worth = record { place = place; shape = common a.shape b.shape; value = λ c. and_then (a.value c) (λ x. and_then (b.value c) (λ y. divided op b.place c x y)) } in
    subst (HasGates Contextual op a.shape b.shape v w) (same_answer (Ok mine) mine r refl e) (λ c z few e.
    let left = first_step (a.value c) (λ x. and_then (b.value c) (λ y. divided op b.place c x y)) z e in
    let right = first_step (b.value c) (λ y. divided op b.place c left.0 y) z left.1.1 in
    subst (λ (n : ℕ). Is c.width n (gates_by Contextual op a.shape b.shape v w c)) (divided_is op b.place c left.0 right.0 z divides right.1.1)
    (is-arithmetic op family divides c left.0 right.0 (v.word c) (w.word c) (h.word c left.0 few left.1.0) (k.word c right.0 few right.1.0)))
gates_cases Compared place op a b r v w family divides powers h k e =
    let both = common a.shape b.shape in
    let one = h.few in
    let other = k.few in
    let few : both.width ≤ 128 = omega arith in
    let left = first_step (in_context a both) (λ x. and_then (in_context b both) (λ y. Ok (truth place (tested op both x.bits y.bits)))) r e in
    let right = first_step (in_context b both) (λ y. Ok (truth place (tested op both left.0.bits y.bits))) r left.1.1 in
    let t = tested op both left.0.bits right.0.bits in
    let x = context_tells a v h both left.0 few left.1.0 in
    let y = context_tells b w k both right.0 few right.1.0 in
    subst (HasGates Compared op a.shape b.shape v w) (same_answer (Ok (truth place t)) (truth place t) r refl right.1.1)
    (λ c z _ e. subst (λ (n : ℕ). Is c.width n (gates_by Compared op a.shape b.shape v w c)) (same_answer (Ok (stretched 1 c (number_of_bit t))) (stretched 1 c (number_of_bit t)) z refl e)
    (bit_is t (compared op both.signed (v.word both) (w.word both)) c (tells-compared op both left.0.bits right.0.bits (v.word both) (w.word both) x.word y.word)))
gates_cases Alone place op a b r v w family divides powers h k e =
    let left = first_step (in_context a a.shape) (λ x. and_then (in_context b b.shape) (λ y. Ok (truth place (joint op x.bits y.bits)))) r e in
    let right = first_step (in_context b b.shape) (λ y. Ok (truth place (joint op left.0.bits y.bits))) r left.1.1 in
    let t = joint op left.0.bits right.0.bits in
    let x = context_tells a v h a.shape left.0 h.few left.1.0 in
    let y = context_tells b w k b.shape right.0 k.few right.1.0 in
    subst (HasGates Alone op a.shape b.shape v w) (same_answer (Ok (truth place t)) (truth place t) r refl right.1.1)
    (λ c z _ e. subst (λ (n : ℕ). Is c.width n (gates_by Alone op a.shape b.shape v w c)) (same_answer (Ok (stretched 1 c (number_of_bit t))) (stretched 1 c (number_of_bit t)) z refl e)
    (bit_is t (logical op (v.word a.shape) (w.word b.shape)) c (tells-logical op a.shape.width b.shape.width left.0.bits right.0.bits (v.word a.shape) (w.word b.shape) x.word y.word)))
gates_cases Leading place op a b r v w family divides powers h k e =
    let right = first_step (in_context b b.shape) (λ y. and_then (amount op b.place y) (λ n. Ok (moving place op a n))) r e in
    let count = first_step (amount op b.place right.0) (λ n. Ok (moving place op a n)) r right.1.1 in
    let y = context_tells b w k b.shape right.0 k.few right.1.0 in
    let places = subst (λ (n : ℕ). Is b.shape.width n (w.word b.shape)) (amount_is op b.place right.0 count.0 powers count.1.0) y.word in
    subst (HasGates Leading op a.shape b.shape v w) (same_answer (Ok (moving place op a count.0)) (moving place op a count.0) r refl count.1.1)
    (λ c z few e.
    let left = first_step (a.value c) (λ x. Ok (moved op c x count.0)) z e in
    subst (λ (n : ℕ). Is c.width n (gates_by Leading op a.shape b.shape v w c)) (same_answer (Ok (moved op c left.0 count.0)) (moved op c left.0 count.0) z refl left.1.1)
    (is-shifted op family powers c b.shape.width left.0 count.0 (v.word c) (w.word b.shape) (h.word c left.0 few left.1.0) places))

-- ---- shapes

shape_cases : (f : Family) (place : Place) (op : Binary) (a b r : Worth) → binary_in f place op a b ≡ Ok r → r.shape ≡ shape_in f a.shape b.shape
unfolding binary_in
shape_cases Contextual place op a b r e =
    let mine : Worth = record { place = place; shape = common a.shape b.shape; value = λ c. and_then (a.value c) (λ x. and_then (b.value c) (λ y. divided op b.place c x y)) } in
    ap (λ (z : Worth). z.shape) (same_answer (Ok r) r mine refl (sym e))
shape_cases Compared place op a b r e =
    let both = common a.shape b.shape in
    let left = first_step (in_context a both) (λ x. and_then (in_context b both) (λ y. Ok (truth place (tested op both x.bits y.bits)))) r e in
    let right = first_step (in_context b both) (λ y. Ok (truth place (tested op both left.0.bits y.bits))) r left.1.1 in
    ap (λ (z : Worth). z.shape) (same_answer (Ok r) r (truth place (tested op both left.0.bits right.0.bits)) refl (sym right.1.1))
shape_cases Alone place op a b r e =
    let left = first_step (in_context a a.shape) (λ x. and_then (in_context b b.shape) (λ y. Ok (truth place (joint op x.bits y.bits)))) r e in
    let right = first_step (in_context b b.shape) (λ y. Ok (truth place (joint op left.0.bits y.bits))) r left.1.1 in
    ap (λ (z : Worth). z.shape) (same_answer (Ok r) r (truth place (joint op left.0.bits right.0.bits)) refl (sym right.1.1))
shape_cases Leading place op a b r e =
    let right = first_step (in_context b b.shape) (λ y. and_then (amount op b.place y) (λ n. Ok (moving place op a n))) r e in
    let count = first_step (amount op b.place right.0) (λ n. Ok (moving place op a n)) r right.1.1 in
    ap (λ (z : Worth). z.shape) (same_answer (Ok r) r (moving place op a count.0) refl (sym count.1.1))

few_in : (f : Family) (s t : Shape) → s.width ≤ 128 → t.width ≤ 128 → (shape_in f s t).width ≤ 128
few_in Contextual s t h k = omega arith
few_in Compared s t h k = omega arith
few_in Alone s t h k = omega arith
few_in Leading s t h k = h

-- ---- `/`, `%` and `**`

magnitude-below : (s : Bool) (w a : ℕ) → a < 2 ^ w → magnitude s w a < 2 ^ w
unfolding magnitude
magnitude-below s w a h = by (is_negative s w a)
  where
    by : (t : Bool) → (if t then negated w a else a) < 2 ^ w
    by true = mod-lt _ (pow_pos w)
    by false = h

with_sign-below : (n : Bool) (w a : ℕ) → a < 2 ^ w → with_sign n w a < 2 ^ w
unfolding with_sign
with_sign-below true w a h = mod-lt _ (pow_pos w)
with_sign-below false w a h = h

quotient-below : (c : Shape) (x y : ℕ) → x < 2 ^ c.width → quotient c x y < 2 ^ c.width
unfolding quotient
quotient-below c x y h =
    let m = magnitude-below c.signed c.width x h in
    let le = div-le_self (magnitude c.signed c.width x) (magnitude c.signed c.width y) in
    with_sign-below _ c.width _ (omega (arith, m, le))

mod-le : (a b : ℕ) → a % b ≤ a
mod-le a b = let parts = div-add-mod' a b in omega (arith, parts)

remainder-below : (c : Shape) (x y : ℕ) → x < 2 ^ c.width → remainder c x y < 2 ^ c.width
unfolding remainder
remainder-below c x y h =
    let m = magnitude-below c.signed c.width x h in
    let le = mod-le (magnitude c.signed c.width x) (magnitude c.signed c.width y) in
    with_sign-below _ c.width _ (omega (arith, m, le))

divided_below : (op : Binary) (place : Place) (c : Shape) (x y z : ℕ) → ((x y : ℕ) → x < 2 ^ c.width → figured op c x y < 2 ^ c.width) → x < 2 ^ c.width → divided op place c x y ≡ Ok z → z < 2 ^ c.width
unfolding divided
divided_below op place c x y z small h e = by (is_division op && y == 0) e
  where
    by : (t : Bool) → (if t then Err (ZeroDivisor place) else Ok (figured op c x y)) ≡ Ok z → z < 2 ^ c.width
    by true e = absurd cc
    by false e = subst (λ (n : ℕ). n < 2 ^ c.width) (same_answer (Ok (figured op c x y)) (figured op c x y) z refl e) (small x y h)

contextual_below : (op : Binary) (place : Place) (a b r : Worth) (v : Valued) → Agrees a v → (c : Shape) → c.width ≤ 128 → ((x y : ℕ) → x < 2 ^ c.width → figured op c x y < 2 ^ c.width) → binary_in Contextual place op a b ≡ Ok r → (z : ℕ) → r.value c ≡ Ok z → z < 2 ^ c.width
unfolding binary_in
contextual_below op place a b r v h c few small e =
    let mine : Worth = record { place = place; shape = common a.shape b.shape; value = λ c. and_then (a.value c) (λ x. and_then (b.value c) (λ y. divided op b.place c x y)) } in
    subst (λ (q : Worth). (z : ℕ) → q.value c ≡ Ok z → z < 2 ^ c.width) (same_answer (Ok mine) mine r refl e) (λ z e.
    let left = first_step (a.value c) (λ x. and_then (b.value c) (λ y. divided op b.place c x y)) z e in
    let right = first_step (b.value c) (λ y. divided op b.place c left.0 y) z left.1.1 in
    divided_below op b.place c left.0 right.0 z small (is-below c.width left.0 (v.word c) (h.word c left.0 few left.1.0)) right.1.1)

leading_below : (op : Binary) (place : Place) (a b r : Worth) (c : Shape) → ((x n : ℕ) → moved op c x n < 2 ^ c.width) → binary_in Leading place op a b ≡ Ok r → (z : ℕ) → r.value c ≡ Ok z → z < 2 ^ c.width
unfolding binary_in
leading_below op place a b r c small e =
    let right = first_step (in_context b b.shape) (λ y. and_then (amount op b.place y) (λ n. Ok (moving place op a n))) r e in
    let count = first_step (amount op b.place right.0) (λ n. Ok (moving place op a n)) r right.1.1 in
    subst (λ (q : Worth). (z : ℕ) → q.value c ≡ Ok z → z < 2 ^ c.width) (same_answer (Ok (moving place op a count.0)) (moving place op a count.0) r refl count.1.1) (λ z e.
    let left = first_step (a.value c) (λ x. Ok (moved op c x count.0)) z e in
    subst (λ (n : ℕ). n < 2 ^ c.width) (same_answer (Ok (moved op c left.0 count.0)) (moved op c left.0 count.0) z refl left.1.1) (small left.0 count.0))

computed_below : (op : Binary) (place : Place) (a b r : Worth) (v : Valued) → is_computed op ≡ true → Agrees a v → (c : Shape) → c.width ≤ 128 → binary_in (family_of op) place op a b ≡ Ok r → (z : ℕ) → r.value c ≡ Ok z → z < 2 ^ c.width
unfolding is_computed is_division is_power family_of figured moved
computed_below binary.Divide place a b r v is h c few e = contextual_below binary.Divide place a b r v h c few (λ x y lt. quotient-below c x y lt) e
computed_below binary.Remainder place a b r v is h c few e = contextual_below binary.Remainder place a b r v h c few (λ x y lt. remainder-below c x y lt) e
computed_below binary.Power place a b r v is h c few e = leading_below binary.Power place a b r c (λ x n. mod-lt _ (pow_pos c.width)) e
computed_below _ place a b r v is h c few e = absurd cc

-- what is computed as a constant is the bits of its value
constant_is : (e : Expr) (r : Worth) (c : Shape) (z : ℕ) → worth no_values e ≡ Ok r → c.width ≤ 128 → r.value c ≡ Ok z → z < 2 ^ c.width → Is c.width z (constant_bits c.width (value_in no_values c e))
unfolding value_in worth_in in_context constant_bits and_then
constant_is e r c z whole few value below =
    let is : value_in no_values c e ≡ Ok (settled_value c z) =
    then_step (worth no_values e) (λ a. and_then (narrow a.place c.width) (λ n. in_context a c)) r whole
    ∙ then_step (narrow r.place c.width) (λ n. in_context r c) c.width (narrow_gives r.place c.width few)
    ∙ then_step (r.value c) (λ x. Ok (settled_value c x)) z value in
    let small = low-id c.width z below in
    subst (λ (v : Or_fault ConstValue). Is c.width z (constant_bits c.width v)) (sym is)
    (subst (λ (n : ℕ). Is c.width z (bits c.width n)) (sym small) (subst (λ (n : ℕ). Is c.width n (bits c.width z)) small (is-bits c.width z)))

-- ---- an operator between its operands

binary_word_is : (e : Expr) (place : Place) (op : Binary) (a b r : Worth) (v w : Valued) → Agrees a v → Agrees b w → worth no_values e ≡ Ok r → binary_in (family_of op) place op a b ≡ Ok r
    → (c : Shape) (z : ℕ) → c.width ≤ 128 → r.value c ≡ Ok z → Is c.width z (binary_word e op v w c)
unfolding binary_word left_context right_context is_computed
binary_word_is e place op a b r v w h k whole is c z few value = by (is_computed op) refl
  where
    by : (t : Bool) → is_computed op ≡ t → Is c.width z (if t then constant_bits c.width (value_in no_values c e) else gates_word op v w c)
    by true computed = constant_is e r c z whole few value (computed_below op place a b r v computed h c few is z value)
    by false gates =
        let both = or_parts (is_division op) (is_power op) gates in
        let word = gates_cases (family_of op) place op a b r v w refl both.0 both.1 h k is c z few value in
        subst (λ (s : Shape). Is c.width z (gates_by (family_of op) op s w.shape v w c)) (sym h.shape) (subst (λ (t : Shape). Is c.width z (gates_by (family_of op) op a.shape t v w c)) (sym k.shape) word)

pub binary_agrees : (e : Expr) (place : Place) (op : Binary) (a b r : Worth) (v w : Valued) → Agrees a v → Agrees b w → worth no_values e ≡ Ok r → binary_in (family_of op) place op a b ≡ Ok r → Agrees r (binary_valued e op v w)
unfolding binary_shape
binary_agrees e place op a b r v w h k whole is =
    let shape = shape_cases (family_of op) place op a b r is in
    record {
      shape = ap₂ (shape_in (family_of op)) h.shape k.shape ∙ sym shape;
      few = subst (λ (s : Shape). s.width ≤ 128) (sym shape) (few_in (family_of op) a.shape b.shape h.few k.few);
      word = binary_word_is e place op a b r v w h k whole is;
    }

-- ---- choices

pub choice_agrees : (place : Place) (x : ConstValue) (t a b : Worth) (s v w : Valued) → Agrees t s → Agrees a v → Agrees b w → alone t ≡ Ok x → Agrees (choice_worth place (is_true x) a b) (choice_valued s v w)
unfolding choice_worth
choice_agrees place x t a b s v w g h k is =
    let one = h.few in
    let other = k.few in
    let test = alone_tells t s g x is in
    record {
      shape = ap₂ common h.shape k.shape;
      few = omega arith;
      word = λ c z few e.
          let left = first_step (a.value c) (λ p. and_then (b.value c) (λ q. Ok (if is_true x then p else q))) z e in
          let right = first_step (b.value c) (λ q. Ok (if is_true x then left.0 else q)) z left.1.1 in
          subst (λ (n : ℕ). Is c.width n ((choice_valued s v w).word c)) (same_answer (Ok (if is_true x then left.0 else right.0)) (if is_true x then left.0 else right.0) z refl right.1.1)
          (is-choice (is_true x) (any_of (word_alone s)) c.width left.0 right.0 (v.word c) (w.word c) (tells-some t.shape.width x.bits (word_alone s) test.word) (h.word c left.0 few left.1.0) (k.word c right.0 few right.1.0));
    }
