-- Serves specs/Laws.antt: what constants, extensions and operators are worth.
use Rattle.std.proofs.Common.{◌≡◌, ◌==◌, ◌%◌, ◌/◌, ℕ, zero, suc, ◌-◌, ◌<◌, ◌≤◌, Bool, true, false, nat_lt, ltb-false, if◌then◌else◌, List, [], ◌∷◌, ◌++◌, length, map, take, replicate, get_or, Ok, Err, refl, sym, ap, ◌∙◌, append-nil, arith}
use Rattle.std.proofs.lemmas.List.{length-map, map-append, take-map}
use Rattle.vlog_tree.specs.declared.operator.Unary.{Unary}
use Rattle.vlog_tree.specs.declared.operator.Unary.TheVariants as unary
use Rattle.vlog_tree.specs.declared.operator.Binary.{Binary}
use Rattle.vlog_tree.specs.declared.operator.Binary.TheVariants as binary
use Rattle.rdc_tern.specs.declared.value.Tern.{Tern}
use Rattle.rdc_tern.specs.declared.value.Tern.TheVariants.{Zero, One, Unsettled}
use Rattle.rdc_tern.specs.Kleene.{not_of}
use Rattle.rdc_tern.specs.Shifts as shift
use Rattle.rdc_tern.specs.Shifts.{sar_of}
use Rattle.rdc_tern.specs.Words as word
use Rattle.rdc_tern.proofs.KeptLemmas.{nothing_shifts}
use Rattle.vlog_const.specs.declared.shape.Shape.{Shape}
use Rattle.vlog_const.specs.declared.answer.ConstValue.{ConstValue}
use Rattle.vlog_const.specs.Worths.{Or_fault}
use Rattle.vlog_const.specs.Widths.{operand_family, family_of}
use Rattle.vlog_const.specs.Operations.{is_division, is_power}
use Rattle.design_form.specs.Bits as design
use Rattle.design_form.specs.Bits.{bits, low_bit, fill_of}
use Rattle.design_form.specs.Gates as gates
use Rattle.design_form.specs.Values.{constant_bits, is_computed}
use Rattle.net_view.specs.View.{Numbered}
use Rattle.net_view.specs.Values.{State, at, settled, IsValuation}
use Rattle.net_view.specs.declared.gate.Gate.TheVariants.{Const, Not}
use Rattle.net_words.specs.declared.bits.Bitwise.{Bitwise}
use Rattle.net_words.specs.declared.bits.Bitwise.TheVariants as op
use Rattle.net_words.specs.Builds.{Build, Gives}
use Rattle.net_words.specs.Words.{bit_of, each_of, each as each_word}
use Rattle.net_words.specs.Shifts.{top_of}
use Rattle.net_words.proofs.WorthLemmas.{gives_return, gives_then, gives_put, gives_more}
use Rattle.net_words.proofs.BitWorths.{bit_gives}
use Rattle.net_words.proofs.WordWorths.{inverted_gives, each_gives, any_gives, all_gives, parity_gives}
use Rattle.net_words.proofs.SumWorths.{add_gives, sub_gives, neg_gives, mul_gives}
use Rattle.net_words.proofs.ComparisonWorths.{eq_gives, lt_gives, lt_signed_gives}
use Rattle.net_words.proofs.ShiftWorths.{shl_gives, shr_gives, sar_gives}
use Rattle.net_exprs.specs.Constants.{is_one, constants}
use Rattle.net_exprs.specs.Extensions.{fill, extended, extended_if, copies}
use Rattle.net_exprs.specs.Operators.{not_after, one_bit, reduced, before, less, compared, logical, filled, right, between}

-- ---- words without X

-- each bit is 0 or 1
abbrev pub AreBits : List Tern → Type 0
AreBits [] = Unit {0}
AreBits (t ∷ w) = (settled (is_one t) ≡ t) × AreBits w

is_bit : (b : Bool) → settled (is_one (if b then One else Zero)) ≡ (if b then One else Zero)
is_bit true = refl
is_bit false = refl

pub bits_are : (w n : ℕ) → AreBits (bits w n)
unfolding bits
bits_are zero n = tt
bits_are (suc w) n = (is_bit (n % 2 == 1), bits_are w (n / 2))

is_inverse : (t : Tern) → settled (is_one t) ≡ t → settled (is_one (not_of t)) ≡ not_of t
is_inverse Zero h = refl
is_inverse One h = refl
is_inverse Unsettled h = absurd cc

pub inverted_are : (w : List Tern) → AreBits w → AreBits (word.inverted w)
inverted_are [] h = tt
inverted_are (t ∷ w) h = (is_inverse t h.0, inverted_are w h.1)

pub constant_are : (w : ℕ) (r : Or_fault ConstValue) → AreBits (constant_bits w r)
unfolding constant_bits
constant_are w (Ok v) = bits_are w v.bits
constant_are w (Err fault) = bits_are w 0

-- ---- words in a context, and copies

top_value : (v : ℕ → Tern) (a : ℕ) (w : List ℕ) → v (top_of (a ∷ w)) ≡ get_or (map v (a ∷ w)) (length (map v (a ∷ w)) - 1) Zero
top_value v a w = at_value (a ∷ w) (length (a ∷ w) - 1) (omega arith) ∙ ap (λ (n : ℕ). get_or (map v (a ∷ w)) (n - 1) Zero) (sym (length-map (a ∷ w) v))
  where
    at_value : (x : List ℕ) (i : ℕ) → i < length x → v (get_or x i 0) ≡ get_or (map v x) i Zero
    at_value [] i inside = absurd (omega (arith, inside))
    at_value (b ∷ x) zero inside = refl
    at_value (b ∷ x) (suc i) inside = at_value x i (omega (arith, inside))

fill_values : (v : ℕ → Tern) (n a : ℕ) → map v (replicate n a) ≡ replicate n (v a)
fill_values v zero a = refl
fill_values v (suc n) a = ap (λ t. v a ∷ t) (fill_values v n a)

pub copies_map : (v : ℕ → Tern) (n : ℕ) (w : List ℕ) → map v (copies n w) ≡ design.copies n (map v w)
unfolding copies design.copies
copies_map v zero w = refl
copies_map v (suc n) w = map-append v w (copies n w) ∙ ap (λ (x : List Tern). map v w ++ x) (copies_map v n w)

each_is : (g : Tern → Tern → Tern) (o : Bitwise) (a b : List Tern) → ((x y : Tern) → bit_of o x y ≡ g x y) → each_of o a b ≡ design.each g a b
unfolding design.each
each_is g o [] y same = refl
each_is g o (a ∷ x) [] same = refl
each_is g o (a ∷ x) (b ∷ y) same = ap (λ (t : Tern). t ∷ each_of o x y) (same a b) ∙ ap (λ (w : List Tern). g a b ∷ w) (each_is g o x y same)

module _ (whole : List Numbered) (state : State) (found : List Tern) (valued : IsValuation whole state found) where
  pub constants_gives : (w : List Tern) → AreBits w → Gives whole (constants w) (λ made. map (at found) made ≡ w)
  unfolding constants
  constants_gives [] h = gives_return whole _ [] refl
  constants_gives (t ∷ w) h =
      gives_then whole _ _ _ _ (gives_put whole state found valued (Const (is_one t))) (λ n.
      gives_then whole _ _ _ _ (constants_gives w h.1) (λ rest.
      gives_return whole _ (n ∷ rest) (λ rest-is n-is j. (n-is ∙ h.0) j ∷ rest-is j)))

  fill_gives : (s : Bool) (w : List ℕ) → Gives whole (fill s w) (λ n. at found n ≡ fill_of s (map (at found) w))
  unfolding fill fill_of
  fill_gives true (a ∷ w) = gives_return whole _ (top_of (a ∷ w)) (top_value (at found) a w)
  fill_gives true [] = gives_put whole state found valued (Const false)
  fill_gives false w = gives_put whole state found valued (Const false)

  cut_is : (c : Shape) (w : List ℕ) → c.width ≤ length w → map (at found) (take c.width w) ≡ design.extended c (map (at found) w)
  unfolding design.extended
  cut_is c w h =
      let none : c.width - length (map (at found) w) ≡ 0 = omega (arith, h, length-map w (at found)) in
      sym (take-map (at found) c.width w) ∙ sym (append-nil (take c.width (map (at found) w)))
      ∙ ap (λ (n : ℕ). take c.width (map (at found) w) ++ replicate n (fill_of c.signed (map (at found) w))) (sym none)

  more_is : (c : Shape) (w : List ℕ) (f : ℕ) → at found f ≡ fill_of c.signed (map (at found) w)
      → map (at found) (take c.width w ++ replicate (c.width - length w) f) ≡ design.extended c (map (at found) w)
  unfolding design.extended
  more_is c w f h =
      map-append (at found) (take c.width w) (replicate (c.width - length w) f)
      ∙ ap (λ (x : List Tern). x ++ map (at found) (replicate (c.width - length w) f)) (sym (take-map (at found) c.width w))
      ∙ ap (λ (x : List Tern). take c.width (map (at found) w) ++ x) (fill_values (at found) (c.width - length w) f)
      ∙ ap (λ (t : Tern). take c.width (map (at found) w) ++ replicate (c.width - length w) t) h
      ∙ ap (λ (n : ℕ). take c.width (map (at found) w) ++ replicate (c.width - n) (fill_of c.signed (map (at found) w))) (sym (length-map w (at found)))

  extended_by : (c : Shape) (w : List ℕ) (b : Bool) → nat_lt (length w) c.width ≡ b → Gives whole (extended_if b c w) (λ made. map (at found) made ≡ design.extended c (map (at found) w))
  unfolding extended_if
  extended_by c w false e = gives_return whole _ (take c.width w) (cut_is c w (ltb-false (length w) c.width e))
  extended_by c w true e = gives_then whole _ _ _ _ (fill_gives c.signed w) (λ f. gives_return whole _ _ (λ h. more_is c w f h))

  pub extended_gives : (c : Shape) (w : List ℕ) → Gives whole (extended c w) (λ made. map (at found) made ≡ design.extended c (map (at found) w))
  unfolding extended
  extended_gives c w = extended_by c w (nat_lt (length w) c.width) refl

  -- ---- operators

  inverse_gives : (b : Build ℕ) (t : Tern) → Gives whole b (λ n. at found n ≡ t) → Gives whole (not_after b) (λ n. at found n ≡ not_of t)
  unfolding not_after
  inverse_gives b t given = gives_then whole _ _ _ _ given (λ n. gives_more whole _ _ _ (gives_put whole state found valued (Not n)) (λ m m-is n-is. m-is ∙ ap not_of n-is))

  one_gives : (c : Shape) (b : Build ℕ) (t : Tern) → Gives whole b (λ n. at found n ≡ t) → Gives whole (one_bit c b) (λ made. map (at found) made ≡ design.extended c (t ∷ []))
  unfolding one_bit
  one_gives c b t given = gives_then whole _ _ _ _ given (λ n. gives_more whole _ _ _ (extended_gives c (n ∷ [])) (λ made made-is n-is. made-is ∙ ap (λ (x : Tern). design.extended c (x ∷ [])) n-is))

  reduced_gives : (o : Unary) (a : List ℕ) → Gives whole (reduced o a) (λ n. at found n ≡ gates.reduced o (map (at found) a))
  unfolding reduced gates.reduced
  reduced_gives unary.Plus a = gives_put whole state found valued (Const false)
  reduced_gives unary.Minus a = gives_put whole state found valued (Const false)
  reduced_gives unary.Invert a = gives_put whole state found valued (Const false)
  reduced_gives unary.Not a = inverse_gives _ _ (any_gives whole state found valued a)
  reduced_gives unary.ReduceAnd a = all_gives whole state found valued a
  reduced_gives unary.ReduceNand a = inverse_gives _ _ (all_gives whole state found valued a)
  reduced_gives unary.ReduceOr a = any_gives whole state found valued a
  reduced_gives unary.ReduceNor a = inverse_gives _ _ (any_gives whole state found valued a)
  reduced_gives unary.ReduceXor a = parity_gives whole state found valued a
  reduced_gives unary.ReduceXnor a = inverse_gives _ _ (parity_gives whole state found valued a)

  pub before_gives : (o : Unary) (c : Shape) (a : List ℕ) → Gives whole (before o c a) (λ made. map (at found) made ≡ gates.before_in (operand_family o) o c (map (at found) a))
  unfolding before gates.before_in gates.sized operand_family
  before_gives unary.Plus c a = gives_return whole _ a refl
  before_gives unary.Minus c a = neg_gives whole state found valued a
  before_gives unary.Invert c a = inverted_gives whole state found valued a
  before_gives unary.Not c a = one_gives c _ _ (reduced_gives unary.Not a)
  before_gives unary.ReduceAnd c a = one_gives c _ _ (reduced_gives unary.ReduceAnd a)
  before_gives unary.ReduceNand c a = one_gives c _ _ (reduced_gives unary.ReduceNand a)
  before_gives unary.ReduceOr c a = one_gives c _ _ (reduced_gives unary.ReduceOr a)
  before_gives unary.ReduceNor c a = one_gives c _ _ (reduced_gives unary.ReduceNor a)
  before_gives unary.ReduceXor c a = one_gives c _ _ (reduced_gives unary.ReduceXor a)
  before_gives unary.ReduceXnor c a = one_gives c _ _ (reduced_gives unary.ReduceXnor a)

  less_gives : (s : Bool) (a b : List ℕ) → Gives whole (less s a b) (λ n. at found n ≡ gates.less s (map (at found) a) (map (at found) b))
  unfolding less gates.less
  less_gives true a b = lt_signed_gives whole state found valued a b
  less_gives false a b = lt_gives whole state found valued a b

  logical_gives : (o : Bitwise) (a b : List ℕ) → Gives whole (logical o a b) (λ n. at found n ≡ bit_of o (word.any_of (map (at found) a)) (word.any_of (map (at found) b)))
  unfolding logical
  logical_gives o a b =
      gives_then whole _ _ _ _ (any_gives whole state found valued a) (λ x.
      gives_then whole _ _ _ _ (any_gives whole state found valued b) (λ y.
      gives_more whole _ _ _ (bit_gives whole state found valued o x y) (λ n n-is y-is x-is. n-is ∙ ap (λ (t : Tern). bit_of o t (at found y)) x-is ∙ ap (bit_of o (word.any_of (map (at found) a))) y-is)))

  filled_gives : (a n : List ℕ) → Gives whole (filled a n) (λ made. map (at found) made ≡ sar_of (map (at found) a) (map (at found) n))
  unfolding filled
  filled_gives [] n = gives_return whole _ [] (sym (nothing_shifts (shift.top_of []) 0 (map (at found) n)))
  filled_gives (a ∷ w) n = sar_gives whole state found valued (a ∷ w) n

  bitwise_gives : (o : Bitwise) (g : Tern → Tern → Tern) (a b : List ℕ) → ((x y : Tern) → bit_of o x y ≡ g x y)
      → Gives whole (each_word o a b) (λ made. map (at found) made ≡ design.each g (map (at found) a) (map (at found) b))
  bitwise_gives o g a b same = gives_more whole _ _ _ (each_gives whole state found valued o a b) (λ made made-is. made-is ∙ each_is g o (map (at found) a) (map (at found) b) same)

  compared_gives : (o : Binary) (s : Bool) (a b : List ℕ) → Gives whole (compared o s a b) (λ n. at found n ≡ gates.compared o s (map (at found) a) (map (at found) b))
  unfolding compared gates.compared
  compared_gives binary.Less s a b = less_gives s a b
  compared_gives binary.AtMost s a b = inverse_gives _ _ (less_gives s b a)
  compared_gives binary.Greater s a b = less_gives s b a
  compared_gives binary.AtLeast s a b = inverse_gives _ _ (less_gives s a b)
  compared_gives binary.Equal s a b = eq_gives whole state found valued a b
  compared_gives binary.CaseEqual s a b = eq_gives whole state found valued a b
  compared_gives binary.NotEqual s a b = inverse_gives _ _ (eq_gives whole state found valued a b)
  compared_gives binary.CaseNotEqual s a b = inverse_gives _ _ (eq_gives whole state found valued a b)
  compared_gives binary.Power s a b = gives_put whole state found valued (Const false)
  compared_gives binary.Multiply s a b = gives_put whole state found valued (Const false)
  compared_gives binary.Divide s a b = gives_put whole state found valued (Const false)
  compared_gives binary.Remainder s a b = gives_put whole state found valued (Const false)
  compared_gives binary.Add s a b = gives_put whole state found valued (Const false)
  compared_gives binary.Subtract s a b = gives_put whole state found valued (Const false)
  compared_gives binary.ShiftLeft s a b = gives_put whole state found valued (Const false)
  compared_gives binary.ShiftRight s a b = gives_put whole state found valued (Const false)
  compared_gives binary.ArithmeticShiftLeft s a b = gives_put whole state found valued (Const false)
  compared_gives binary.ArithmeticShiftRight s a b = gives_put whole state found valued (Const false)
  compared_gives binary.And s a b = gives_put whole state found valued (Const false)
  compared_gives binary.Xor s a b = gives_put whole state found valued (Const false)
  compared_gives binary.Xnor s a b = gives_put whole state found valued (Const false)
  compared_gives binary.Or s a b = gives_put whole state found valued (Const false)
  compared_gives binary.LogicalAnd s a b = gives_put whole state found valued (Const false)
  compared_gives binary.LogicalOr s a b = gives_put whole state found valued (Const false)

  right_gives : (s : Bool) (a n : List ℕ) → Gives whole (right s a n) (λ made. map (at found) made ≡ gates.shifted binary.ArithmeticShiftRight s (map (at found) a) (map (at found) n))
  unfolding right gates.shifted
  right_gives true a n = filled_gives a n
  right_gives false a n = shr_gives whole state found valued a n

  pub between_gives : (o : Binary) (s : Bool) (c : Shape) (a b : List ℕ) → is_computed o ≡ false
      → Gives whole (between o s c a b) (λ made. map (at found) made ≡ gates.between_in (family_of o) o s c (map (at found) a) (map (at found) b))
  unfolding between family_of gates.between_in gates.arithmetic gates.shifted gates.logical gates.gate_of is_computed is_division is_power
  between_gives binary.Power s c a b h = absurd cc
  between_gives binary.Multiply s c a b h = mul_gives whole state found valued a b
  between_gives binary.Divide s c a b h = absurd cc
  between_gives binary.Remainder s c a b h = absurd cc
  between_gives binary.Add s c a b h = add_gives whole state found valued a b
  between_gives binary.Subtract s c a b h = sub_gives whole state found valued a b
  between_gives binary.ShiftLeft s c a b h = shl_gives whole state found valued a b
  between_gives binary.ShiftRight s c a b h = shr_gives whole state found valued a b
  between_gives binary.ArithmeticShiftLeft s c a b h = shl_gives whole state found valued a b
  between_gives binary.ArithmeticShiftRight s c a b h = right_gives c.signed a b
  between_gives binary.Less s c a b h = one_gives c _ _ (compared_gives binary.Less s a b)
  between_gives binary.AtMost s c a b h = one_gives c _ _ (compared_gives binary.AtMost s a b)
  between_gives binary.Greater s c a b h = one_gives c _ _ (compared_gives binary.Greater s a b)
  between_gives binary.AtLeast s c a b h = one_gives c _ _ (compared_gives binary.AtLeast s a b)
  between_gives binary.Equal s c a b h = one_gives c _ _ (compared_gives binary.Equal s a b)
  between_gives binary.NotEqual s c a b h = one_gives c _ _ (compared_gives binary.NotEqual s a b)
  between_gives binary.CaseEqual s c a b h = one_gives c _ _ (compared_gives binary.CaseEqual s a b)
  between_gives binary.CaseNotEqual s c a b h = one_gives c _ _ (compared_gives binary.CaseNotEqual s a b)
  between_gives binary.And s c a b h = bitwise_gives op.And (gates.gate_of binary.And) a b (λ x y. refl)
  between_gives binary.Xor s c a b h = bitwise_gives op.Xor (gates.gate_of binary.Xor) a b (λ x y. refl)
  between_gives binary.Xnor s c a b h = bitwise_gives op.Xnor (gates.gate_of binary.Xnor) a b (λ x y. refl)
  between_gives binary.Or s c a b h = bitwise_gives op.Or (gates.gate_of binary.Or) a b (λ x y. refl)
  between_gives binary.LogicalAnd s c a b h = one_gives c _ _ (logical_gives op.And a b)
  between_gives binary.LogicalOr s c a b h = one_gives c _ _ (logical_gives op.Or a b)
