-- A word in a context has the context's width.
use Rattle.std.proofs.Common.{◌≡◌, ℕ, suc, ◌-◌, Bool, true, false, if◌then◌else◌, List, [], ◌∷◌, length, take, replicate, map, Ok, Err, refl, sym, ap, subst, ◌∙◌, arith}
use Rattle.std.proofs.lemmas.List.{length-append, length-map, length-replicate, length-take}
use Rattle.vlog_tree.specs.declared.expr.Expr.{Expr, ind-Expr, map-Expr, roll-Expr}
use Rattle.vlog_tree.specs.declared.expr.Expr.TheOpen.{Expr-F}
use Rattle.vlog_tree.specs.declared.expr.Expr.TheVariants.{rolls-Number, rolls-Name, rolls-Index, rolls-Select, rolls-Brackets, rolls-Concat, rolls-Repeat, rolls-Unary, rolls-Binary, rolls-Conditional}
use Rattle.vlog_tree.specs.declared.operator.Unary.{Unary}
use Rattle.vlog_tree.specs.declared.operator.Unary.TheVariants as unary
use Rattle.vlog_tree.specs.declared.operator.Binary.{Binary}
use Rattle.vlog_tree.specs.declared.operator.Binary.TheVariants as binary
use Rattle.rdc_tern.specs.declared.value.Tern.{Tern}
use Rattle.rdc_tern.specs.declared.value.Tern.TheVariants.{Zero, One}
use Rattle.rdc_tern.specs.Kleene.{not_of}
use Rattle.rdc_tern.specs.Shifts.{select_of}
use Rattle.rdc_tern.specs.Words.{inverted, neg_of, zeros}
use Rattle.rdc_tern.proofs.SumNumbers.{length-sum_of}
use Rattle.rdc_tern.proofs.ProductNumbers.{length-mul_of}
use Rattle.rdc_tern.proofs.ShiftNumbers.{length-shl_of, length-shr_of, length-sar_of}
use Rattle.vlog_const.specs.declared.shape.Shape.{Shape}
use Rattle.vlog_const.specs.declared.shape.Family.{Family}
use Rattle.vlog_const.specs.declared.shape.Family.TheVariants.{Contextual, Compared, Alone, Leading}
use Rattle.vlog_const.specs.declared.answer.ConstValue.{ConstValue}
use Rattle.vlog_const.specs.Names.{no_values}
use Rattle.vlog_const.specs.Worths.{Or_fault}
use Rattle.vlog_const.specs.Widths.{unary_context, left_context, right_context, operand_family, family_of, common, left_in, right_in}
use Rattle.vlog_const.specs.Constants.{value_in}
use Rattle.design_form.specs.Extents.{AreAlike}
use Rattle.design_form.specs.Bits.{extended, fill_of, each}
use Rattle.design_form.specs.Gates.{gate_of, sized, arithmetic, shifted, before_in, between_in, reduced, compared, logical}
use Rattle.design_form.specs.Selects.{Seen}
use Rattle.design_form.specs.Values.{Valued, valued, constant_bits, is_computed, binary_word, unary_valued}
use Rattle.design_form.proofs.LengthLemmas.{length-bits}
use Rattle.design_form.proofs.ValueLemmas.{valued-Number, valued-Name, valued-Index, valued-Select, valued-Brackets, valued-Concat, valued-Repeat, valued-Unary, valued-Binary, valued-Conditional}

pub length-extended : (c : Shape) (w : List Tern) → length (extended c w) ≡ c.width
unfolding extended
length-extended c w =
    length-append (take c.width w) (replicate (c.width - length w) (fill_of c.signed w))
    ∙ omega (arith, length-take c.width w, length-replicate (c.width - length w) (fill_of c.signed w))

length-each : (f : Tern → Tern → Tern) (x y : List Tern) → length x ≡ length y → length (each f x y) ≡ length x
unfolding each
length-each f [] y h = refl
length-each f (a ∷ x) [] h = sym h
length-each f (a ∷ x) (b ∷ y) h = ap suc (length-each f x y (omega arith))

pub length-select : (s : Tern) (x y : List Tern) → length x ≡ length y → length (select_of s x y) ≡ length x
length-select s [] y h = refl
length-select s (a ∷ x) [] h = sym h
length-select s (a ∷ x) (b ∷ y) h = ap suc (length-select s x y (omega arith))

length-neg : (a : List Tern) → length (neg_of a) ≡ length a
length-neg a = length-sum_of One (zeros a) (inverted a) (length-replicate (length a) Zero ∙ sym (length-map a not_of)) ∙ length-replicate (length a) Zero

length-sized : (op : Unary) (a : List Tern) → length (sized op a) ≡ length a
unfolding sized
length-sized unary.Minus a = length-neg a
length-sized unary.Invert a = length-map a not_of
length-sized _ a = refl

length-arithmetic : (op : Binary) (a b : List Tern) → length a ≡ length b → length (arithmetic op a b) ≡ length a
unfolding arithmetic
length-arithmetic binary.Add a b h = length-sum_of Zero a b h
length-arithmetic binary.Subtract a b h = length-sum_of One a (inverted b) (h ∙ sym (length-map b not_of))
length-arithmetic binary.Multiply a b h = length-mul_of a b
length-arithmetic op a b h = length-each (gate_of op) a b h

length-shifted : (op : Binary) (signed : Bool) (a n : List Tern) → length (shifted op signed a n) ≡ length a
unfolding shifted
length-shifted binary.ShiftLeft signed a n = length-shl_of a n
length-shifted binary.ArithmeticShiftLeft signed a n = length-shl_of a n
length-shifted binary.ShiftRight signed a n = length-shr_of a n
length-shifted binary.ArithmeticShiftRight true a n = length-sar_of a n
length-shifted binary.ArithmeticShiftRight false a n = length-shr_of a n
length-shifted _ signed a n = refl

length-before : (f : Family) (op : Unary) (a c : Shape) (w : List Tern) → length w ≡ (left_in f a a c).width → length (before_in f op c w) ≡ c.width
unfolding before_in
length-before Contextual op a c w h = length-sized op w ∙ h
length-before Compared op a c w h = length-extended c (reduced op w ∷ [])
length-before Alone op a c w h = length-extended c (reduced op w ∷ [])
length-before Leading op a c w h = length-extended c (reduced op w ∷ [])

length-between : (f : Family) (op : Binary) (signed : Bool) (a b c : Shape) (x y : List Tern) → length x ≡ (left_in f a b c).width → length y ≡ (right_in f a b c).width → length (between_in f op signed c x y) ≡ c.width
unfolding between_in
length-between Contextual op signed a b c x y h k = length-arithmetic op x y (h ∙ sym k) ∙ h
length-between Compared op signed a b c x y h k = length-extended c (compared op signed x y ∷ [])
length-between Alone op signed a b c x y h k = length-extended c (logical op x y ∷ [])
length-between Leading op signed a b c x y h k = length-shifted op c.signed x y ∙ h

length-constant : (w : ℕ) (r : Or_fault ConstValue) → length (constant_bits w r) ≡ w
unfolding constant_bits
length-constant w (Ok v) = length-bits w v.bits
length-constant w (Err fault) = length-bits w 0

length-binary : (e : Expr) (op : Binary) (a b : Valued) → ((c : Shape) → length (a.word c) ≡ c.width) → ((c : Shape) → length (b.word c) ≡ c.width) → (c : Shape) → length (binary_word e op a b c) ≡ c.width
unfolding binary_word left_context right_context
length-binary e op a b h k c =
    let x = a.word (left_in (family_of op) a.shape b.shape c) in
    let y = b.word (right_in (family_of op) a.shape b.shape c) in
    elim (is_computed op) as (λ t. length (if t then constant_bits c.width (value_in no_values c e) else between_in (family_of op) op (common a.shape b.shape).signed c x y) ≡ c.width) [
      | true ↦ length-constant c.width (value_in no_values c e)
      | false ↦ length-between (family_of op) op (common a.shape b.shape).signed a.shape b.shape c x y (h _) (k _)
    ]

abbrev HasWidth : (List ℕ → Seen) → Expr → Type 0
HasWidth names e = (c : Shape) → length ((valued names e).word c) ≡ c.width

unary-width : (names : List ℕ → Seen) (op : Unary) (a : Expr) (c : Shape) → HasWidth names a → length ((unary_valued op (valued names a)).word c) ≡ c.width
unfolding unary_context
unary-width names op a c h = length-before (operand_family op) op (valued names a).shape c _ (h _)

by_parts : (names : List ℕ → Seen) (y : Expr-F ((e : Expr) × HasWidth names e)) → HasWidth names (roll-Expr (map-Expr ((e : Expr) × HasWidth names e) Expr (λ p. p.0) y))
by_parts names (Expr-F.Number place n) c = ap (λ e. length ((valued names e).word c)) (rolls-Number place n) ∙ ap (λ v. length (v.word c)) (valued-Number names place n) ∙ length-extended c _
by_parts names (Expr-F.Name place name) c = ap (λ e. length ((valued names e).word c)) (rolls-Name place name) ∙ ap (λ v. length (v.word c)) (valued-Name names place name) ∙ length-extended c _
by_parts names (Expr-F.Index place name i) c = ap (λ e. length ((valued names e).word c)) (rolls-Index place name i.0) ∙ ap (λ v. length (v.word c)) (valued-Index names place name i.0) ∙ length-extended c _
by_parts names (Expr-F.Select how place name i j) c = ap (λ e. length ((valued names e).word c)) (rolls-Select how place name i.0 j.0) ∙ ap (λ v. length (v.word c)) (valued-Select names place name how i.0 j.0) ∙ length-extended c _
by_parts names (Expr-F.Brackets place a) c = ap (λ e. length ((valued names e).word c)) (rolls-Brackets place a.0) ∙ ap (λ v. length (v.word c)) (valued-Brackets names place a.0) ∙ a.1 c
by_parts names (Expr-F.Concat place es) c = ap (λ e. length ((valued names e).word c)) (rolls-Concat place (map (λ p. p.0) es)) ∙ ap (λ v. length (v.word c)) (valued-Concat names place (map (λ p. p.0) es)) ∙ length-extended c _
by_parts names (Expr-F.Repeat place n es) c = ap (λ e. length ((valued names e).word c)) (rolls-Repeat place n.0 (map (λ p. p.0) es)) ∙ ap (λ v. length (v.word c)) (valued-Repeat names place n.0 (map (λ p. p.0) es)) ∙ length-extended c _
by_parts names (Expr-F.Unary place op a) c = ap (λ e. length ((valued names e).word c)) (rolls-Unary place op a.0) ∙ ap (λ v. length (v.word c)) (valued-Unary names place op a.0) ∙ unary-width names op a.0 c a.1
by_parts names (Expr-F.Binary place op a b) c = ap (λ e. length ((valued names e).word c)) (rolls-Binary place op a.0 b.0) ∙ ap (λ v. length (v.word c)) (valued-Binary names place op a.0 b.0) ∙ length-binary _ op (valued names a.0) (valued names b.0) a.1 b.1 c
by_parts names (Expr-F.Conditional place test a b) c = ap (λ e. length ((valued names e).word c)) (rolls-Conditional place test.0 a.0 b.0) ∙ ap (λ v. length (v.word c)) (valued-Conditional names place test.0 a.0 b.0) ∙ length-select _ ((valued names a.0).word c) ((valued names b.0).word c) (a.1 c ∙ sym (b.1 c)) ∙ a.1 c

pub length-word_in : (names : List ℕ → Seen) (e : Expr) (c : Shape) → length ((valued names e).word c) ≡ c.width
length-word_in names e c = ind-Expr (HasWidth names) (λ x y is. subst (λ z. HasWidth names (roll-Expr z)) is (by_parts names y)) e c

-- operands that go together are equally wide
pub alike : (f : Family) (a b c : Shape) (x y : List Tern) → length x ≡ (left_in f a b c).width → length y ≡ (right_in f a b c).width → AreAlike f x y
alike Contextual a b c x y h k = h ∙ sym k
alike Compared a b c x y h k = h ∙ sym k
alike Alone a b c x y h k = tt
alike Leading a b c x y h k = tt

pub ruleset widths = (length-word_in, alike)
