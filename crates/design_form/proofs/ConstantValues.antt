-- Serves specs/ConstantLaws.antt: a constant expression is worth the bits of its value.
use Rattle.std.proofs.Common.{◌≡◌, ℕ, zero, suc, ◌+◌, ◌*◌, ◌%◌, ◌^◌, ◌<◌, ◌≤◌, max, List, [], ◌∷◌, ◌++◌, map, Ok, Err, refl, sym, ap, ap₂, subst, subst₂, ◌∙◌, false, arith, pow-add, zero-mul}
use Rattle.std.proofs.lemmas.Nat.{mul-add-lt}
use Rattle.rdc_outside.specs.declared.source.Place.{Place}
use Rattle.vlog_tree.specs.declared.expr.Expr.{Expr, ind-Expr, map-Expr, roll-Expr}
use Rattle.vlog_tree.specs.declared.expr.Expr.TheOpen.{Expr-F}
use Rattle.vlog_tree.specs.declared.expr.Expr.TheVariants.{rolls-Number, rolls-Name, rolls-Index, rolls-Select, rolls-Brackets, rolls-Concat, rolls-Repeat, rolls-Unary, rolls-Binary, rolls-Conditional, Name as Named, Index as Indexed, Select as Selected, Binary as Between}
use Rattle.vlog_tree.specs.declared.operator.Unary as u
use Rattle.vlog_tree.specs.declared.operator.Binary as b
use Rattle.rdc_tern.specs.declared.value.Tern.{Tern}
use Rattle.vlog_const.specs.declared.shape.Shape.{Shape}
use Rattle.vlog_const.specs.declared.answer.ConstValue.{ConstValue}
use Rattle.vlog_const.specs.Names.{no_values}
use Rattle.vlog_const.specs.Widths.{unsigned, family_of, operand_family, within, repeated_shape}
use Rattle.vlog_const.specs.Words.{low}
use Rattle.vlog_const.specs.Worths.{Or_fault, and_then, Worth, fixed as fixed_worth, narrow, in_context, alone, is_true, number, named as named_worth, settled, looked_up, shape_of}
use Rattle.vlog_const.specs.Selects.{whole, counted, selected, beside, joined as joined_value, nothing, copies as value_copies, index_worth, select_worth, concat_worth, repeat_worth}
use Rattle.vlog_const.specs.Operations.{unary_worth, binary_worth, choice_worth}
use Rattle.vlog_const.specs.Constants.{worth, value_of, value_in, value_within, worth_in}
use Rattle.design_form.specs.Bits.{bits, copies}
use Rattle.design_form.specs.Selects.{Seen}
use Rattle.design_form.specs.Values.{Valued, valued, word_alone, word_of, word_in, word_within, fixed, joined, joined_width, concat_valued, repeat_valued, unary_valued, binary_valued, choice_valued, number_of, count_alone}
use Rattle.design_form.proofs.ValueLemmas.{valued-Number, valued-Brackets, valued-Concat, valued-Repeat, valued-Unary, valued-Binary, valued-Conditional}
use Rattle.design_form.proofs.SettledWords.{Is, is-below, low-id, is-bits, bits-is, is-append, is-nothing}
use Rattle.design_form.proofs.WorthForms.{worth-Number, worth-Name, worth-Index, worth-Select, worth-Brackets, worth-Concat, worth-Repeat, worth-Unary, worth-Binary, worth-Conditional, same_answer, first_step, then_step, narrow_tells}
use Rattle.design_form.proofs.WorthWords.{Agrees, IsValue, context_tells, alone_tells, fixed_agrees, unary_agrees, binary_agrees, choice_agrees}

-- ---- numbers

settled_agrees : (place : Place) (s t : Shape) (x : ℕ) (w : List Tern) (a : Worth) → t ≡ s → Is s.width (low s.width x) w → settled place s x ≡ Ok a → Agrees a (fixed t w)
unfolding settled
settled_agrees place s t x w a same is e =
    let step = first_step (narrow place s.width) (λ k. Ok (fixed_worth place s (low s.width x))) a e in
    let few = narrow_tells place s.width step.0 step.1.0 in
    subst (λ (z : Worth). Agrees z (fixed t w)) (same_answer (Ok (fixed_worth place s (low s.width x))) (fixed_worth place s (low s.width x)) a refl step.1.1)
    (fixed_agrees place s t (low s.width x) w same few.1 is)

-- ---- members side by side

-- the value of members behind some bits: those bits, and below them the word of the members
record IsJoined (so v : ConstValue) (n : ℕ) (w : List Tern) : Type 0 where
  pub below : ℕ
  pub wide : v.width ≡ so.width + n
  pub bits_are : v.bits ≡ so.bits * 2 ^ n + below
  pub word : Is n below w

packed : (a n b m : ℕ) → a < 2 ^ n → b < 2 ^ m → a * 2 ^ m + b < 2 ^ (n + m)
packed a n b m h k =
    let below = mul-add-lt a (2 ^ m) b (2 ^ n) h k in
    let all = pow-add 2 n m in
    omega (arith, below, all)

abbrev made : ConstValue → ConstValue → ℕ → ConstValue
made so x w = record { bits = low w (so.bits * 2 ^ x.width + x.bits); width = w; signed = false }

beside_tells : (place : Place) (so x more : ConstValue) → beside place so x ≡ Ok more → (made so x (so.width + x.width) ≡ more) × (so.width + x.width ≤ 128)
unfolding beside
beside_tells place so x more e =
    let step = first_step (narrow place (so.width + x.width)) (λ w. Ok (made so x w)) more e in
    let few = narrow_tells place (so.width + x.width) step.0 step.1.0 in
    (ap (made so x) few.0 ∙ same_answer (Ok (made so x step.0)) (made so x step.0) more refl step.1.1, few.1)

one_more : (place : Place) (so x more : ConstValue) → so.bits < 2 ^ so.width → x.bits < 2 ^ x.width → beside place so x ≡ Ok more → (more.width ≡ so.width + x.width) × (more.bits ≡ so.bits * 2 ^ x.width + x.bits)
one_more place so x more h k e =
    let is = beside_tells place so x more e in (
      sym (ap (λ (u : ConstValue). u.width) is.0),
      sym (ap (λ (u : ConstValue). u.bits) is.0) ∙ low-id (so.width + x.width) (so.bits * 2 ^ x.width + x.bits) (packed so.bits so.width x.bits x.width h k),
    )

join_step : (s n m x y : ℕ) (p q r : ℕ) → p ≡ 2 ^ n → q ≡ 2 ^ m → r ≡ 2 ^ (n + m) → (s * q + x) * p + y ≡ s * r + (y + p * x)
join_step s n m x y p q r p-is q-is r-is =
    let both : r ≡ p * q = r-is ∙ pow-add 2 n m ∙ ap₂ (λ (i j : ℕ). i * j) (sym p-is) (sym q-is) in
    let spread : s * r ≡ s * (p * q) = ap (λ (k : ℕ). s * k) both in
    omega (arith, spread)

joined_few : (place : Place) (ms : List (Or_fault Worth)) (so v : ConstValue) → so.width ≤ 128 → joined_value place so ms ≡ Ok v → v.width ≤ 128
unfolding joined_value
joined_few place [] so v h e = subst (λ (u : ConstValue). u.width ≤ 128) (same_answer (Ok so) so v refl e) h
joined_few place (m ∷ ms) so v h e =
    let rest : ConstValue → Or_fault ConstValue = λ more. joined_value place more ms in
    let one = first_step m (λ a. and_then (alone a) (λ x. and_then (beside place so x) rest)) v e in
    let own = first_step (alone one.0) (λ x. and_then (beside place so x) rest) v one.1.1 in
    let next = first_step (beside place so own.0) rest v own.1.1 in
    let is = beside_tells place so own.0 next.0 next.1.0 in
    joined_few place ms next.0 v (subst (λ (u : ConstValue). u.width ≤ 128) is.0 is.1) next.1.1

module _ (names : List ℕ → Seen) where
  abbrev IsSo : Expr → Type 0
  IsSo e = (a : Worth) → worth no_values e ≡ Ok a → Agrees a (valued names e)

  abbrev worths : List ((e : Expr) × IsSo e) → List (Or_fault Worth)
  worths es = map (worth no_values) (map (λ p. p.0) es)

  abbrev values : List ((e : Expr) × IsSo e) → List Valued
  values es = map (valued names) (map (λ p. p.0) es)

  members_agree : (place : Place) (es : List ((e : Expr) × IsSo e)) (so v : ConstValue) → so.bits < 2 ^ so.width → joined_value place so (worths es) ≡ Ok v → IsJoined so v (joined_width (values es)) (joined (values es))
  unfolding joined_value joined joined_width
  members_agree place [] so v h e = subst (λ (u : ConstValue). IsJoined so u 0 []) (same_answer (Ok so) so v refl e) (record { below = 0; wide = omega arith; bits_are = omega arith; word = is-nothing })
  members_agree place (m ∷ es) so v h e =
      let rest : ConstValue → Or_fault ConstValue = λ more. joined_value place more (worths es) in
      let one = first_step (worth no_values m.0) (λ a. and_then (alone a) (λ x. and_then (beside place so x) rest)) v e in
      let own = first_step (alone one.0) (λ x. and_then (beside place so x) rest) v one.1.1 in
      let next = first_step (beside place so own.0) rest v own.1.1 in
      let agrees = m.1 one.0 one.1.0 in
      let x = own.0 in
      let more = next.0 in
      let is = alone_tells one.0 (valued names m.0) agrees x own.1.0 in
      let word = subst (λ (k : ℕ). Is k x.bits (word_alone (valued names m.0))) (sym is.width) is.word in
      let small = is-below x.width x.bits (word_alone (valued names m.0)) word in
      let joins = one_more place so x more h small next.1.0 in
      let fits : more.bits < 2 ^ more.width = subst₂ (λ (i j : ℕ). i < 2 ^ j) (sym joins.1) (sym joins.0) (packed so.bits so.width x.bits x.width h small) in
      let others = members_agree place es more v fits next.1.1 in
      let n = joined_width (values es) in
      let same : (valued names m.0).shape.width ≡ x.width = ap (λ (s : Shape). s.width) agrees.shape ∙ sym is.width in
      let more_width = joins.0 in
      let wide = others.wide in
      subst (λ (k : ℕ). IsJoined so v (n + k) (joined (values es) ++ word_alone (valued names m.0))) (sym same) (record {
        below = others.below + 2 ^ n * x.bits;
        wide = omega (arith, wide, more_width);
        bits_are = others.bits_are ∙ ap (λ (k : ℕ). k * 2 ^ n + others.below) joins.1 ∙ join_step so.bits n x.width x.bits others.below (2 ^ n) (2 ^ x.width) (2 ^ (n + x.width)) refl refl refl;
        word = is-append n x.width others.below x.bits (joined (values es)) (word_alone (valued names m.0)) others.word word;
      })

  all_agree : (place : Place) (es : List ((e : Expr) × IsSo e)) (v : ConstValue) → joined_value place nothing (worths es) ≡ Ok v → (v.width ≡ joined_width (values es)) × Is v.width v.bits (joined (values es))
  all_agree place es v e =
      let all = members_agree place es nothing v (omega arith) e in
      let wide = all.wide in
      let bits_are = all.bits_are in
      let width : joined_width (values es) ≡ v.width = omega arith in
      let number : all.below ≡ v.bits = omega arith in
      (sym width, subst (λ (k : ℕ). Is k v.bits (joined (values es))) width (subst (λ (x : ℕ). Is (joined_width (values es)) x (joined (values es))) number all.word))

  concat_agrees : (place : Place) (es : List ((e : Expr) × IsSo e)) (a : Worth) → concat_worth place (worths es) ≡ Ok a → Agrees a (concat_valued (values es))
  unfolding concat_worth
  concat_agrees place es a e =
      let step = first_step (joined_value place nothing (worths es)) (λ v. Ok (fixed_worth place (unsigned v.width) v.bits)) a e in
      let v = step.0 in
      let all = all_agree place es v step.1.0 in
      subst (λ (z : Worth). Agrees z (concat_valued (values es))) (same_answer (Ok (fixed_worth place (unsigned v.width) v.bits)) (fixed_worth place (unsigned v.width) v.bits) a refl step.1.1)
      (fixed_agrees place (unsigned v.width) (unsigned (joined_width (values es))) v.bits (joined (values es)) (ap unsigned (sym all.0)) (joined_few place (worths es) nothing v (omega arith) step.1.0) all.1)

  copies-are : (k n x : ℕ) (w : List Tern) → Is n x w → Is (k * n) (value_copies k n x) (copies k w)
  unfolding value_copies copies
  copies-are zero n x w h = subst (λ (m : ℕ). Is m 0 []) (sym (zero-mul n)) is-nothing
  copies-are (suc k) n x w h =
      let width : n + k * n ≡ suc k * n = omega arith in
      let number : x + 2 ^ n * value_copies k n x ≡ value_copies k n x * 2 ^ n + x = omega arith in
      subst (λ (m : ℕ). Is m (value_copies k n x * 2 ^ n + x) (w ++ copies k w)) width
      (subst (λ (y : ℕ). Is (n + k * n) y (w ++ copies k w)) number (is-append n (k * n) x (value_copies k n x) w (copies k w) h (copies-are k n x w h)))

  repeat_agrees : (place : Place) (m : ConstValue) (k : ℕ) (es : List ((e : Expr) × IsSo e)) (v : ConstValue) (a : Worth) → k ≡ counted (whole m) → joined_value place nothing (worths es) ≡ Ok v → repeat_worth place m v ≡ Ok a → Agrees a (repeat_valued k (values es))
  unfolding repeat_worth
  repeat_agrees place m k es v a same e f =
      let all = all_agree place es v e in
      let width = all.0 in
      let is = copies-are k v.width v.bits (joined (values es)) all.1 in
      let small = low-id (k * v.width) (value_copies k v.width v.bits) (is-below (k * v.width) _ (copies k (joined (values es))) is) in
      let shape : repeated_shape k (unsigned (joined_width (values es))) ≡ repeated_shape k (shape_of v) = ap (λ (n : ℕ). unsigned (k * n)) (sym width) in
      settled_agrees place (repeated_shape k (shape_of v)) (repeated_shape k (unsigned (joined_width (values es)))) (value_copies k v.width v.bits) (copies k (joined (values es))) a shape
      (subst (λ (n : ℕ). Is (k * v.width) n (copies k (joined (values es)))) (sym small) is)
      (ap (λ (n : ℕ). settled place (repeated_shape n (shape_of v)) (value_copies n v.width v.bits)) same ∙ f)

  -- ---- the induction

  by_form : (e e' : Expr) (r : Or_fault Worth) (v : Valued) → e ≡ e' → worth no_values e' ≡ r → valued names e' ≡ v → ((a : Worth) → r ≡ Ok a → Agrees a v) → IsSo e
  by_form e e' r v rolls left right h = subst IsSo (sym rolls) (λ a is. subst (Agrees a) (sym right) (h a (sym left ∙ is)))

  nameless : (place : Place) (name : List ℕ) (a : Worth) → named_worth no_values place name ≡ Ok a → ⊥
  unfolding named_worth looked_up and_then
  nameless place name a e = cc

  unselected : (place : Place) (name : List ℕ) (v : ConstValue) → selected no_values place name ≡ Ok v → ⊥
  unfolding selected
  unselected place name v e = let step = first_step (named_worth no_values place name) alone v e in nameless place name step.0 step.1.0

  number_case : (place : Place) (s : Shape) (x : ℕ) (a : Worth) → settled place s x ≡ Ok a → Agrees a (fixed s (bits s.width x))
  number_case place s x a e = settled_agrees place s s x (bits s.width x) a refl (is-bits s.width x) e

  brackets_case : (place : Place) (m : (e : Expr) × IsSo e) (a : Worth) → and_then (worth no_values m.0) (λ b. Ok (record b { place = place })) ≡ Ok a → Agrees a (valued names m.0)
  brackets_case place m a e =
      let step = first_step (worth no_values m.0) (λ b. Ok (record b { place = place })) a e in
      let h = m.1 step.0 step.1.0 in
      let mine : Worth = record { place = place; shape = step.0.shape; value = step.0.value } in
      subst (λ (z : Worth). Agrees z (valued names m.0)) (same_answer (Ok mine) mine a refl step.1.1) (record { shape = h.shape; few = h.few; word = h.word })

  repeat_case : (place : Place) (n : (e : Expr) × IsSo e) (es : List ((e : Expr) × IsSo e)) (a : Worth)
      → and_then (worth no_values n.0) (λ c. and_then (alone c) (λ m. and_then (joined_value place nothing (worths es)) (λ v. repeat_worth place m v))) ≡ Ok a → Agrees a (repeat_valued (count_alone n.0) (values es))
  unfolding number_of value_of
  repeat_case place n es a e =
      let last : ConstValue → ConstValue → Or_fault Worth = λ m v. repeat_worth place m v in
      let first = first_step (worth no_values n.0) (λ c. and_then (alone c) (λ m. and_then (joined_value place nothing (worths es)) (last m))) a e in
      let second = first_step (alone first.0) (λ m. and_then (joined_value place nothing (worths es)) (last m)) a first.1.1 in
      let third = first_step (joined_value place nothing (worths es)) (last second.0) a second.1.1 in
      let count : value_of no_values n.0 ≡ Ok second.0 = then_step (worth no_values n.0) alone first.0 first.1.0 ∙ second.1.0 in
      repeat_agrees place second.0 (count_alone n.0) es third.0 a (ap (λ r. counted (number_of r)) count) third.1.0 third.1.1

  unary_case : (place : Place) (op : u.Unary) (m : (e : Expr) × IsSo e) (a : Worth) → and_then (worth no_values m.0) (λ b. unary_worth place op b) ≡ Ok a → Agrees a (unary_valued op (valued names m.0))
  unary_case place op m a e =
      let step = first_step (worth no_values m.0) (λ b. unary_worth place op b) a e in
      unary_agrees place op step.0 a (valued names m.0) (m.1 step.0 step.1.0) step.1.1

  binary_case : (place : Place) (op : b.Binary) (l r : (e : Expr) × IsSo e) (a : Worth) → worth no_values (Between place op l.0 r.0) ≡ Ok a → Agrees a (binary_valued (Between place op l.0 r.0) op (valued names l.0) (valued names r.0))
  binary_case place op l r a whole =
      let e = sym (worth-Binary no_values place op l.0 r.0) ∙ whole in
      let left = first_step (worth no_values l.0) (λ x. and_then (worth no_values r.0) (λ y. binary_worth place op x y)) a e in
      let right = first_step (worth no_values r.0) (λ y. binary_worth place op left.0 y) a left.1.1 in
      binary_agrees (Between place op l.0 r.0) place op left.0 right.0 a (valued names l.0) (valued names r.0) (l.1 left.0 left.1.0) (r.1 right.0 right.1.0) whole right.1.1

  choice_case : (place : Place) (t l r : (e : Expr) × IsSo e) (a : Worth)
      → and_then (worth no_values t.0) (λ s. and_then (alone s) (λ v. and_then (worth no_values l.0) (λ x. and_then (worth no_values r.0) (λ y. Ok (choice_worth place (is_true v) x y))))) ≡ Ok a
      → Agrees a (choice_valued (valued names t.0) (valued names l.0) (valued names r.0))
  choice_case place t l r a e =
      let last : ConstValue → Worth → Worth → Or_fault Worth = λ v x y. Ok (choice_worth place (is_true v) x y) in
      let test = first_step (worth no_values t.0) (λ s. and_then (alone s) (λ v. and_then (worth no_values l.0) (λ x. and_then (worth no_values r.0) (last v x)))) a e in
      let decided = first_step (alone test.0) (λ v. and_then (worth no_values l.0) (λ x. and_then (worth no_values r.0) (last v x))) a test.1.1 in
      let left = first_step (worth no_values l.0) (λ x. and_then (worth no_values r.0) (last decided.0 x)) a decided.1.1 in
      let right = first_step (worth no_values r.0) (last decided.0 left.0) a left.1.1 in
      subst (λ (z : Worth). Agrees z (choice_valued (valued names t.0) (valued names l.0) (valued names r.0)))
      (same_answer (last decided.0 left.0 right.0) (choice_worth place (is_true decided.0) left.0 right.0) a refl right.1.1)
      (choice_agrees place decided.0 test.0 left.0 right.0 (valued names t.0) (valued names l.0) (valued names r.0) (t.1 test.0 test.1.0) (l.1 left.0 left.1.0) (r.1 right.0 right.1.0) decided.1.0)

  by_parts : (y : Expr-F ((e : Expr) × IsSo e)) → IsSo (roll-Expr (map-Expr ((e : Expr) × IsSo e) Expr (λ p. p.0) y))
  unfolding number
  by_parts (Expr-F.Number place n) = by_form _ _ _ _ (rolls-Number place n) (worth-Number no_values place n) (valued-Number names place n) (number_case place (record { width = n.width; signed = n.signed }) n.bits)
  by_parts (Expr-F.Name place name) = by_form _ _ _ (valued names (Named place name)) (rolls-Name place name) (worth-Name no_values place name) refl (λ a e. absurd (nameless place name a e))
  by_parts (Expr-F.Index place name i) = by_form _ _ _ (valued names (Indexed place name i.0)) (rolls-Index place name i.0) (worth-Index no_values place name i.0) refl
      (λ a e. let step = first_step (selected no_values place name) _ a e in absurd (unselected place name step.0 step.1.0))
  by_parts (Expr-F.Select how place name i j) = by_form _ _ _ (valued names (Selected how place name i.0 j.0)) (rolls-Select how place name i.0 j.0) (worth-Select no_values place name how i.0 j.0) refl
      (λ a e. let step = first_step (selected no_values place name) _ a e in absurd (unselected place name step.0 step.1.0))
  by_parts (Expr-F.Brackets place m) = by_form _ _ _ _ (rolls-Brackets place m.0) (worth-Brackets no_values place m.0) (valued-Brackets names place m.0) (brackets_case place m)
  by_parts (Expr-F.Concat place es) = by_form _ _ _ _ (rolls-Concat place (map (λ p. p.0) es)) (worth-Concat no_values place (map (λ p. p.0) es)) (valued-Concat names place (map (λ p. p.0) es)) (concat_agrees place es)
  by_parts (Expr-F.Repeat place n es) = by_form _ _ _ _ (rolls-Repeat place n.0 (map (λ p. p.0) es)) (worth-Repeat no_values place n.0 (map (λ p. p.0) es)) (valued-Repeat names place n.0 (map (λ p. p.0) es)) (repeat_case place n es)
  by_parts (Expr-F.Unary place op m) = by_form _ _ _ _ (rolls-Unary place op m.0) (worth-Unary no_values place op m.0) (valued-Unary names place op m.0) (unary_case place op m)
  by_parts (Expr-F.Binary place op l r) = by_form _ _ (worth no_values (Between place op l.0 r.0)) _ (rolls-Binary place op l.0 r.0) refl (valued-Binary names place op l.0 r.0) (binary_case place op l r)
  by_parts (Expr-F.Conditional place t l r) = by_form _ _ _ _ (rolls-Conditional place t.0 l.0 r.0) (worth-Conditional no_values place t.0 l.0 r.0) (valued-Conditional names place t.0 l.0 r.0) (choice_case place t l r)

  pub constants_agree : (e : Expr) (a : Worth) → worth no_values e ≡ Ok a → Agrees a (valued names e)
  constants_agree e = ind-Expr IsSo (λ x y is. subst (λ z. IsSo (roll-Expr z)) is (by_parts y)) e

  -- ---- values

  pub alone_agrees : (e : Expr) (v : ConstValue) → value_of no_values e ≡ Ok v → word_of names e ≡ bits v.width v.bits
  unfolding value_of
  alone_agrees e v is =
      let step = first_step (worth no_values e) alone v is in
      let value = alone_tells step.0 (valued names e) (constants_agree e step.0 step.1.0) v step.1.1 in
      bits-is v.width v.bits (word_of names e) (subst (λ (n : ℕ). Is n v.bits (word_of names e)) (sym value.width) value.word)

  in_agrees : (e : Expr) (a : Worth) (c : Shape) (v : ConstValue) → worth no_values e ≡ Ok a → c.width ≤ 128 → in_context a c ≡ Ok v → word_in names c e ≡ bits v.width v.bits
  in_agrees e a c v whole few is =
      let value = context_tells a (valued names e) (constants_agree e a whole) c v few is in
      bits-is v.width v.bits (word_in names c e) (subst (λ (n : ℕ). Is n v.bits (word_in names c e)) (sym value.width) value.word)

  pub inside_agrees : (c : Shape) (e : Expr) (v : ConstValue) → value_in no_values c e ≡ Ok v → word_in names c e ≡ bits v.width v.bits
  unfolding value_in worth_in
  inside_agrees c e v is =
      let step = first_step (worth no_values e) (λ a. and_then (narrow a.place c.width) (λ n. in_context a c)) v is in
      let context = first_step (narrow step.0.place c.width) (λ n. in_context step.0 c) v step.1.1 in
      in_agrees e step.0 c v step.1.0 (narrow_tells step.0.place c.width context.0 context.1.0).1 context.1.1

  pub assigned_agrees : (w : ℕ) (e : Expr) (v : ConstValue) → value_within no_values w e ≡ Ok v → word_within names w e ≡ bits v.width v.bits
  unfolding value_within
  assigned_agrees w e v is =
      let step = first_step (worth no_values e) (λ a. and_then (narrow a.place (max a.shape.width w)) (λ n. in_context a (within w a.shape))) v is in
      let context = first_step (narrow step.0.place (max step.0.shape.width w)) (λ n. in_context step.0 (within w step.0.shape)) v step.1.1 in
      let agrees = constants_agree e step.0 step.1.0 in
      let few = (narrow_tells step.0.place (max step.0.shape.width w) context.0 context.1.0).1 in
      ap (λ (s : Shape). word_in names (within w s) e) agrees.shape ∙ in_agrees e step.0 (within w step.0.shape) v step.1.0 few context.1.1
