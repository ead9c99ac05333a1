-- Serves specs/ConstantLaws.antt: with its constants written as numbers an expression has the value that it had.
use Rattle.std.proofs.Common.{◌≡◌, ℕ, ◌+◌, ◌-◌, ◌%◌, ◌^◌, ◌<◌, ◌≤◌, max, Bool, true, false, if◌then◌else◌, List, [], ◌∷◌, map, Ok, Err, refl, sym, ap, subst, ◌∙◌, arith, mod-lt, pow_pos}
use Rattle.rdc_outside.specs.declared.source.Place.{Place}
use Rattle.vlog_tree.specs.declared.expr.Expr.{Expr, ind-Expr, map-Expr, roll-Expr, para-roll-Expr}
use Rattle.vlog_tree.specs.declared.expr.Expr.TheOpen.{Expr-F}
use Rattle.vlog_tree.specs.declared.expr.Expr.TheVariants.{Number, Name, Index, Select, Brackets, Concat, Repeat, Unary, Binary, Conditional, rolls-Number, rolls-Name, rolls-Index, rolls-Select, rolls-Brackets, rolls-Concat, rolls-Repeat, rolls-Unary, rolls-Binary, rolls-Conditional}
use Rattle.vlog_tree.specs.declared.expr.Part.{Part}
use Rattle.vlog_tree.specs.declared.number.Number as n
use Rattle.vlog_tree.specs.declared.operator.Unary as u
use Rattle.vlog_tree.specs.declared.operator.Binary as b
use Rattle.vlog_const.specs.declared.shape.Shape.{Shape}
use Rattle.vlog_const.specs.declared.answer.ConstValue.{ConstValue}
use Rattle.vlog_const.specs.Names.{Values, no_values}
use Rattle.vlog_const.specs.Widths.{bit, unsigned, within}
use Rattle.vlog_const.specs.Words.{low, is_negative, extended as stretched}
use Rattle.vlog_const.specs.Worths.{Or_fault, and_then, Worth, fixed as fixed_worth, valued as settled_value, narrow, in_context, alone, is_true, number, named as named_worth, settled, looked_up, shape_of}
use Rattle.vlog_const.specs.Selects.{window, whole, part_start, part_width, selected, beside, joined, nothing, index_worth, select_worth, concat_worth, repeat_worth}
use Rattle.vlog_const.specs.Operations.{unary_worth, binary_worth, choice_worth}
use Rattle.vlog_const.specs.Constants.{worth, value_of, value_in, value_within, worth_in}
use Rattle.design_form.specs.ConstantLaws.{as_number, number_or, written, written_by_parts}
use Rattle.design_form.proofs.ValueLemmas.{firsts}
use Rattle.design_form.proofs.SettledWords.{low-id}
use Rattle.design_form.proofs.WorthForms.{worth-Number, worth-Name, worth-Index, worth-Select, worth-Brackets, worth-Concat, worth-Repeat, worth-Unary, worth-Binary, worth-Conditional, same_answer, first_step, then_step, narrow_tells, narrow_gives}

-- ---- forms

written-Number : (values : Values) (place : Place) (x : n.Number) → written values (Number place x) ≡ Number place x
unfolding written written_by_parts
written-Number values place x = ap (written values) (sym (rolls-Number place x)) ∙ para-roll-Expr Expr (written_by_parts values) (Expr-F.Number place x)

written-Name : (values : Values) (place : Place) (name : List ℕ) → written values (Name place name) ≡ number_or place (Name place name) (value_of values (Name place name))
unfolding written written_by_parts
written-Name values place name = ap (written values) (sym (rolls-Name place name)) ∙ para-roll-Expr Expr (written_by_parts values) (Expr-F.Name place name)

written-Index : (values : Values) (place : Place) (name : List ℕ) (i : Expr) → written values (Index place name i) ≡ number_or place (Index place name (written values i)) (value_of values (Index place name i))
unfolding written written_by_parts
written-Index values place name i = ap (written values) (sym (rolls-Index place name i)) ∙ para-roll-Expr Expr (written_by_parts values) (Expr-F.Index place name i)

written-Select : (values : Values) (place : Place) (name : List ℕ) (how : Part) (i j : Expr)
    → written values (Select how place name i j) ≡ number_or place (Select how place name (written values i) (written values j)) (value_of values (Select how place name i j))
unfolding written written_by_parts
written-Select values place name how i j = ap (written values) (sym (rolls-Select how place name i j)) ∙ para-roll-Expr Expr (written_by_parts values) (Expr-F.Select how place name i j)

written-Brackets : (values : Values) (place : Place) (a : Expr) → written values (Brackets place a) ≡ Brackets place (written values a)
unfolding written written_by_parts
written-Brackets values place a = ap (written values) (sym (rolls-Brackets place a)) ∙ para-roll-Expr Expr (written_by_parts values) (Expr-F.Brackets place a)

written-Concat : (values : Values) (place : Place) (es : List Expr) → written values (Concat place es) ≡ Concat place (map (written values) es)
unfolding written written_by_parts
written-Concat values place es = ap (written values) (sym (rolls-Concat place es)) ∙ para-roll-Expr Expr (written_by_parts values) (Expr-F.Concat place es) ∙ ap (Concat place) (firsts (written values) es)

written-Repeat : (values : Values) (place : Place) (k : Expr) (es : List Expr) → written values (Repeat place k es) ≡ Repeat place (written values k) (map (written values) es)
unfolding written written_by_parts
written-Repeat values place k es = ap (written values) (sym (rolls-Repeat place k es)) ∙ para-roll-Expr Expr (written_by_parts values) (Expr-F.Repeat place k es) ∙ ap (Repeat place (written values k)) (firsts (written values) es)

written-Unary : (values : Values) (place : Place) (op : u.Unary) (a : Expr) → written values (Unary place op a) ≡ Unary place op (written values a)
unfolding written written_by_parts
written-Unary values place op a = ap (written values) (sym (rolls-Unary place op a)) ∙ para-roll-Expr Expr (written_by_parts values) (Expr-F.Unary place op a)

written-Binary : (values : Values) (place : Place) (op : b.Binary) (x y : Expr) → written values (Binary place op x y) ≡ Binary place op (written values x) (written values y)
unfolding written written_by_parts
written-Binary values place op x y = ap (written values) (sym (rolls-Binary place op x y)) ∙ para-roll-Expr Expr (written_by_parts values) (Expr-F.Binary place op x y)

written-Conditional : (values : Values) (place : Place) (test x y : Expr) → written values (Conditional place test x y) ≡ Conditional place (written values test) (written values x) (written values y)
unfolding written written_by_parts
written-Conditional values place test x y = ap (written values) (sym (rolls-Conditional place test x y)) ∙ para-roll-Expr Expr (written_by_parts values) (Expr-F.Conditional place test x y)

-- ---- numbers

unfilled : (b : Bool) (x w : ℕ) → (if b then x + (2 ^ w - 2 ^ w) else x) ≡ x
unfilled true x w = omega arith
unfilled false x w = refl

own_context : (s : Shape) (x : ℕ) → x < 2 ^ s.width → low s.width (stretched s.width s x) ≡ x
unfolding stretched
own_context s x h =
    let inner = unfilled (is_negative s.signed s.width x) x s.width in
    let small = low-id s.width x h in
    ap (λ (k : ℕ). k % 2 ^ s.width % 2 ^ s.width) inner ∙ ap (λ (k : ℕ). k % 2 ^ s.width) small ∙ small

-- what its own shape fixes is worth the same as a number
number_worth : (place : Place) (s : Shape) (x : ℕ) (e rest : Expr) (values : Values) → s.width ≤ 128 → x < 2 ^ s.width → worth values e ≡ Ok (fixed_worth place s x) → worth no_values (number_or place rest (value_of values e)) ≡ Ok (fixed_worth place s x)
unfolding value_of alone in_context number_or number settled
number_worth place s x e rest values few small is =
    let value : value_of values e ≡ Ok (settled_value s (stretched s.width s x)) =
    then_step (worth values e) alone (fixed_worth place s x) is ∙ then_step ((fixed_worth place s x).value s) (λ y. Ok (settled_value s y)) (stretched s.width s x) refl in
    let same = own_context s x small in
    ap (λ r. worth no_values (number_or place rest r)) value
    ∙ worth-Number no_values place _
    ∙ then_step (narrow place s.width) (λ k. Ok (fixed_worth place s (low s.width (low s.width (stretched s.width s x))))) s.width (narrow_gives place s.width few)
    ∙ ap (λ (k : ℕ). Ok (fixed_worth place s (low s.width k))) same ∙ ap (λ (k : ℕ). Ok (fixed_worth place s k)) (low-id s.width x small)

abbrev IsSo : Values → Expr → Type 0
IsSo values e = (a : Worth) → worth values e ≡ Ok a → worth no_values (written values e) ≡ Ok a

-- an answer that its own shape fixes
record IsFixed (place : Place) (a : Worth) : Type 0 where
  pub shape : Shape
  pub bits : ℕ
  pub few : shape.width ≤ 128
  pub small : bits < 2 ^ shape.width
  pub is : fixed_worth place shape bits ≡ a

fixed_written : (place : Place) (e rest : Expr) (values : Values) (a : Worth) → IsFixed place a → worth values e ≡ Ok a → written values e ≡ number_or place rest (value_of values e) → worth no_values (written values e) ≡ Ok a
fixed_written place e rest values a h is form =
    ap (worth no_values) form ∙ subst (λ (z : Worth). worth no_values (number_or place rest (value_of values e)) ≡ Ok z) h.is (number_worth place h.shape h.bits e rest values h.few h.small (is ∙ ap Ok (sym h.is)))

settled_fixed : (place : Place) (s : Shape) (x : ℕ) (a : Worth) → settled place s x ≡ Ok a → IsFixed place a
unfolding settled
settled_fixed place s x a e =
    let step = first_step (narrow place s.width) (λ k. Ok (fixed_worth place s (low s.width x))) a e in
    record {
      shape = s;
      bits = low s.width x;
      few = (narrow_tells place s.width step.0 step.1.0).1;
      small = mod-lt x (pow_pos s.width);
      is = same_answer (Ok (fixed_worth place s (low s.width x))) (fixed_worth place s (low s.width x)) a refl step.1.1;
    }

named_fixed : (values : Values) (place : Place) (name : List ℕ) (a : Worth) → named_worth values place name ≡ Ok a → IsFixed place a
unfolding named_worth
named_fixed values place name a e =
    let step = first_step (looked_up place (values name)) (λ v. settled place (shape_of v) v.bits) a e in
    settled_fixed place (shape_of step.0) step.0.bits a step.1.1

index_fixed : (place : Place) (v i : ConstValue) → IsFixed place (index_worth place v i)
unfolding index_worth window
index_fixed place v i = record { shape = bit; bits = _; few = one; small = mod-lt _ (pow_pos 1); is = refl }
  where
    one : 1 ≤ 128
    one = omega arith

select_fixed : (place : Place) (v : ConstValue) (how : Part) (i j : ConstValue) (a : Worth) → select_worth place v how i j ≡ Ok a → IsFixed place a
unfolding select_worth window
select_fixed place v how i j a e =
    let made : ℕ → Worth = λ w. fixed_worth place (unsigned w) (window v.bits (part_start how (whole i) (whole j)) w) in
    let step = first_step (narrow place (part_width how (whole i) (whole j))) (λ w. Ok (made w)) a e in
    let few = narrow_tells place (part_width how (whole i) (whole j)) step.0 step.1.0 in
    record { shape = unsigned step.0; bits = _; few = subst (λ (k : ℕ). k ≤ 128) few.0 few.1; small = mod-lt _ (pow_pos step.0); is = same_answer (Ok (made step.0)) (made step.0) a refl step.1.1 }

-- ---- the induction

module _ (values : Values) where
  abbrev So : Type 0
  So = (e : Expr) × IsSo values e

  by_form : (e e' f : Expr) (r : Or_fault Worth) → e ≡ e' → worth values e' ≡ r → written values e' ≡ f → ((a : Worth) → r ≡ Ok a → worth no_values f ≡ Ok a) → IsSo values e
  by_form e e' f r rolls left right h = subst (IsSo values) (sym rolls) (λ a is. ap (worth no_values) right ∙ h a (sym left ∙ is))

  members_written : (place : Place) (es : List So) (so v : ConstValue) → joined place so (map (worth values) (map (λ p. p.0) es)) ≡ Ok v → joined place so (map (worth no_values) (map (written values) (map (λ p. p.0) es))) ≡ Ok v
  unfolding joined
  members_written place [] so v e = e
  members_written place (m ∷ es) so v e =
      let rest : ConstValue → Or_fault ConstValue = λ more. joined place more (map (worth values) (map (λ p. p.0) es)) in
      let others : ConstValue → Or_fault ConstValue = λ more. joined place more (map (worth no_values) (map (written values) (map (λ p. p.0) es))) in
      let one = first_step (worth values m.0) (λ a. and_then (alone a) (λ x. and_then (beside place so x) rest)) v e in
      let own = first_step (alone one.0) (λ x. and_then (beside place so x) rest) v one.1.1 in
      let next = first_step (beside place so own.0) rest v own.1.1 in
      then_step (worth no_values (written values m.0)) (λ a. and_then (alone a) (λ x. and_then (beside place so x) others)) one.0 (m.1 one.0 one.1.0)
      ∙ then_step (alone one.0) (λ x. and_then (beside place so x) others) own.0 own.1.0
      ∙ then_step (beside place so own.0) others next.0 next.1.0
      ∙ members_written place es next.0 v next.1.1

  index_case : (place : Place) (name : List ℕ) (i : Expr) → IsSo values (Index place name i)
  index_case place name i a is =
      let e = sym (worth-Index values place name i) ∙ is in
      let first = first_step (selected values place name) (λ v. and_then (worth values i) (λ b. and_then (alone b) (λ at. Ok (index_worth place v at)))) a e in
      let second = first_step (worth values i) (λ b. and_then (alone b) (λ at. Ok (index_worth place first.0 at))) a first.1.1 in
      let third = first_step (alone second.0) (λ at. Ok (index_worth place first.0 at)) a second.1.1 in
      let same = same_answer (Ok (index_worth place first.0 third.0)) (index_worth place first.0 third.0) a refl third.1.1 in
      fixed_written place (Index place name i) (Index place name (written values i)) values a (subst (IsFixed place) same (index_fixed place first.0 third.0)) is (written-Index values place name i)

  select_case : (place : Place) (name : List ℕ) (how : Part) (i j : Expr) → IsSo values (Select how place name i j)
  select_case place name how i j a is =
      let last : ConstValue → ConstValue → ConstValue → Or_fault Worth = λ v x y. select_worth place v how x y in
      let e = sym (worth-Select values place name how i j) ∙ is in
      let first = first_step (selected values place name) (λ v. and_then (worth values i) (λ b. and_then (alone b) (λ x. and_then (worth values j) (λ c. and_then (alone c) (last v x))))) a e in
      let second = first_step (worth values i) (λ b. and_then (alone b) (λ x. and_then (worth values j) (λ c. and_then (alone c) (last first.0 x)))) a first.1.1 in
      let third = first_step (alone second.0) (λ x. and_then (worth values j) (λ c. and_then (alone c) (last first.0 x))) a second.1.1 in
      let fourth = first_step (worth values j) (λ c. and_then (alone c) (last first.0 third.0)) a third.1.1 in
      let fifth = first_step (alone fourth.0) (last first.0 third.0) a fourth.1.1 in
      fixed_written place (Select how place name i j) (Select how place name (written values i) (written values j)) values a (select_fixed place first.0 how third.0 fifth.0 a fifth.1.1) is (written-Select values place name how i j)

  brackets_case : (place : Place) (m : So) (a : Worth) → and_then (worth values m.0) (λ b. Ok (record b { place = place })) ≡ Ok a → worth no_values (Brackets place (written values m.0)) ≡ Ok a
  brackets_case place m a e =
      let step = first_step (worth values m.0) (λ b. Ok (record b { place = place })) a e in
      worth-Brackets no_values place (written values m.0) ∙ then_step (worth no_values (written values m.0)) (λ b. Ok (record b { place = place })) step.0 (m.1 step.0 step.1.0) ∙ step.1.1

  concat_case : (place : Place) (es : List So) (a : Worth) → concat_worth place (map (worth values) (map (λ p. p.0) es)) ≡ Ok a → worth no_values (Concat place (map (written values) (map (λ p. p.0) es))) ≡ Ok a
  unfolding concat_worth
  concat_case place es a e =
      let last : ConstValue → Or_fault Worth = λ v. Ok (fixed_worth place (unsigned v.width) v.bits) in
      let step = first_step (joined place nothing (map (worth values) (map (λ p. p.0) es))) last a e in
      worth-Concat no_values place (map (written values) (map (λ p. p.0) es)) ∙ then_step (joined place nothing (map (worth no_values) (map (written values) (map (λ p. p.0) es)))) last step.0 (members_written place es nothing step.0 step.1.0) ∙ step.1.1

  repeat_case : (place : Place) (k : So) (es : List So) (a : Worth)
      → and_then (worth values k.0) (λ c. and_then (alone c) (λ m. and_then (joined place nothing (map (worth values) (map (λ p. p.0) es))) (λ v. repeat_worth place m v))) ≡ Ok a
      → worth no_values (Repeat place (written values k.0) (map (written values) (map (λ p. p.0) es))) ≡ Ok a
  repeat_case place k es a e =
      let last : ConstValue → ConstValue → Or_fault Worth = λ m v. repeat_worth place m v in
      let old = joined place nothing (map (worth values) (map (λ p. p.0) es)) in
      let new = joined place nothing (map (worth no_values) (map (written values) (map (λ p. p.0) es))) in
      let first = first_step (worth values k.0) (λ c. and_then (alone c) (λ m. and_then old (last m))) a e in
      let second = first_step (alone first.0) (λ m. and_then old (last m)) a first.1.1 in
      let third = first_step old (last second.0) a second.1.1 in
      worth-Repeat no_values place (written values k.0) (map (written values) (map (λ p. p.0) es))
      ∙ then_step (worth no_values (written values k.0)) (λ c. and_then (alone c) (λ m. and_then new (last m))) first.0 (k.1 first.0 first.1.0)
      ∙ then_step (alone first.0) (λ m. and_then new (last m)) second.0 second.1.0
      ∙ then_step new (last second.0) third.0 (members_written place es nothing third.0 third.1.0)
      ∙ third.1.1

  unary_case : (place : Place) (op : u.Unary) (m : So) (a : Worth) → and_then (worth values m.0) (λ b. unary_worth place op b) ≡ Ok a → worth no_values (Unary place op (written values m.0)) ≡ Ok a
  unary_case place op m a e =
      let step = first_step (worth values m.0) (λ b. unary_worth place op b) a e in
      worth-Unary no_values place op (written values m.0) ∙ then_step (worth no_values (written values m.0)) (λ b. unary_worth place op b) step.0 (m.1 step.0 step.1.0) ∙ step.1.1

  binary_case : (place : Place) (op : b.Binary) (l r : So) (a : Worth) → and_then (worth values l.0) (λ x. and_then (worth values r.0) (λ y. binary_worth place op x y)) ≡ Ok a → worth no_values (Binary place op (written values l.0) (written values r.0)) ≡ Ok a
  binary_case place op l r a e =
      let left = first_step (worth values l.0) (λ x. and_then (worth values r.0) (λ y. binary_worth place op x y)) a e in
      let right = first_step (worth values r.0) (λ y. binary_worth place op left.0 y) a left.1.1 in
      worth-Binary no_values place op (written values l.0) (written values r.0)
      ∙ then_step (worth no_values (written values l.0)) (λ x. and_then (worth no_values (written values r.0)) (λ y. binary_worth place op x y)) left.0 (l.1 left.0 left.1.0)
      ∙ then_step (worth no_values (written values r.0)) (λ y. binary_worth place op left.0 y) right.0 (r.1 right.0 right.1.0)
      ∙ right.1.1

  choice_case : (place : Place) (t l r : So) (a : Worth)
      → and_then (worth values t.0) (λ s. and_then (alone s) (λ v. and_then (worth values l.0) (λ x. and_then (worth values r.0) (λ y. Ok (choice_worth place (is_true v) x y))))) ≡ Ok a
      → worth no_values (Conditional place (written values t.0) (written values l.0) (written values r.0)) ≡ Ok a
  choice_case place t l r a e =
      let last : ConstValue → Worth → Worth → Or_fault Worth = λ v x y. Ok (choice_worth place (is_true v) x y) in
      let test = first_step (worth values t.0) (λ s. and_then (alone s) (λ v. and_then (worth values l.0) (λ x. and_then (worth values r.0) (last v x)))) a e in
      let decided = first_step (alone test.0) (λ v. and_then (worth values l.0) (λ x. and_then (worth values r.0) (last v x))) a test.1.1 in
      let left = first_step (worth values l.0) (λ x. and_then (worth values r.0) (last decided.0 x)) a decided.1.1 in
      let right = first_step (worth values r.0) (last decided.0 left.0) a left.1.1 in
      worth-Conditional no_values place (written values t.0) (written values l.0) (written values r.0)
      ∙ then_step (worth no_values (written values t.0)) (λ s. and_then (alone s) (λ v. and_then (worth no_values (written values l.0)) (λ x. and_then (worth no_values (written values r.0)) (last v x)))) test.0 (t.1 test.0 test.1.0)
      ∙ then_step (alone test.0) (λ v. and_then (worth no_values (written values l.0)) (λ x. and_then (worth no_values (written values r.0)) (last v x))) decided.0 decided.1.0
      ∙ then_step (worth no_values (written values l.0)) (λ x. and_then (worth no_values (written values r.0)) (last decided.0 x)) left.0 (l.1 left.0 left.1.0)
      ∙ then_step (worth no_values (written values r.0)) (last decided.0 left.0) right.0 (r.1 right.0 right.1.0)
      ∙ right.1.1

  name_case : (place : Place) (name : List ℕ) → IsSo values (Name place name)
  name_case place name a is =
      fixed_written place (Name place name) (Name place name) values a (named_fixed values place name a (sym (worth-Name values place name) ∙ is)) is (written-Name values place name)

  by_parts : (y : Expr-F So) → IsSo values (roll-Expr (map-Expr So Expr (λ p. p.0) y))
  by_parts (Expr-F.Number place x) = by_form _ _ _ _ (rolls-Number place x) (worth-Number values place x) (written-Number values place x) (λ a e. worth-Number no_values place x ∙ e)
  by_parts (Expr-F.Name place name) = subst (IsSo values) (sym (rolls-Name place name)) (name_case place name)
  by_parts (Expr-F.Index place name i) = subst (IsSo values) (sym (rolls-Index place name i.0)) (index_case place name i.0)
  by_parts (Expr-F.Select how place name i j) = subst (IsSo values) (sym (rolls-Select how place name i.0 j.0)) (select_case place name how i.0 j.0)
  by_parts (Expr-F.Brackets place m) = by_form _ _ _ _ (rolls-Brackets place m.0) (worth-Brackets values place m.0) (written-Brackets values place m.0) (brackets_case place m)
  by_parts (Expr-F.Concat place es) = by_form _ _ _ _ (rolls-Concat place (map (λ p. p.0) es)) (worth-Concat values place (map (λ p. p.0) es)) (written-Concat values place (map (λ p. p.0) es)) (concat_case place es)
  by_parts (Expr-F.Repeat place k es) = by_form _ _ _ _ (rolls-Repeat place k.0 (map (λ p. p.0) es)) (worth-Repeat values place k.0 (map (λ p. p.0) es)) (written-Repeat values place k.0 (map (λ p. p.0) es)) (repeat_case place k es)
  by_parts (Expr-F.Unary place op m) = by_form _ _ _ _ (rolls-Unary place op m.0) (worth-Unary values place op m.0) (written-Unary values place op m.0) (unary_case place op m)
  by_parts (Expr-F.Binary place op l r) = by_form _ _ _ _ (rolls-Binary place op l.0 r.0) (worth-Binary values place op l.0 r.0) (written-Binary values place op l.0 r.0) (binary_case place op l r)
  by_parts (Expr-F.Conditional place t l r) = by_form _ _ _ _ (rolls-Conditional place t.0 l.0 r.0) (worth-Conditional values place t.0 l.0 r.0) (written-Conditional values place t.0 l.0 r.0) (choice_case place t l r)

  pub worth_written : (e : Expr) (a : Worth) → worth values e ≡ Ok a → worth no_values (written values e) ≡ Ok a
  worth_written e = ind-Expr (IsSo values) (λ x y is. subst (λ z. IsSo values (roll-Expr z)) is (by_parts y)) e

  -- ---- values

  pub value_written : (e : Expr) (v : ConstValue) → value_of values e ≡ Ok v → value_of no_values (written values e) ≡ Ok v
  unfolding value_of
  value_written e v is =
      let step = first_step (worth values e) alone v is in
      then_step (worth no_values (written values e)) alone step.0 (worth_written e step.0 step.1.0) ∙ step.1.1

  pub in_written : (c : Shape) (e : Expr) (v : ConstValue) → value_in values c e ≡ Ok v → value_in no_values c (written values e) ≡ Ok v
  unfolding value_in worth_in
  in_written c e v is =
      let last : Worth → Or_fault ConstValue = λ a. and_then (narrow a.place c.width) (λ n. in_context a c) in
      let step = first_step (worth values e) last v is in
      then_step (worth no_values (written values e)) last step.0 (worth_written e step.0 step.1.0) ∙ step.1.1

  pub within_written : (w : ℕ) (e : Expr) (v : ConstValue) → value_within values w e ≡ Ok v → value_within no_values w (written values e) ≡ Ok v
  unfolding value_within
  within_written w e v is =
      let last : Worth → Or_fault ConstValue = λ a. and_then (narrow a.place (max a.shape.width w)) (λ n. in_context a (within w a.shape)) in
      let step = first_step (worth values e) last v is in
      then_step (worth no_values (written values e)) last step.0 (worth_written e step.0 step.1.0) ∙ step.1.1
