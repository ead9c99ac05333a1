-- A relation of values that every gate keeps is kept by the value of every expression.
use Rattle.std.proofs.Common.{◌≡◌, ℕ, true, false, if◌then◌else◌, List, [], ◌∷◌, length, map, refl, sym, ap, subst, ◌∙◌}
use Rattle.std.specs.List.{AllZip}
use Rattle.std.proofs.lemmas.List.Elements.{length_all_zip}
use Rattle.vlog_tree.specs.declared.expr.Expr.{Expr, ind-Expr, map-Expr, roll-Expr}
use Rattle.vlog_tree.specs.declared.expr.Expr.TheOpen.{Expr-F}
use Rattle.vlog_tree.specs.declared.expr.Expr.TheVariants.{rolls-Number, rolls-Name, rolls-Index, rolls-Select, rolls-Brackets, rolls-Concat, rolls-Repeat, rolls-Unary, rolls-Binary, rolls-Conditional}
use Rattle.vlog_tree.specs.declared.expr.Part.{Part}
use Rattle.vlog_tree.specs.declared.expr.Part.TheVariants.{Fixed, Up, Down}
use Rattle.vlog_tree.specs.declared.operator.Unary.{Unary}
use Rattle.vlog_tree.specs.declared.operator.Binary.{Binary}
use Rattle.rdc_tern.specs.declared.value.Tern.{Tern}
use Rattle.rdc_tern.proofs.KeptLemmas.{IsKept, any_kept}
use Rattle.vlog_const.specs.declared.shape.Shape.{Shape}
use Rattle.vlog_const.specs.Names.{no_values}
use Rattle.vlog_const.specs.Widths.{unary_context, left_context, right_context, operand_family, family_of, common, choice_shape, unary_shape, binary_shape, left_in, right_in}
use Rattle.vlog_const.specs.Constants.{value_in}
use Rattle.design_form.specs.declared.signal.Bounds.{Bounds}
use Rattle.design_form.specs.Gates.{before_in, between_in}
use Rattle.design_form.specs.Selects.{Seen, part, part_width, part_from, picked}
use Rattle.design_form.specs.Values.{Valued, valued, constant_bits, is_computed, binary_word, fixed, named, index_valued, select_valued, select_width, select_word, number_alone, count_alone, concat_valued, repeat_valued, joined, joined_width, unary_valued, binary_valued, choice_valued}
use Rattle.design_form.proofs.ValueLemmas.{valued-Number, valued-Name, valued-Index, valued-Select, valued-Brackets, valued-Concat, valued-Repeat, valued-Unary, valued-Binary, valued-Conditional}
use Rattle.design_form.proofs.KeptWords.{append_kept, bits_kept, constant_kept, extended_kept, before_kept, between_kept, select_kept, copies_kept, part_kept, picked_kept}

module _ (R : Tern → Tern → Type 0) (k : IsKept R) where
  -- the same shape, and words that keep the relation
  pub record Kept (a b : Valued) : Type 0 where
    pub shape : a.shape ≡ b.shape
    pub word : (c : Shape) → AllZip R (a.word c) (b.word c)

  -- the same range and sign, and words that keep the relation
  pub record SeenKept (v w : Seen) : Type 0 where
    pub range : v.range ≡ w.range
    pub signed : v.signed ≡ w.signed
    pub word : AllZip R v.word w.word

  alone_kept : (a b : Valued) → Kept a b → AllZip R (a.word a.shape) (b.word b.shape)
  alone_kept a b h = subst (λ s. AllZip R (a.word a.shape) (b.word s)) h.shape (h.word a.shape)

  fixed_kept : (s t : Shape) (x y : List Tern) → s ≡ t → AllZip R x y → Kept (fixed s x) (fixed t y)
  fixed_kept s t x y e h = record { shape = e; word = λ c. extended_kept R k c x y h }

  named_kept : (v w : Seen) → SeenKept v w → Kept (named v) (named w)
  named_kept v w h =
      let wide : length v.word ≡ length w.word = length_all_zip R v.word w.word h.word in
      let sign = h.signed in
      let same : (named v).shape ≡ (named w).shape = cc in
      fixed_kept _ _ v.word w.word same h.word

  picks_kept : (how : Part) (n : ℕ) (v w : Seen) (a b : Valued) → SeenKept v w → Kept a b → AllZip R (picked how v n a.shape (a.word a.shape)) (picked how w n b.shape (b.word b.shape))
  picks_kept how n v w a b hv h =
      subst (λ (s : Shape). AllZip R (picked how v n a.shape (a.word a.shape)) (picked how w n s (b.word s))) h.shape
      (subst (λ (r : Bounds). AllZip R (picked how v n a.shape (a.word a.shape)) (picked how (record { range = r; signed = w.signed; word = w.word }) n a.shape (b.word a.shape))) hv.range
      (picked_kept R k how v.range n a.shape v.word w.word (a.word a.shape) (b.word a.shape) hv.word (h.word a.shape)))

  parts_kept : (v w : Seen) (i j : Expr) → SeenKept v w → AllZip R (part v (number_alone i) (number_alone j)) (part w (number_alone i) (number_alone j))
  parts_kept v w i j h =
      subst (λ (r : Bounds). AllZip R (part v (number_alone i) (number_alone j)) (part_from r w.word (number_alone j) 0 (part_width r (number_alone i) (number_alone j)))) h.range
      (part_kept R k v.range v.word w.word (number_alone j) 0 (part_width v.range (number_alone i) (number_alone j)) h.word)

  index_kept : (v w : Seen) (a b : Valued) → SeenKept v w → Kept a b → Kept (index_valued v a) (index_valued w b)
  index_kept v w a b hv h = fixed_kept _ _ _ _ refl (picks_kept Down 1 v w a b hv h)

  width_kept : (v w : Seen) (how : Part) (i j : Expr) → SeenKept v w → select_width v how i j ≡ select_width w how i j
  unfolding select_width
  width_kept v w Fixed i j h = ap (λ (r : Bounds). part_width r (number_alone i) (number_alone j)) h.range
  width_kept v w Up i j h = refl
  width_kept v w Down i j h = refl

  selects_kept : (v w : Seen) (how : Part) (i j : Expr) (a b : Valued) → SeenKept v w → Kept a b → AllZip R (select_word v how i a j) (select_word w how i b j)
  unfolding select_word
  selects_kept v w Fixed i j a b hv h = parts_kept v w i j hv
  selects_kept v w Up i j a b hv h = picks_kept Up (count_alone j) v w a b hv h
  selects_kept v w Down i j a b hv h = picks_kept Down (count_alone j) v w a b hv h

  select_valued_kept : (v w : Seen) (how : Part) (i j : Expr) (a b : Valued) → SeenKept v w → Kept a b → Kept (select_valued v how i a j) (select_valued w how i b j)
  select_valued_kept v w how i j a b hv h =
      fixed_kept _ _ _ _ (ap (λ (n : ℕ). let s : Shape = record { width = n; signed = false } in s) (width_kept v w how i j hv)) (selects_kept v w how i j a b hv h)

  unary_kept : (op : Unary) (a b : Valued) → Kept a b → Kept (unary_valued op a) (unary_valued op b)
  unfolding unary_context
  unary_kept op a b h = record {
    shape = ap (unary_shape op) h.shape;
    word = λ c.
        subst (λ (s : Shape). AllZip R (before_in (operand_family op) op c (a.word (left_in (operand_family op) a.shape a.shape c))) (before_in (operand_family op) op c (b.word (left_in (operand_family op) s s c)))) h.shape
        (before_kept R k (operand_family op) op c _ _ (h.word (left_in (operand_family op) a.shape a.shape c)));
  }

  -- operands of the same shapes
  binary_same : (e : Expr) (op : Binary) (s t : Shape) (f f' g g' : Shape → List Tern) → ((c : Shape) → AllZip R (f c) (f' c)) → ((c : Shape) → AllZip R (g c) (g' c))
      → (c : Shape) → AllZip R (binary_word e op (record { shape = s; word = f }) (record { shape = t; word = g }) c) (binary_word e op (record { shape = s; word = f' }) (record { shape = t; word = g' }) c)
  unfolding binary_word left_context right_context
  binary_same e op s t f f' g g' hf hg c =
      let l = left_in (family_of op) s t c in
      let r = right_in (family_of op) s t c in
      elim (is_computed op) as (λ b. AllZip R (if b then constant_bits c.width (value_in no_values c e) else between_in (family_of op) op (common s t).signed c (f l) (g r)) (if b then constant_bits c.width (value_in no_values c e) else between_in (family_of op) op (common s t).signed c (f' l) (g' r))) [
        | true ↦ constant_kept R k c.width (value_in no_values c e)
        | false ↦ between_kept R k (family_of op) op (common s t).signed c (f l) (f' l) (g r) (g' r) (hf l) (hg r)
      ]

  binary_kept : (e : Expr) (op : Binary) (a a' b b' : Valued) → Kept a a' → Kept b b' → Kept (binary_valued e op a b) (binary_valued e op a' b')
  binary_kept e op a a' b b' h i = record {
    shape = ap (λ (s : Shape). binary_shape op s b.shape) h.shape ∙ ap (λ (t : Shape). binary_shape op a'.shape t) i.shape;
    word = λ c.
        subst (λ (s : Shape). AllZip R (binary_word e op a b c) (binary_word e op (record { shape = s; word = a'.word }) b' c)) h.shape
        (subst (λ (t : Shape). AllZip R (binary_word e op a b c) (binary_word e op (record { shape = a.shape; word = a'.word }) (record { shape = t; word = b'.word }) c)) i.shape
        (binary_same e op a.shape b.shape a.word a'.word b.word b'.word h.word i.word c));
  }

  choice_kept : (t t' a a' b b' : Valued) → Kept t t' → Kept a a' → Kept b b' → Kept (choice_valued t a b) (choice_valued t' a' b')
  choice_kept t t' a a' b b' ht h i = record {
    shape = ap (λ (s : Shape). choice_shape s b.shape) h.shape ∙ ap (λ (s : Shape). choice_shape a'.shape s) i.shape;
    word = λ c. select_kept R k _ _ (a.word c) (a'.word c) (b.word c) (b'.word c) (any_kept R k _ _ (alone_kept t t' ht)) (h.word c) (i.word c);
  }

  -- members one by one
  pub data AllKept : List Valued → List Valued → Type 0 where
    none : AllKept [] []
    more : (a b : Valued) (xs ys : List Valued) → Kept a b → AllKept xs ys → AllKept (a ∷ xs) (b ∷ ys)

  joined_kept : (xs ys : List Valued) → AllKept xs ys → AllZip R (joined xs) (joined ys) × (joined_width xs ≡ joined_width ys)
  unfolding joined joined_width
  joined_kept _ _ none = (tt, refl)
  joined_kept _ _ (more a b xs ys h hs) =
      let rest = joined_kept xs ys hs in
      let e = rest.1 in
      let f = h.shape in
      (append_kept R k (joined xs) (joined ys) _ _ rest.0 (alone_kept a b h), cc)

  concat_kept : (xs ys : List Valued) → AllKept xs ys → Kept (concat_valued xs) (concat_valued ys)
  concat_kept xs ys h =
      let both = joined_kept xs ys h in
      fixed_kept _ _ _ _ (ap (λ (n : ℕ). let s : Shape = record { width = n; signed = false } in s) both.1) both.0

  repeat_kept : (n : ℕ) (xs ys : List Valued) → AllKept xs ys → Kept (repeat_valued n xs) (repeat_valued n ys)
  repeat_kept n xs ys h =
      let both = joined_kept xs ys h in
      let e = both.1 in
      let same : (repeat_valued n xs).shape ≡ (repeat_valued n ys).shape = cc in
      fixed_kept _ _ _ _ same (copies_kept R k n (joined xs) (joined ys) both.0)

  module _ (names names' : List ℕ → Seen) (seen : (name : List ℕ) → SeenKept (names name) (names' name)) where
    abbrev IsSo : Expr → Type 0
    IsSo e = Kept (valued names e) (valued names' e)

    members_kept : (es : List ((e : Expr) × IsSo e)) → AllKept (map (valued names) (map (λ p. p.0) es)) (map (valued names') (map (λ p. p.0) es))
    members_kept [] = none
    members_kept (e ∷ es) = more _ _ _ _ e.1 (members_kept es)

    -- from the two equations of a form
    by_form : (e e' : Expr) (v w : Valued) → e ≡ e' → valued names e' ≡ v → valued names' e' ≡ w → Kept v w → IsSo e
    by_form e e' v w rolls left right h =
        subst IsSo (sym rolls) (subst (λ x. Kept x (valued names' e')) (sym left) (subst (λ y. Kept v y) (sym right) h))

    by_parts : (y : Expr-F ((e : Expr) × IsSo e)) → IsSo (roll-Expr (map-Expr ((e : Expr) × IsSo e) Expr (λ p. p.0) y))
    by_parts (Expr-F.Number place n) = by_form _ _ _ _ (rolls-Number place n) (valued-Number names place n) (valued-Number names' place n) (fixed_kept _ _ _ _ refl (bits_kept R k n.width n.bits))
    by_parts (Expr-F.Name place name) = by_form _ _ _ _ (rolls-Name place name) (valued-Name names place name) (valued-Name names' place name) (named_kept _ _ (seen name))
    by_parts (Expr-F.Index place name i) = by_form _ _ _ _ (rolls-Index place name i.0) (valued-Index names place name i.0) (valued-Index names' place name i.0) (index_kept _ _ _ _ (seen name) i.1)
    by_parts (Expr-F.Select how place name i j) = by_form _ _ _ _ (rolls-Select how place name i.0 j.0) (valued-Select names place name how i.0 j.0) (valued-Select names' place name how i.0 j.0) (select_valued_kept _ _ how i.0 j.0 _ _ (seen name) i.1)
    by_parts (Expr-F.Brackets place a) = by_form _ _ _ _ (rolls-Brackets place a.0) (valued-Brackets names place a.0) (valued-Brackets names' place a.0) a.1
    by_parts (Expr-F.Concat place es) = by_form _ _ _ _ (rolls-Concat place (map (λ p. p.0) es)) (valued-Concat names place (map (λ p. p.0) es)) (valued-Concat names' place (map (λ p. p.0) es)) (concat_kept _ _ (members_kept es))
    by_parts (Expr-F.Repeat place n es) = by_form _ _ _ _ (rolls-Repeat place n.0 (map (λ p. p.0) es)) (valued-Repeat names place n.0 (map (λ p. p.0) es)) (valued-Repeat names' place n.0 (map (λ p. p.0) es)) (repeat_kept (count_alone n.0) _ _ (members_kept es))
    by_parts (Expr-F.Unary place op a) = by_form _ _ _ _ (rolls-Unary place op a.0) (valued-Unary names place op a.0) (valued-Unary names' place op a.0) (unary_kept op _ _ a.1)
    by_parts (Expr-F.Binary place op a b) = by_form _ _ _ _ (rolls-Binary place op a.0 b.0) (valued-Binary names place op a.0 b.0) (valued-Binary names' place op a.0 b.0) (binary_kept _ op _ _ _ _ a.1 b.1)
    by_parts (Expr-F.Conditional place t a b) = by_form _ _ _ _ (rolls-Conditional place t.0 a.0 b.0) (valued-Conditional names place t.0 a.0 b.0) (valued-Conditional names' place t.0 a.0 b.0) (choice_kept _ _ _ _ _ _ t.1 a.1 b.1)

    pub values_kept : (e : Expr) → Kept (valued names e) (valued names' e)
    values_kept e = ind-Expr IsSo (λ x y is. subst (λ z. IsSo (roll-Expr z)) is (by_parts y)) e

    pub alone_values_kept : (e : Expr) → AllZip R ((valued names e).word (valued names e).shape) ((valued names' e).word (valued names' e).shape)
    alone_values_kept e = alone_kept _ _ (values_kept e)
