-- What an expression of the first form weighs: each of its steps at least one, where it stands in a context of a bit or more.
use Rattle.std.proofs.Common.{◌≡◌, ℕ, ◌+◌, ◌*◌, ◌≤◌, max, Bool, true, false, not, ◌||◌, List, [], ◌∷◌, ◌++◌, length, map, sum_by, Option, Some, None, refl, sym, ap, subst, ◌∙◌, length-append, arith}
use Rattle.std.proofs.lemmas.List.Sums.{sum_by-cons, sum_by-append}
use Rattle.std.specs.Option.{option_map}
use Rattle.rdc_outside.specs.declared.source.Place.{Place}
use Rattle.vlog_tree.specs.declared.expr.Expr.{Expr, ind-Expr, map-Expr, roll-Expr}
use Rattle.vlog_tree.specs.declared.expr.Expr.TheOpen.{Expr-F}
use Rattle.vlog_tree.specs.declared.expr.Expr.TheVariants.{Name, Brackets, Unary, Binary, rolls-Number, rolls-Name, rolls-Index, rolls-Select, rolls-Brackets, rolls-Concat, rolls-Repeat, rolls-Unary, rolls-Binary, rolls-Conditional}
use Rattle.vlog_tree.specs.declared.operator.Unary as unaries
use Rattle.vlog_tree.specs.declared.operator.Unary.TheVariants as unary
use Rattle.vlog_tree.specs.declared.operator.Binary as binaries
use Rattle.vlog_tree.specs.declared.operator.Binary.TheVariants as binary
use Rattle.vlog_const.specs.declared.shape.Shape.{Shape}
use Rattle.vlog_const.specs.Widths.{unary_context, left_context, right_context, operand_family, family_of}
use Rattle.design_form.specs.declared.parts.Parts.{Parts}
use Rattle.design_sizes.specs.Sizes.{Sized, has_name, shape_of, sized, below}
use Rattle.elab_weight.specs.PartWeights.{unary_weight, binary_weight, form_weight, operator_weight, part_weight, parts_weight}
use Rattle.flat_laws.proofs.Forms.{named-Name, named-Brackets, named-Unary, named-Binary, sized-form, below-Name, below-Brackets, below-Unary, below-Binary, weight-Name, weight-Brackets, weight-Unary, weight-Binary}
use Rattle.thin_tree.specs.Tree as tree
use Rattle.thin_tree.specs.Postfix.{postfix, brackets, negation, both, either}
use Rattle.thin_tree.specs.Form.{and_then, inverted, joined, said}
use Rattle.flat_laws.proofs.Saying.{said-Number, said-Name, said-Index, said-Select, said-Brackets, said-Concat, said-Repeat, said-Unary, said-Binary, said-Conditional}

-- an expression with a name in it: its own part, and those below it
weighed : (d : Parts) (c : Shape) (x : Expr) → has_name x ≡ true → parts_weight d (sized d c false x) ≡ operator_weight d c.width x + parts_weight d (below d x c false)
unfolding part_weight
weighed d c x named =
    ap (parts_weight d) (sized-form d c false x)
    ∙ sum_by-cons (part_weight d) (record { expr = x; shape = c; constant = false || not (has_name x); inside = false }) (below d x c (false || not (has_name x)))
    ∙ ap (λ (b : Bool). part_weight d (record { expr = x; shape = c; constant = false || not b; inside = false }) + parts_weight d (below d x c (false || not b))) named

-- each step weighs one at least
pub record IsWeighed (x : Expr) (e : tree.Expr) : Type 0 where
  pub named : has_name x ≡ true
  pub heavy : (d : Parts) (c : Shape) → 1 ≤ c.width → length (postfix e) ≤ parts_weight d (sized d c false x)

abbrev pub IsSo : Expr → Type 0
IsSo x = (e : tree.Expr) → said x ≡ Some e → IsWeighed x e

abbrev So : Type 0
So = (x : Expr) × IsSo x

none_said : (x : Expr) → said x ≡ None → IsSo x
none_said x none e is = let bad : None ≡ Some e = sym none ∙ is in absurd cc

-- what was mapped
pub record Mapped {A B : Type 0} (f : A → B) (o : Option A) (b : B) : Type 0 where
  pub value : A
  pub there : o ≡ Some value
  pub is : f value ≡ b

mapped : {A B : Type 0} (f : A → B) (o : Option A) (b : B) → option_map f o ≡ Some b → Mapped f o b
mapped f None b h = absurd cc
mapped f (Some a) b h = record { value = a; there = refl; is = cc }

of_name : (place : Place) (name : List ℕ) → IsSo (Name place name)
of_name place name e is =
    let same : Some (tree.Name name) ≡ Some e = sym (said-Name place name) ∙ is in
    let is_e : tree.Name name ≡ e = cc in
    subst (IsWeighed (Name place name)) is_e (record {
      named = named-Name place name;
      heavy = λ d c wide. omega (arith, wide, weighed d c (Name place name) (named-Name place name), weight-Name d (shape_of d (Name place name)).width c.width place name);
    })

of_brackets : (place : Place) (m : So) → IsSo (Brackets place m.0)
of_brackets place m e is =
    let i = mapped tree.Brackets (said m.0) e (sym (said-Brackets place m.0) ∙ is) in
    let inner = m.1 i.value i.there in
    let named = named-Brackets place m.0 ∙ inner.named in
    subst (IsWeighed (Brackets place m.0)) i.is (record {
      named = named;
      heavy = λ d c wide. omega (
        arith,
        wide,
        weighed d c (Brackets place m.0) named,
        weight-Brackets d (shape_of d (Brackets place m.0)).width c.width place m.0,
        ap (parts_weight d) (below-Brackets d place m.0 c false),
        inner.heavy d c wide,
        length-append (postfix i.value) (brackets ∷ []),
      );
    })

in_context : (a c : Shape) → unary_context unary.Invert a c ≡ c
unfolding unary_context operand_family
in_context a c = refl

invert_weighs : (w : ℕ) → unary_weight unary.Invert w ≡ w
unfolding unary_weight
invert_weighs w = refl

of_invert : (place : Place) (m : So) → IsSo (Unary place unary.Invert m.0)
unfolding inverted
of_invert place m e is =
    let i = mapped tree.Not (said m.0) e (sym (said-Unary place unary.Invert m.0) ∙ is) in
    let inner = m.1 i.value i.there in
    let named = named-Unary place unary.Invert m.0 ∙ inner.named in
    subst (IsWeighed (Unary place unary.Invert m.0)) i.is (record {
      named = named;
      heavy = λ d c wide.
          let under = ap (parts_weight d) (below-Unary d place unary.Invert m.0 c false) ∙ ap (λ (s : Shape). parts_weight d (sized d s false m.0)) (in_context (shape_of d m.0) c) in
          omega (
            arith,
            wide,
            weighed d c (Unary place unary.Invert m.0) named,
            weight-Unary d (shape_of d (Unary place unary.Invert m.0)).width c.width place unary.Invert m.0,
            invert_weighs c.width,
            under,
            inner.heavy d c wide,
            length-append (postfix i.value) (negation ∷ []),
          );
    })

-- an operator that is said has its operands said, stands over them in its context, and weighs it
pub record Joins (op : binaries.Binary) (a b : Option tree.Expr) (e : tree.Expr) : Type 0 where
  pub left : tree.Expr
  pub right : tree.Expr
  pub left_there : a ≡ Some left
  pub right_there : b ≡ Some right
  pub steps : length (postfix e) ≡ length (postfix left) + length (postfix right) + 1
  pub over : (s t c : Shape) → (left_context op s t c ≡ c) × (right_context op s t c ≡ c)
  pub weighs : (w n : ℕ) → binary_weight op w n ≡ w

joins : (op : binaries.Binary) (a b : Option tree.Expr) (e : tree.Expr) → joined op a b ≡ Some e → Joins op a b e
unfolding joined and_then left_context right_context family_of binary_weight
joins binary.And (Some x) (Some y) e h =
    let same : tree.And x y ≡ e = cc in
    subst (Joins binary.And (Some x) (Some y)) same (record { left = x; right = y; left_there = refl; right_there = refl; steps = omega (arith, length-append (postfix x) (postfix y ++ both ∷ []), length-append (postfix y) (both ∷ [])); over = λ s t c. (refl, refl); weighs = λ w n. refl })
joins binary.Or (Some x) (Some y) e h =
    let same : tree.Or x y ≡ e = cc in
    subst (Joins binary.Or (Some x) (Some y)) same (record { left = x; right = y; left_there = refl; right_there = refl; steps = omega (arith, length-append (postfix x) (postfix y ++ either ∷ []), length-append (postfix y) (either ∷ [])); over = λ s t c. (refl, refl); weighs = λ w n. refl })
joins binary.And None b e h = absurd cc
joins binary.And (Some x) None e h = absurd cc
joins binary.Or None b e h = absurd cc
joins binary.Or (Some x) None e h = absurd cc
joins binary.Multiply a b e h = absurd cc
joins binary.Divide a b e h = absurd cc
joins binary.Remainder a b e h = absurd cc
joins binary.Add a b e h = absurd cc
joins binary.Subtract a b e h = absurd cc
joins binary.Xor a b e h = absurd cc
joins binary.Xnor a b e h = absurd cc
joins binary.Less a b e h = absurd cc
joins binary.AtMost a b e h = absurd cc
joins binary.Greater a b e h = absurd cc
joins binary.AtLeast a b e h = absurd cc
joins binary.Equal a b e h = absurd cc
joins binary.NotEqual a b e h = absurd cc
joins binary.CaseEqual a b e h = absurd cc
joins binary.CaseNotEqual a b e h = absurd cc
joins binary.LogicalAnd a b e h = absurd cc
joins binary.LogicalOr a b e h = absurd cc
joins binary.Power a b e h = absurd cc
joins binary.ShiftLeft a b e h = absurd cc
joins binary.ShiftRight a b e h = absurd cc
joins binary.ArithmeticShiftLeft a b e h = absurd cc
joins binary.ArithmeticShiftRight a b e h = absurd cc

of_binary : (place : Place) (op : binaries.Binary) (l r : So) → IsSo (Binary place op l.0 r.0)
of_binary place op l r e is =
    let j = joins op (said l.0) (said r.0) e (sym (said-Binary place op l.0 r.0) ∙ is) in
    let left = l.1 j.left j.left_there in
    let right = r.1 j.right j.right_there in
    let named : has_name (Binary place op l.0 r.0) ≡ true = named-Binary place op l.0 r.0 ∙ ap (λ (b : Bool). b || has_name r.0) left.named in
    record {
      named = named;
      heavy = λ d c wide.
          let over = j.over (shape_of d l.0) (shape_of d r.0) c in
          let under = ap (parts_weight d) (below-Binary d place op l.0 r.0 c false)
          ∙ sum_by-append (part_weight d) (sized d (left_context op (shape_of d l.0) (shape_of d r.0) c) false l.0) (sized d (right_context op (shape_of d l.0) (shape_of d r.0) c) false r.0)
          ∙ ap (λ (s : Shape). parts_weight d (sized d s false l.0) + parts_weight d (sized d (right_context op (shape_of d l.0) (shape_of d r.0) c) false r.0)) over.0
          ∙ ap (λ (s : Shape). parts_weight d (sized d c false l.0) + parts_weight d (sized d s false r.0)) over.1 in
          omega (
            arith,
            wide,
            weighed d c (Binary place op l.0 r.0) named,
            weight-Binary d (shape_of d (Binary place op l.0 r.0)).width c.width place op l.0 r.0,
            j.weighs c.width (shape_of d r.0).width,
            under,
            left.heavy d c wide,
            right.heavy d c wide,
            j.steps,
          );
    }

none_inverted : (op : unaries.Unary) → (op ≡ unary.Invert → ⊥) → (o : Option tree.Expr) → inverted op o ≡ None
unfolding inverted
none_inverted unary.Invert other o = absurd (other refl)
none_inverted unary.Plus other o = refl
none_inverted unary.Minus other o = refl
none_inverted unary.Not other o = refl
none_inverted unary.ReduceAnd other o = refl
none_inverted unary.ReduceNand other o = refl
none_inverted unary.ReduceOr other o = refl
none_inverted unary.ReduceNor other o = refl
none_inverted unary.ReduceXor other o = refl
none_inverted unary.ReduceXnor other o = refl

of_unary : (place : Place) (op : unaries.Unary) (m : So) → IsSo (Unary place op m.0)
of_unary place unary.Invert m = of_invert place m
of_unary place unary.Plus m = none_said (Unary place unary.Plus m.0) (said-Unary place unary.Plus m.0 ∙ none_inverted unary.Plus (λ e. absurd cc) (said m.0))
of_unary place unary.Minus m = none_said (Unary place unary.Minus m.0) (said-Unary place unary.Minus m.0 ∙ none_inverted unary.Minus (λ e. absurd cc) (said m.0))
of_unary place unary.Not m = none_said (Unary place unary.Not m.0) (said-Unary place unary.Not m.0 ∙ none_inverted unary.Not (λ e. absurd cc) (said m.0))
of_unary place unary.ReduceAnd m = none_said (Unary place unary.ReduceAnd m.0) (said-Unary place unary.ReduceAnd m.0 ∙ none_inverted unary.ReduceAnd (λ e. absurd cc) (said m.0))
of_unary place unary.ReduceNand m = none_said (Unary place unary.ReduceNand m.0) (said-Unary place unary.ReduceNand m.0 ∙ none_inverted unary.ReduceNand (λ e. absurd cc) (said m.0))
of_unary place unary.ReduceOr m = none_said (Unary place unary.ReduceOr m.0) (said-Unary place unary.ReduceOr m.0 ∙ none_inverted unary.ReduceOr (λ e. absurd cc) (said m.0))
of_unary place unary.ReduceNor m = none_said (Unary place unary.ReduceNor m.0) (said-Unary place unary.ReduceNor m.0 ∙ none_inverted unary.ReduceNor (λ e. absurd cc) (said m.0))
of_unary place unary.ReduceXor m = none_said (Unary place unary.ReduceXor m.0) (said-Unary place unary.ReduceXor m.0 ∙ none_inverted unary.ReduceXor (λ e. absurd cc) (said m.0))
of_unary place unary.ReduceXnor m = none_said (Unary place unary.ReduceXnor m.0) (said-Unary place unary.ReduceXnor m.0 ∙ none_inverted unary.ReduceXnor (λ e. absurd cc) (said m.0))

by_parts : (y : Expr-F So) → IsSo (roll-Expr (map-Expr So Expr (λ p. p.0) y))
by_parts (Expr-F.Number place n) = subst IsSo (sym (rolls-Number place n)) (none_said _ (said-Number place n))
by_parts (Expr-F.Name place name) = subst IsSo (sym (rolls-Name place name)) (of_name place name)
by_parts (Expr-F.Index place name i) = subst IsSo (sym (rolls-Index place name i.0)) (none_said _ (said-Index place name i.0))
by_parts (Expr-F.Select how place name i j) = subst IsSo (sym (rolls-Select how place name i.0 j.0)) (none_said _ (said-Select place name how i.0 j.0))
by_parts (Expr-F.Brackets place m) = subst IsSo (sym (rolls-Brackets place m.0)) (of_brackets place m)
by_parts (Expr-F.Concat place es) = subst IsSo (sym (rolls-Concat place (map (λ p. p.0) es))) (none_said _ (said-Concat place (map (λ p. p.0) es)))
by_parts (Expr-F.Repeat place k es) = subst IsSo (sym (rolls-Repeat place k.0 (map (λ p. p.0) es))) (none_said _ (said-Repeat place k.0 (map (λ p. p.0) es)))
by_parts (Expr-F.Unary place op m) = subst IsSo (sym (rolls-Unary place op m.0)) (of_unary place op m)
by_parts (Expr-F.Binary place op l r) = subst IsSo (sym (rolls-Binary place op l.0 r.0)) (of_binary place op l r)
by_parts (Expr-F.Conditional place t l r) = subst IsSo (sym (rolls-Conditional place t.0 l.0 r.0)) (none_said _ (said-Conditional place t.0 l.0 r.0))

-- what is said of an expression has no more steps than it weighs
pub each_weighed : (x : Expr) → IsSo x
each_weighed x = ind-Expr IsSo (λ y z is. subst (λ w. IsSo (roll-Expr w)) is (by_parts z)) x
