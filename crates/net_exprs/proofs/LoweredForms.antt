-- Serves specs/Lowered.antt: which gates each form of expression is.
use Rattle.std.proofs.Common.{◌≡◌, ℕ, List, [], ◌∷◌, map, refl, sym, ap, subst, ◌∙◌}
use Rattle.rdc_outside.specs.declared.source.Place.{Place}
use Rattle.vlog_tree.specs.declared.expr.Expr.{Expr, para-roll-Expr, ind-Expr, map-Expr, roll-Expr}
use Rattle.vlog_tree.specs.declared.expr.Expr.TheOpen.{Expr-F}
use Rattle.vlog_tree.specs.declared.expr.Expr.TheVariants.{Number, Name, Index, Select, Brackets, Concat, Repeat, Unary, Binary, Conditional, rolls-Number, rolls-Name, rolls-Index, rolls-Select, rolls-Brackets, rolls-Concat, rolls-Repeat, rolls-Unary, rolls-Binary, rolls-Conditional}
use Rattle.vlog_tree.specs.declared.expr.Part.{Part}
use Rattle.vlog_tree.specs.declared.number.Number as n
use Rattle.vlog_tree.specs.declared.operator.Unary as u
use Rattle.vlog_tree.specs.declared.operator.Binary as b
use Rattle.design_form.specs.Bits.{bits}
use Rattle.design_form.specs.Values.{count_alone}
use Rattle.design_form.proofs.ValueLemmas.{firsts}
use Rattle.net_exprs.specs.Wired.{Wired}
use Rattle.net_exprs.specs.Constants.{constants}
use Rattle.net_exprs.specs.Lowered.{Formed, Lowered, lowered, lowered_by_parts, by_value, fixed, named, index_formed, select_formed, brackets_formed, concat_formed, repeat_formed, unary_formed, binary_formed, choice_formed}

wholes : {A : Type 0} (f : Expr → A) (xs : List Expr) → map (λ p. p.0) (map (λ x. let q : Expr × A = (x, f x) in q) xs) ≡ xs
wholes f [] = refl
wholes {A} f (x ∷ xs) = ap (λ (ys : List Expr). x ∷ ys) (wholes f xs)

pub lowered-Number : (names : List ℕ → Wired) (place : Place) (x : n.Number) → lowered names (Number place x) ≡ by_value (Number place x) (fixed (record { width = x.width; signed = x.signed }) (constants (bits x.width x.bits)))
unfolding lowered lowered_by_parts
lowered-Number names place x = ap (lowered names) (sym (rolls-Number place x)) ∙ para-roll-Expr Lowered (lowered_by_parts names) (Expr-F.Number place x)

pub lowered-Name : (names : List ℕ → Wired) (place : Place) (name : List ℕ) → lowered names (Name place name) ≡ by_value (Name place name) (named (names name))
unfolding lowered lowered_by_parts
lowered-Name names place name = ap (lowered names) (sym (rolls-Name place name)) ∙ para-roll-Expr Lowered (lowered_by_parts names) (Expr-F.Name place name)

pub lowered-Index : (names : List ℕ → Wired) (place : Place) (name : List ℕ) (i : Expr) → lowered names (Index place name i) ≡ by_value (Index place name i) (index_formed (names name) (lowered names i))
unfolding lowered lowered_by_parts
lowered-Index names place name i = ap (lowered names) (sym (rolls-Index place name i)) ∙ para-roll-Expr Lowered (lowered_by_parts names) (Expr-F.Index place name i)

pub lowered-Select : (names : List ℕ → Wired) (place : Place) (name : List ℕ) (how : Part) (i j : Expr)
    → lowered names (Select how place name i j) ≡ by_value (Select how place name i j) (select_formed (names name) how i (lowered names i) j)
unfolding lowered lowered_by_parts
lowered-Select names place name how i j = ap (lowered names) (sym (rolls-Select how place name i j)) ∙ para-roll-Expr Lowered (lowered_by_parts names) (Expr-F.Select how place name i j)

pub lowered-Brackets : (names : List ℕ → Wired) (place : Place) (a : Expr) → lowered names (Brackets place a) ≡ by_value (Brackets place a) (brackets_formed (lowered names a))
unfolding lowered lowered_by_parts
lowered-Brackets names place a = ap (lowered names) (sym (rolls-Brackets place a)) ∙ para-roll-Expr Lowered (lowered_by_parts names) (Expr-F.Brackets place a)

pub lowered-Concat : (names : List ℕ → Wired) (place : Place) (es : List Expr) → lowered names (Concat place es) ≡ by_value (Concat place es) (concat_formed (map (lowered names) es))
unfolding lowered lowered_by_parts
lowered-Concat names place es =
    ap (lowered names) (sym (rolls-Concat place es)) ∙ para-roll-Expr Lowered (lowered_by_parts names) (Expr-F.Concat place es)
    ∙ ap (λ (ys : List Lowered). by_value (Concat place (map (λ p. p.0) (map (λ x. let q : Expr × Lowered = (x, lowered names x) in q) es))) (concat_formed ys)) (firsts (lowered names) es)
    ∙ ap (λ (ys : List Expr). by_value (Concat place ys) (concat_formed (map (lowered names) es))) (wholes (lowered names) es)

pub lowered-Repeat : (names : List ℕ → Wired) (place : Place) (k : Expr) (es : List Expr) → lowered names (Repeat place k es) ≡ by_value (Repeat place k es) (repeat_formed (count_alone k) (map (lowered names) es))
unfolding lowered lowered_by_parts
lowered-Repeat names place k es =
    ap (lowered names) (sym (rolls-Repeat place k es)) ∙ para-roll-Expr Lowered (lowered_by_parts names) (Expr-F.Repeat place k es)
    ∙ ap (λ (ys : List Lowered). by_value (Repeat place k (map (λ p. p.0) (map (λ x. let q : Expr × Lowered = (x, lowered names x) in q) es))) (repeat_formed (count_alone k) ys)) (firsts (lowered names) es)
    ∙ ap (λ (ys : List Expr). by_value (Repeat place k ys) (repeat_formed (count_alone k) (map (lowered names) es))) (wholes (lowered names) es)

pub lowered-Unary : (names : List ℕ → Wired) (place : Place) (op : u.Unary) (a : Expr) → lowered names (Unary place op a) ≡ by_value (Unary place op a) (unary_formed op (lowered names a))
unfolding lowered lowered_by_parts
lowered-Unary names place op a = ap (lowered names) (sym (rolls-Unary place op a)) ∙ para-roll-Expr Lowered (lowered_by_parts names) (Expr-F.Unary place op a)

pub lowered-Binary : (names : List ℕ → Wired) (place : Place) (op : b.Binary) (x y : Expr)
    → lowered names (Binary place op x y) ≡ by_value (Binary place op x y) (binary_formed (Binary place op x y) op (lowered names x) (lowered names y))
unfolding lowered lowered_by_parts
lowered-Binary names place op x y = ap (lowered names) (sym (rolls-Binary place op x y)) ∙ para-roll-Expr Lowered (lowered_by_parts names) (Expr-F.Binary place op x y)

pub lowered-Conditional : (names : List ℕ → Wired) (place : Place) (test x y : Expr)
    → lowered names (Conditional place test x y) ≡ by_value (Conditional place test x y) (choice_formed (lowered names test) (lowered names x) (lowered names y))
unfolding lowered lowered_by_parts
lowered-Conditional names place test x y = ap (lowered names) (sym (rolls-Conditional place test x y)) ∙ para-roll-Expr Lowered (lowered_by_parts names) (Expr-F.Conditional place test x y)

-- an expression is its value, or what its form is
abbrev pub IsByValue : (List ℕ → Wired) → Expr → Type 0
IsByValue names e = lowered names e ≡ by_value e (lowered names e).formed

by_form : (names : List ℕ → Wired) (e e' : Expr) (a : Formed) → e ≡ e' → lowered names e' ≡ by_value e' a → IsByValue names e
by_form names e e' a is form = subst (IsByValue names) (sym is) (form ∙ ap (λ (z : Lowered). by_value e' z.formed) (sym form))

by_parts : (names : List ℕ → Wired) (y : Expr-F ((e : Expr) × IsByValue names e)) → IsByValue names (roll-Expr (map-Expr ((e : Expr) × IsByValue names e) Expr (λ p. p.0) y))
by_parts names (Expr-F.Number place x) = by_form names _ _ _ (rolls-Number place x) (lowered-Number names place x)
by_parts names (Expr-F.Name place name) = by_form names _ _ _ (rolls-Name place name) (lowered-Name names place name)
by_parts names (Expr-F.Index place name i) = by_form names _ _ _ (rolls-Index place name i.0) (lowered-Index names place name i.0)
by_parts names (Expr-F.Select how place name i j) = by_form names _ _ _ (rolls-Select how place name i.0 j.0) (lowered-Select names place name how i.0 j.0)
by_parts names (Expr-F.Brackets place a) = by_form names _ _ _ (rolls-Brackets place a.0) (lowered-Brackets names place a.0)
by_parts names (Expr-F.Concat place es) = by_form names _ _ _ (rolls-Concat place (map (λ p. p.0) es)) (lowered-Concat names place (map (λ p. p.0) es))
by_parts names (Expr-F.Repeat place k es) = by_form names _ _ _ (rolls-Repeat place k.0 (map (λ p. p.0) es)) (lowered-Repeat names place k.0 (map (λ p. p.0) es))
by_parts names (Expr-F.Unary place op a) = by_form names _ _ _ (rolls-Unary place op a.0) (lowered-Unary names place op a.0)
by_parts names (Expr-F.Binary place op x y) = by_form names _ _ _ (rolls-Binary place op x.0 y.0) (lowered-Binary names place op x.0 y.0)
by_parts names (Expr-F.Conditional place t x y) = by_form names _ _ _ (rolls-Conditional place t.0 x.0 y.0) (lowered-Conditional names place t.0 x.0 y.0)

pub is_by_value : (names : List ℕ → Wired) (e : Expr) → IsByValue names e
is_by_value names e = ind-Expr (IsByValue names) (λ x y is. subst (λ z. IsByValue names (roll-Expr z)) is (by_parts names y)) e
