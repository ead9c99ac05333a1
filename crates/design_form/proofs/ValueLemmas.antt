-- What each form of expression is worth.
use Rattle.std.proofs.Common.{◌≡◌, ℕ, List, [], ◌∷◌, map, refl, sym, ap, ◌∙◌}
use Rattle.rdc_outside.specs.declared.source.Place.{Place}
use Rattle.vlog_tree.specs.declared.expr.Expr.{Expr, para-roll-Expr}
use Rattle.vlog_tree.specs.declared.expr.Expr.TheOpen.{Expr-F}
use Rattle.vlog_tree.specs.declared.expr.Expr.TheVariants.{Number, Name, Index, Select, Brackets, Concat, Repeat, Unary, Binary, Conditional, rolls-Number, rolls-Name, rolls-Index, rolls-Select, rolls-Brackets, rolls-Concat, rolls-Repeat, rolls-Unary, rolls-Binary, rolls-Conditional}
use Rattle.vlog_tree.specs.declared.expr.Part.{Part}
use Rattle.vlog_tree.specs.declared.number.Number as n
use Rattle.vlog_tree.specs.declared.operator.Unary as u
use Rattle.vlog_tree.specs.declared.operator.Binary as b
use Rattle.design_form.specs.Bits.{bits}
use Rattle.design_form.specs.Selects.{Seen}
use Rattle.design_form.specs.Values.{Valued, valued, valued_by_parts, fixed, named, index_valued, select_valued, concat_valued, repeat_valued, count_alone, unary_valued, binary_valued, choice_valued}

pub firsts : {A B : Type 0} (f : A → B) (xs : List A) → map (λ p. p.1) (map (λ x. let q : A × B = (x, f x) in q) xs) ≡ map f xs
firsts f [] = refl
firsts {A} {B} f (x ∷ xs) = ap (λ (ys : List B). f x ∷ ys) (firsts f xs)

pub valued-Number : (names : List ℕ → Seen) (place : Place) (x : n.Number) → valued names (Number place x) ≡ fixed (record { width = x.width; signed = x.signed }) (bits x.width x.bits)
unfolding valued valued_by_parts
valued-Number names place x = ap (valued names) (sym (rolls-Number place x)) ∙ para-roll-Expr Valued (valued_by_parts names) (Expr-F.Number place x)

pub valued-Name : (names : List ℕ → Seen) (place : Place) (name : List ℕ) → valued names (Name place name) ≡ named (names name)
unfolding valued valued_by_parts
valued-Name names place name = ap (valued names) (sym (rolls-Name place name)) ∙ para-roll-Expr Valued (valued_by_parts names) (Expr-F.Name place name)

pub valued-Index : (names : List ℕ → Seen) (place : Place) (name : List ℕ) (i : Expr) → valued names (Index place name i) ≡ index_valued (names name) (valued names i)
unfolding valued valued_by_parts
valued-Index names place name i = ap (valued names) (sym (rolls-Index place name i)) ∙ para-roll-Expr Valued (valued_by_parts names) (Expr-F.Index place name i)

pub valued-Select : (names : List ℕ → Seen) (place : Place) (name : List ℕ) (how : Part) (i j : Expr) → valued names (Select how place name i j) ≡ select_valued (names name) how i (valued names i) j
unfolding valued valued_by_parts
valued-Select names place name how i j = ap (valued names) (sym (rolls-Select how place name i j)) ∙ para-roll-Expr Valued (valued_by_parts names) (Expr-F.Select how place name i j)

pub valued-Brackets : (names : List ℕ → Seen) (place : Place) (a : Expr) → valued names (Brackets place a) ≡ valued names a
unfolding valued valued_by_parts
valued-Brackets names place a = ap (valued names) (sym (rolls-Brackets place a)) ∙ para-roll-Expr Valued (valued_by_parts names) (Expr-F.Brackets place a)

pub valued-Concat : (names : List ℕ → Seen) (place : Place) (es : List Expr) → valued names (Concat place es) ≡ concat_valued (map (valued names) es)
unfolding valued valued_by_parts
valued-Concat names place es = ap (valued names) (sym (rolls-Concat place es)) ∙ para-roll-Expr Valued (valued_by_parts names) (Expr-F.Concat place es) ∙ ap concat_valued (firsts (valued names) es)

pub valued-Repeat : (names : List ℕ → Seen) (place : Place) (k : Expr) (es : List Expr) → valued names (Repeat place k es) ≡ repeat_valued (count_alone k) (map (valued names) es)
unfolding valued valued_by_parts
valued-Repeat names place k es = ap (valued names) (sym (rolls-Repeat place k es)) ∙ para-roll-Expr Valued (valued_by_parts names) (Expr-F.Repeat place k es) ∙ ap (repeat_valued (count_alone k)) (firsts (valued names) es)

pub valued-Unary : (names : List ℕ → Seen) (place : Place) (op : u.Unary) (a : Expr) → valued names (Unary place op a) ≡ unary_valued op (valued names a)
unfolding valued valued_by_parts
valued-Unary names place op a = ap (valued names) (sym (rolls-Unary place op a)) ∙ para-roll-Expr Valued (valued_by_parts names) (Expr-F.Unary place op a)

pub valued-Binary : (names : List ℕ → Seen) (place : Place) (op : b.Binary) (x y : Expr) → valued names (Binary place op x y) ≡ binary_valued (Binary place op x y) op (valued names x) (valued names y)
unfolding valued valued_by_parts
valued-Binary names place op x y = ap (valued names) (sym (rolls-Binary place op x y)) ∙ para-roll-Expr Valued (valued_by_parts names) (Expr-F.Binary place op x y)

pub valued-Conditional : (names : List ℕ → Seen) (place : Place) (test x y : Expr) → valued names (Conditional place test x y) ≡ choice_valued (valued names test) (valued names x) (valued names y)
unfolding valued valued_by_parts
valued-Conditional names place test x y = ap (valued names) (sym (rolls-Conditional place test x y)) ∙ para-roll-Expr Valued (valued_by_parts names) (Expr-F.Conditional place test x y)

-- each form of expression, for tactics
pub ruleset forms = (valued-Number, valued-Name, valued-Index, valued-Select, valued-Brackets, valued-Concat, valued-Repeat, valued-Unary, valued-Binary, valued-Conditional)
