-- How each form of target is written.
use Rattle.std.proofs.Common.{◌≡◌, ℕ, List, [], map, sym, ap, ◌∙◌}
use Rattle.rdc_outside.specs.declared.source.Place.{Place}
use Rattle.vlog_tree.specs.declared.expr.Expr.{Expr, Expr-F, para-roll-Expr}
use Rattle.vlog_tree.specs.declared.expr.Expr.TheVariants as e
use Rattle.vlog_tree.specs.declared.expr.Part.{Part}
use Rattle.vlog_tree.specs.declared.expr.Part.TheVariants.{Down}
use Rattle.vlog_tree.specs.declared.number.Number.{Number}
use Rattle.vlog_tree.specs.declared.operator.Unary.{Unary}
use Rattle.vlog_tree.specs.declared.operator.Binary.{Binary}
use Rattle.design_form.specs.declared.parts.Parts.{Parts}
use Rattle.elab_bits.specs.Selects.{all_bits, constant}
use Rattle.net_words.specs.Builds.{return}
use Rattle.net_procs.specs.Targets.{Written, onto_all, onto_select, select_strokes, onto_members, strokes, strokes_by_parts}

-- as it is written
at : (d : Parts) (nodes : List ℕ) (w : List ℕ) (t u : Expr) (x : Expr-F (Expr × Written)) → t ≡ u → strokes d nodes u ≡ strokes_by_parts d nodes x → strokes_by_parts d nodes x w ≡ strokes d nodes t w
at d nodes w t u x is form = ap (λ (f : Written). f w) (sym form) ∙ ap (λ (y : Expr). strokes d nodes y w) (sym is)

pub form-Name : (d : Parts) (nodes w : List ℕ) (t : Expr) (place : Place) (name n : List ℕ) → t ≡ e.Name place name → n ≡ name → return (onto_all (all_bits d.signals n) w) ≡ strokes d nodes t w
unfolding strokes strokes_by_parts
form-Name d nodes w t place name n is called =
    ap (λ (m : List ℕ). return (onto_all (all_bits d.signals m) w)) called
    ∙ at d nodes w t (e.Name place name) (Expr-F.Name place name) is (ap (strokes d nodes) (sym (e.rolls-Name place name)) ∙ para-roll-Expr Written (strokes_by_parts d nodes) (Expr-F.Name place name))

pub form-Index : (d : Parts) (nodes w : List ℕ) (t : Expr) (place : Place) (name n : List ℕ) (i x : Expr) → t ≡ e.Index place name i → n ≡ name → x ≡ i → onto_select d nodes Down n (constant x) x 1 w ≡ strokes d nodes t w
unfolding strokes strokes_by_parts
form-Index d nodes w t place name n i x is called same =
    (λ k. onto_select d nodes Down (called k) (constant (same k)) (same k) 1 w)
    ∙ at d nodes w t (e.Index place name i) (Expr-F.Index place name (i, strokes d nodes i)) is
    (ap (strokes d nodes) (sym (e.rolls-Index place name i)) ∙ para-roll-Expr Written (strokes_by_parts d nodes) (Expr-F.Index place name i))

pub form-Select : (d : Parts) (nodes w : List ℕ) (t : Expr) (place : Place) (name n : List ℕ) (how part : Part) (i j x y : Expr) → t ≡ e.Select how place name i j → n ≡ name → part ≡ how → x ≡ i → y ≡ j
    → select_strokes d nodes part n x y w ≡ strokes d nodes t w
unfolding strokes strokes_by_parts
form-Select d nodes w t place name n how part i j x y is called written one other =
    (λ k. select_strokes d nodes (written k) (called k) (one k) (other k) w)
    ∙ at d nodes w t (e.Select how place name i j) (Expr-F.Select how place name (i, strokes d nodes i) (j, strokes d nodes j)) is
    (ap (strokes d nodes) (sym (e.rolls-Select how place name i j)) ∙ para-roll-Expr Written (strokes_by_parts d nodes) (Expr-F.Select how place name i j))

pub form-Concat : (d : Parts) (nodes w : List ℕ) (t : Expr) (place : Place) (es xs : List Expr) → t ≡ e.Concat place es → xs ≡ es → onto_members d (map (λ x. (x, strokes d nodes x)) xs) w ≡ strokes d nodes t w
unfolding strokes strokes_by_parts
form-Concat d nodes w t place es xs is same =
    ap (λ (l : List Expr). onto_members d (map (λ x. (x, strokes d nodes x)) l) w) same
    ∙ at d nodes w t (e.Concat place es) (Expr-F.Concat place (map (λ x. (x, strokes d nodes x)) es)) is
    (ap (strokes d nodes) (sym (e.rolls-Concat place es)) ∙ para-roll-Expr Written (strokes_by_parts d nodes) (Expr-F.Concat place es))

-- ---- what is no target is not written

pub none-Number : (d : Parts) (nodes w : List ℕ) (t : Expr) (place : Place) (n : Number) → t ≡ e.Number place n → return [] ≡ strokes d nodes t w
unfolding strokes strokes_by_parts
none-Number d nodes w t place n is =
    at d nodes w t (e.Number place n) (Expr-F.Number place n) is (ap (strokes d nodes) (sym (e.rolls-Number place n)) ∙ para-roll-Expr Written (strokes_by_parts d nodes) (Expr-F.Number place n))

pub none-Brackets : (d : Parts) (nodes w : List ℕ) (t : Expr) (place : Place) (a : Expr) → t ≡ e.Brackets place a → return [] ≡ strokes d nodes t w
unfolding strokes strokes_by_parts
none-Brackets d nodes w t place a is =
    at d nodes w t (e.Brackets place a) (Expr-F.Brackets place (a, strokes d nodes a)) is (ap (strokes d nodes) (sym (e.rolls-Brackets place a)) ∙ para-roll-Expr Written (strokes_by_parts d nodes) (Expr-F.Brackets place a))

pub none-Repeat : (d : Parts) (nodes w : List ℕ) (t : Expr) (place : Place) (n : Expr) (es : List Expr) → t ≡ e.Repeat place n es → return [] ≡ strokes d nodes t w
unfolding strokes strokes_by_parts
none-Repeat d nodes w t place n es is =
    at d nodes w t (e.Repeat place n es) (Expr-F.Repeat place (n, strokes d nodes n) (map (λ x. (x, strokes d nodes x)) es)) is
    (ap (strokes d nodes) (sym (e.rolls-Repeat place n es)) ∙ para-roll-Expr Written (strokes_by_parts d nodes) (Expr-F.Repeat place n es))

pub none-Unary : (d : Parts) (nodes w : List ℕ) (t : Expr) (place : Place) (op : Unary) (a : Expr) → t ≡ e.Unary place op a → return [] ≡ strokes d nodes t w
unfolding strokes strokes_by_parts
none-Unary d nodes w t place op a is =
    at d nodes w t (e.Unary place op a) (Expr-F.Unary place op (a, strokes d nodes a)) is (ap (strokes d nodes) (sym (e.rolls-Unary place op a)) ∙ para-roll-Expr Written (strokes_by_parts d nodes) (Expr-F.Unary place op a))

pub none-Binary : (d : Parts) (nodes w : List ℕ) (t : Expr) (place : Place) (op : Binary) (a b : Expr) → t ≡ e.Binary place op a b → return [] ≡ strokes d nodes t w
unfolding strokes strokes_by_parts
none-Binary d nodes w t place op a b is =
    at d nodes w t (e.Binary place op a b) (Expr-F.Binary place op (a, strokes d nodes a) (b, strokes d nodes b)) is
    (ap (strokes d nodes) (sym (e.rolls-Binary place op a b)) ∙ para-roll-Expr Written (strokes_by_parts d nodes) (Expr-F.Binary place op a b))

pub none-Conditional : (d : Parts) (nodes w : List ℕ) (t : Expr) (place : Place) (test a b : Expr) → t ≡ e.Conditional place test a b → return [] ≡ strokes d nodes t w
unfolding strokes strokes_by_parts
none-Conditional d nodes w t place test a b is =
    at d nodes w t (e.Conditional place test a b) (Expr-F.Conditional place (test, strokes d nodes test) (a, strokes d nodes a) (b, strokes d nodes b)) is
    (ap (strokes d nodes) (sym (e.rolls-Conditional place test a b)) ∙ para-roll-Expr Written (strokes_by_parts d nodes) (Expr-F.Conditional place test a b))
