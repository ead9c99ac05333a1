-- How each form of target is written, behind what is there.
use Rattle.std.proofs.Common.{◌≡◌, ℕ, List, [], ◌++◌, map, sym, ap, ◌∙◌}
use Rattle.std.proofs.lemmas.List.{append-nil}
use Rattle.rdc_outside.specs.declared.source.Place.{Place}
use Rattle.vlog_tree.specs.declared.expr.Expr.{Expr, Expr-F, para-roll-Expr}
use Rattle.vlog_tree.specs.declared.expr.Expr.TheVariants as e
use Rattle.vlog_tree.specs.declared.expr.Part.{Part}
use Rattle.vlog_tree.specs.declared.expr.Part.TheVariants.{Down}
use Rattle.vlog_tree.specs.declared.number.Number.{Number}
use Rattle.vlog_tree.specs.declared.operator.Unary.{Unary}
use Rattle.vlog_tree.specs.declared.operator.Binary.{Binary}
use Rattle.rdc_tern.specs.declared.value.Tern.{Tern}
use Rattle.design_form.specs.declared.parts.Parts.{Parts}
use Rattle.elab_bits.specs.Selects.{all_bits, constant}
use Rattle.proc_values.specs.declared.stroke.Stroke.{Stroke}
use Rattle.proc_values.specs.Targets.{Written, onto_all, onto_select, select_strokes, onto_members, strokes, strokes_by_parts}

plain-Number : (d : Parts) (now : List Tern) (place : Place) (n : Number) → strokes d now (e.Number place n) ≡ strokes_by_parts d now (Expr-F.Number place n)
unfolding strokes
plain-Number d now place n = ap (strokes d now) (sym (e.rolls-Number place n)) ∙ para-roll-Expr Written (strokes_by_parts d now) (Expr-F.Number place n)

pub behind-Number : (d : Parts) (now w : List Tern) (ks : List Stroke) (place : Place) (n : Number) → ks ++ strokes d now (e.Number place n) w ≡ ks
unfolding strokes_by_parts
behind-Number d now w ks place n = ap (λ (f : Written). ks ++ f w) (plain-Number d now place n) ∙ append-nil ks

plain-Name : (d : Parts) (now : List Tern) (place : Place) (name : List ℕ) → strokes d now (e.Name place name) ≡ strokes_by_parts d now (Expr-F.Name place name)
unfolding strokes
plain-Name d now place name = ap (strokes d now) (sym (e.rolls-Name place name)) ∙ para-roll-Expr Written (strokes_by_parts d now) (Expr-F.Name place name)

pub behind-Name : (d : Parts) (now w : List Tern) (ks : List Stroke) (place : Place) (name : List ℕ) → ks ++ strokes d now (e.Name place name) w ≡ ks ++ onto_all (all_bits d.signals name) w
unfolding strokes_by_parts
behind-Name d now w ks place name = ap (λ (f : Written). ks ++ f w) (plain-Name d now place name)

plain-Index : (d : Parts) (now : List Tern) (place : Place) (name : List ℕ) (i : Expr) → strokes d now (e.Index place name i) ≡ strokes_by_parts d now (Expr-F.Index place name (i, strokes d now i))
unfolding strokes
plain-Index d now place name i = ap (strokes d now) (sym (e.rolls-Index place name i)) ∙ para-roll-Expr Written (strokes_by_parts d now) (Expr-F.Index place name i)

pub behind-Index : (d : Parts) (now w : List Tern) (ks : List Stroke) (place : Place) (name : List ℕ) (i : Expr) → ks ++ strokes d now (e.Index place name i) w ≡ ks ++ onto_select d now Down name (constant i) i 1 w
unfolding strokes_by_parts
behind-Index d now w ks place name i = ap (λ (f : Written). ks ++ f w) (plain-Index d now place name i)

plain-Select : (d : Parts) (now : List Tern) (place : Place) (how : Part) (name : List ℕ) (i j : Expr) → strokes d now (e.Select how place name i j) ≡ strokes_by_parts d now (Expr-F.Select how place name (i, strokes d now i) (j, strokes d now j))
unfolding strokes
plain-Select d now place how name i j = ap (strokes d now) (sym (e.rolls-Select how place name i j)) ∙ para-roll-Expr Written (strokes_by_parts d now) (Expr-F.Select how place name i j)

pub behind-Select : (d : Parts) (now w : List Tern) (ks : List Stroke) (place : Place) (how : Part) (name : List ℕ) (i j : Expr) → ks ++ strokes d now (e.Select how place name i j) w ≡ ks ++ select_strokes d now how name i j w
unfolding strokes_by_parts
behind-Select d now w ks place how name i j = ap (λ (f : Written). ks ++ f w) (plain-Select d now place how name i j)

plain-Brackets : (d : Parts) (now : List Tern) (place : Place) (a : Expr) → strokes d now (e.Brackets place a) ≡ strokes_by_parts d now (Expr-F.Brackets place (a, strokes d now a))
unfolding strokes
plain-Brackets d now place a = ap (strokes d now) (sym (e.rolls-Brackets place a)) ∙ para-roll-Expr Written (strokes_by_parts d now) (Expr-F.Brackets place a)

pub behind-Brackets : (d : Parts) (now w : List Tern) (ks : List Stroke) (place : Place) (a : Expr) → ks ++ strokes d now (e.Brackets place a) w ≡ ks
unfolding strokes_by_parts
behind-Brackets d now w ks place a = ap (λ (f : Written). ks ++ f w) (plain-Brackets d now place a) ∙ append-nil ks

plain-Concat : (d : Parts) (now : List Tern) (place : Place) (es : List Expr) → strokes d now (e.Concat place es) ≡ strokes_by_parts d now (Expr-F.Concat place (map (λ x. (x, strokes d now x)) es))
unfolding strokes
plain-Concat d now place es = ap (strokes d now) (sym (e.rolls-Concat place es)) ∙ para-roll-Expr Written (strokes_by_parts d now) (Expr-F.Concat place es)

pub behind-Concat : (d : Parts) (now w : List Tern) (ks : List Stroke) (place : Place) (es : List Expr) → ks ++ strokes d now (e.Concat place es) w ≡ ks ++ onto_members d (map (λ x. (x, strokes d now x)) es) w
unfolding strokes_by_parts
behind-Concat d now w ks place es = ap (λ (f : Written). ks ++ f w) (plain-Concat d now place es)

plain-Repeat : (d : Parts) (now : List Tern) (place : Place) (n : Expr) (es : List Expr) → strokes d now (e.Repeat place n es) ≡ strokes_by_parts d now (Expr-F.Repeat place (n, strokes d now n) (map (λ x. (x, strokes d now x)) es))
unfolding strokes
plain-Repeat d now place n es = ap (strokes d now) (sym (e.rolls-Repeat place n es)) ∙ para-roll-Expr Written (strokes_by_parts d now) (Expr-F.Repeat place n es)

pub behind-Repeat : (d : Parts) (now w : List Tern) (ks : List Stroke) (place : Place) (n : Expr) (es : List Expr) → ks ++ strokes d now (e.Repeat place n es) w ≡ ks
unfolding strokes_by_parts
behind-Repeat d now w ks place n es = ap (λ (f : Written). ks ++ f w) (plain-Repeat d now place n es) ∙ append-nil ks

plain-Unary : (d : Parts) (now : List Tern) (place : Place) (op : Unary) (a : Expr) → strokes d now (e.Unary place op a) ≡ strokes_by_parts d now (Expr-F.Unary place op (a, strokes d now a))
unfolding strokes
plain-Unary d now place op a = ap (strokes d now) (sym (e.rolls-Unary place op a)) ∙ para-roll-Expr Written (strokes_by_parts d now) (Expr-F.Unary place op a)

pub behind-Unary : (d : Parts) (now w : List Tern) (ks : List Stroke) (place : Place) (op : Unary) (a : Expr) → ks ++ strokes d now (e.Unary place op a) w ≡ ks
unfolding strokes_by_parts
behind-Unary d now w ks place op a = ap (λ (f : Written). ks ++ f w) (plain-Unary d now place op a) ∙ append-nil ks

plain-Binary : (d : Parts) (now : List Tern) (place : Place) (op : Binary) (a b : Expr) → strokes d now (e.Binary place op a b) ≡ strokes_by_parts d now (Expr-F.Binary place op (a, strokes d now a) (b, strokes d now b))
unfolding strokes
plain-Binary d now place op a b = ap (strokes d now) (sym (e.rolls-Binary place op a b)) ∙ para-roll-Expr Written (strokes_by_parts d now) (Expr-F.Binary place op a b)

pub behind-Binary : (d : Parts) (now w : List Tern) (ks : List Stroke) (place : Place) (op : Binary) (a b : Expr) → ks ++ strokes d now (e.Binary place op a b) w ≡ ks
unfolding strokes_by_parts
behind-Binary d now w ks place op a b = ap (λ (f : Written). ks ++ f w) (plain-Binary d now place op a b) ∙ append-nil ks

plain-Conditional : (d : Parts) (now : List Tern) (place : Place) (test a b : Expr) → strokes d now (e.Conditional place test a b) ≡ strokes_by_parts d now (Expr-F.Conditional place (test, strokes d now test) (a, strokes d now a) (b, strokes d now b))
unfolding strokes
plain-Conditional d now place test a b = ap (strokes d now) (sym (e.rolls-Conditional place test a b)) ∙ para-roll-Expr Written (strokes_by_parts d now) (Expr-F.Conditional place test a b)

pub behind-Conditional : (d : Parts) (now w : List Tern) (ks : List Stroke) (place : Place) (test a b : Expr) → ks ++ strokes d now (e.Conditional place test a b) w ≡ ks
unfolding strokes_by_parts
behind-Conditional d now w ks place test a b = ap (λ (f : Written). ks ++ f w) (plain-Conditional d now place test a b) ∙ append-nil ks

-- each form of expression, for tactics
pub ruleset forms = (behind-Number, behind-Name, behind-Index, behind-Select, behind-Brackets, behind-Concat, behind-Repeat, behind-Unary, behind-Binary, behind-Conditional)
