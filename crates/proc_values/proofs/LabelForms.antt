-- Which positions of each form of label have z digits.
use Rattle.std.proofs.Common.{◌≡◌, ℕ, Bool, List, [], map, sym, ap, ◌∙◌}
use Rattle.rdc_outside.specs.declared.source.Place.{Place}
use Rattle.vlog_tree.specs.declared.expr.Expr.{Expr, Expr-F, para-roll-Expr}
use Rattle.vlog_tree.specs.declared.expr.Expr.TheVariants as e
use Rattle.vlog_tree.specs.declared.expr.Part.{Part}
use Rattle.vlog_tree.specs.declared.number.Number.{Number}
use Rattle.vlog_tree.specs.declared.operator.Unary.{Unary}
use Rattle.vlog_tree.specs.declared.operator.Binary.{Binary}
use Rattle.design_form.specs.declared.parts.Parts.{Parts}
use Rattle.design_form.specs.Values.{count_alone}
use Rattle.proc_values.specs.Labels.{flags, free_of, free_by_parts, joined_free, repeated}

pub free-Number : (d : Parts) (place : Place) (n : Number) → free_of d (e.Number place n) ≡ flags n.width n.z
unfolding free_of free_by_parts
free-Number d place n = ap (free_of d) (sym (e.rolls-Number place n)) ∙ para-roll-Expr (List Bool) (free_by_parts d) (Expr-F.Number place n)

pub free-Name : (d : Parts) (place : Place) (name : List ℕ) → free_of d (e.Name place name) ≡ []
unfolding free_of free_by_parts
free-Name d place name = ap (free_of d) (sym (e.rolls-Name place name)) ∙ para-roll-Expr (List Bool) (free_by_parts d) (Expr-F.Name place name)

pub free-Index : (d : Parts) (place : Place) (name : List ℕ) (i : Expr) → free_of d (e.Index place name i) ≡ []
unfolding free_of free_by_parts
free-Index d place name i = ap (free_of d) (sym (e.rolls-Index place name i)) ∙ para-roll-Expr (List Bool) (free_by_parts d) (Expr-F.Index place name i)

pub free-Select : (d : Parts) (place : Place) (how : Part) (name : List ℕ) (i j : Expr) → free_of d (e.Select how place name i j) ≡ []
unfolding free_of free_by_parts
free-Select d place how name i j = ap (free_of d) (sym (e.rolls-Select how place name i j)) ∙ para-roll-Expr (List Bool) (free_by_parts d) (Expr-F.Select how place name i j)

pub free-Unary : (d : Parts) (place : Place) (op : Unary) (a : Expr) → free_of d (e.Unary place op a) ≡ []
unfolding free_of free_by_parts
free-Unary d place op a = ap (free_of d) (sym (e.rolls-Unary place op a)) ∙ para-roll-Expr (List Bool) (free_by_parts d) (Expr-F.Unary place op a)

pub free-Binary : (d : Parts) (place : Place) (op : Binary) (a b : Expr) → free_of d (e.Binary place op a b) ≡ []
unfolding free_of free_by_parts
free-Binary d place op a b = ap (free_of d) (sym (e.rolls-Binary place op a b)) ∙ para-roll-Expr (List Bool) (free_by_parts d) (Expr-F.Binary place op a b)

pub free-Conditional : (d : Parts) (place : Place) (test a b : Expr) → free_of d (e.Conditional place test a b) ≡ []
unfolding free_of free_by_parts
free-Conditional d place test a b = ap (free_of d) (sym (e.rolls-Conditional place test a b)) ∙ para-roll-Expr (List Bool) (free_by_parts d) (Expr-F.Conditional place test a b)

pub free-Brackets : (d : Parts) (place : Place) (a : Expr) → free_of d (e.Brackets place a) ≡ free_of d a
unfolding free_of free_by_parts
free-Brackets d place a = ap (free_of d) (sym (e.rolls-Brackets place a)) ∙ para-roll-Expr (List Bool) (free_by_parts d) (Expr-F.Brackets place a)

pub free-Concat : (d : Parts) (place : Place) (es : List Expr) → free_of d (e.Concat place es) ≡ joined_free d (map (λ x. (x, free_of d x)) es)
unfolding free_of free_by_parts
free-Concat d place es = ap (free_of d) (sym (e.rolls-Concat place es)) ∙ para-roll-Expr (List Bool) (free_by_parts d) (Expr-F.Concat place es)

pub free-Repeat : (d : Parts) (place : Place) (n : Expr) (es : List Expr) → free_of d (e.Repeat place n es) ≡ repeated (count_alone n) (joined_free d (map (λ x. (x, free_of d x)) es))
unfolding free_of free_by_parts
free-Repeat d place n es = ap (free_of d) (sym (e.rolls-Repeat place n es)) ∙ para-roll-Expr (List Bool) (free_by_parts d) (Expr-F.Repeat place n es)

-- each form of expression, for tactics
pub ruleset forms = (free-Number, free-Name, free-Index, free-Select, free-Brackets, free-Concat, free-Repeat, free-Unary, free-Binary, free-Conditional)
