-- What each form of label has of positions that don't count.
use Rattle.std.proofs.Common.{◌≡◌, ℕ, List, map, sym, ap, ◌∙◌}
use Rattle.rdc_outside.specs.declared.source.Place.{Place}
use Rattle.vlog_tree.specs.declared.expr.Expr.{Expr, para-roll-Expr}
use Rattle.vlog_tree.specs.declared.expr.Expr.TheOpen.{Expr-F}
use Rattle.vlog_tree.specs.declared.expr.Expr.TheVariants.{Number, Name, Index, Select, Brackets, Concat, Repeat, Unary, Binary, Conditional, rolls-Number, rolls-Name, rolls-Index, rolls-Select, rolls-Brackets, rolls-Concat, rolls-Repeat, rolls-Unary, rolls-Binary, rolls-Conditional}
use Rattle.vlog_tree.specs.declared.expr.Part.{Part}
use Rattle.vlog_tree.specs.declared.number.Number as n
use Rattle.vlog_tree.specs.declared.operator.Unary as u
use Rattle.vlog_tree.specs.declared.operator.Binary as b
use Rattle.vlog_const.specs.Names.{no_values}
use Rattle.vlog_const.specs.Constants.{value_of}
use Rattle.proc_cases.specs.Masks.{mask_of, mask_by_parts, row_of, empty, copies, count_if}

pub mask-Number : (place : Place) (x : n.Number) → mask_of (Number place x) ≡ x.z
unfolding mask_of mask_by_parts
mask-Number place x = ap mask_of (sym (rolls-Number place x)) ∙ para-roll-Expr ℕ mask_by_parts (Expr-F.Number place x)

pub mask-Name : (place : Place) (name : List ℕ) → mask_of (Name place name) ≡ 0
unfolding mask_of mask_by_parts
mask-Name place name = ap mask_of (sym (rolls-Name place name)) ∙ para-roll-Expr ℕ mask_by_parts (Expr-F.Name place name)

pub mask-Index : (place : Place) (name : List ℕ) (i : Expr) → mask_of (Index place name i) ≡ 0
unfolding mask_of mask_by_parts
mask-Index place name i = ap mask_of (sym (rolls-Index place name i)) ∙ para-roll-Expr ℕ mask_by_parts (Expr-F.Index place name i)

pub mask-Select : (how : Part) (place : Place) (name : List ℕ) (i j : Expr) → mask_of (Select how place name i j) ≡ 0
unfolding mask_of mask_by_parts
mask-Select how place name i j = ap mask_of (sym (rolls-Select how place name i j)) ∙ para-roll-Expr ℕ mask_by_parts (Expr-F.Select how place name i j)

pub mask-Brackets : (place : Place) (a : Expr) → mask_of (Brackets place a) ≡ mask_of a
unfolding mask_of mask_by_parts
mask-Brackets place a = ap mask_of (sym (rolls-Brackets place a)) ∙ para-roll-Expr ℕ mask_by_parts (Expr-F.Brackets place a)

pub mask-Concat : (place : Place) (es : List Expr) → mask_of (Concat place es) ≡ (row_of empty (map (λ e. (e, mask_of e)) es)).mask
unfolding mask_of mask_by_parts
mask-Concat place es = ap mask_of (sym (rolls-Concat place es)) ∙ para-roll-Expr ℕ mask_by_parts (Expr-F.Concat place es)

pub mask-Repeat : (place : Place) (k : Expr) (es : List Expr) → mask_of (Repeat place k es) ≡ copies (count_if (value_of no_values k)) (row_of empty (map (λ e. (e, mask_of e)) es))
unfolding mask_of mask_by_parts
mask-Repeat place k es = ap mask_of (sym (rolls-Repeat place k es)) ∙ para-roll-Expr ℕ mask_by_parts (Expr-F.Repeat place k es)

pub mask-Unary : (place : Place) (op : u.Unary) (a : Expr) → mask_of (Unary place op a) ≡ 0
unfolding mask_of mask_by_parts
mask-Unary place op a = ap mask_of (sym (rolls-Unary place op a)) ∙ para-roll-Expr ℕ mask_by_parts (Expr-F.Unary place op a)

pub mask-Binary : (place : Place) (op : b.Binary) (x y : Expr) → mask_of (Binary place op x y) ≡ 0
unfolding mask_of mask_by_parts
mask-Binary place op x y = ap mask_of (sym (rolls-Binary place op x y)) ∙ para-roll-Expr ℕ mask_by_parts (Expr-F.Binary place op x y)

pub mask-Conditional : (place : Place) (test x y : Expr) → mask_of (Conditional place test x y) ≡ 0
unfolding mask_of mask_by_parts
mask-Conditional place test x y = ap mask_of (sym (rolls-Conditional place test x y)) ∙ para-roll-Expr ℕ mask_by_parts (Expr-F.Conditional place test x y)

-- each form of expression, for tactics
pub ruleset forms = (mask-Number, mask-Name, mask-Index, mask-Select, mask-Brackets, mask-Concat, mask-Repeat, mask-Unary, mask-Binary, mask-Conditional)
