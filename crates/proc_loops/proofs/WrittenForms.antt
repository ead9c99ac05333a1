-- What each form of expression is with its constants written as numbers.
use Rattle.std.proofs.Common.{◌≡◌, ℕ, List, map, sym, ap, ◌∙◌}
use Rattle.rdc_outside.specs.declared.source.Place.{Place}
use Rattle.vlog_tree.specs.declared.expr.Expr.{Expr, para-roll-Expr}
use Rattle.vlog_tree.specs.declared.expr.Expr.TheOpen.{Expr-F}
use Rattle.vlog_tree.specs.declared.expr.Expr.TheVariants.{Number, Name, Index, Select, Brackets, Concat, Repeat, Unary, Binary, Conditional, rolls-Number, rolls-Name, rolls-Index, rolls-Select, rolls-Brackets, rolls-Concat, rolls-Repeat, rolls-Unary, rolls-Binary, rolls-Conditional}
use Rattle.vlog_tree.specs.declared.expr.Part.{Part}
use Rattle.vlog_tree.specs.declared.number.Number as n
use Rattle.vlog_tree.specs.declared.operator.Unary as u
use Rattle.vlog_tree.specs.declared.operator.Binary as b
use Rattle.vlog_const.specs.Names.{Values}
use Rattle.vlog_const.specs.Constants.{value_of}
use Rattle.design_form.specs.ConstantLaws.{number_or, written, written_by_parts}
use Rattle.design_form.proofs.ValueLemmas.{firsts}

pub written-Number : (values : Values) (place : Place) (x : n.Number) → written values (Number place x) ≡ Number place x
unfolding written written_by_parts
written-Number values place x = ap (written values) (sym (rolls-Number place x)) ∙ para-roll-Expr Expr (written_by_parts values) (Expr-F.Number place x)

pub written-Name : (values : Values) (place : Place) (name : List ℕ) → written values (Name place name) ≡ number_or place (Name place name) (value_of values (Name place name))
unfolding written written_by_parts
written-Name values place name = ap (written values) (sym (rolls-Name place name)) ∙ para-roll-Expr Expr (written_by_parts values) (Expr-F.Name place name)

pub written-Index : (values : Values) (place : Place) (name : List ℕ) (i : Expr) → written values (Index place name i) ≡ number_or place (Index place name (written values i)) (value_of values (Index place name i))
unfolding written written_by_parts
written-Index values place name i = ap (written values) (sym (rolls-Index place name i)) ∙ para-roll-Expr Expr (written_by_parts values) (Expr-F.Index place name i)

pub written-Select : (values : Values) (place : Place) (name : List ℕ) (how : Part) (i j : Expr)
    → written values (Select how place name i j) ≡ number_or place (Select how place name (written values i) (written values j)) (value_of values (Select how place name i j))
unfolding written written_by_parts
written-Select values place name how i j = ap (written values) (sym (rolls-Select how place name i j)) ∙ para-roll-Expr Expr (written_by_parts values) (Expr-F.Select how place name i j)

pub written-Brackets : (values : Values) (place : Place) (a : Expr) → written values (Brackets place a) ≡ Brackets place (written values a)
unfolding written written_by_parts
written-Brackets values place a = ap (written values) (sym (rolls-Brackets place a)) ∙ para-roll-Expr Expr (written_by_parts values) (Expr-F.Brackets place a)

pub written-Concat : (values : Values) (place : Place) (es : List Expr) → written values (Concat place es) ≡ Concat place (map (written values) es)
unfolding written written_by_parts
written-Concat values place es = ap (written values) (sym (rolls-Concat place es)) ∙ para-roll-Expr Expr (written_by_parts values) (Expr-F.Concat place es) ∙ ap (Concat place) (firsts (written values) es)

pub written-Repeat : (values : Values) (place : Place) (k : Expr) (es : List Expr) → written values (Repeat place k es) ≡ Repeat place (written values k) (map (written values) es)
unfolding written written_by_parts
written-Repeat values place k es = ap (written values) (sym (rolls-Repeat place k es)) ∙ para-roll-Expr Expr (written_by_parts values) (Expr-F.Repeat place k es) ∙ ap (Repeat place (written values k)) (firsts (written values) es)

pub written-Unary : (values : Values) (place : Place) (op : u.Unary) (a : Expr) → written values (Unary place op a) ≡ Unary place op (written values a)
unfolding written written_by_parts
written-Unary values place op a = ap (written values) (sym (rolls-Unary place op a)) ∙ para-roll-Expr Expr (written_by_parts values) (Expr-F.Unary place op a)

pub written-Binary : (values : Values) (place : Place) (op : b.Binary) (x y : Expr) → written values (Binary place op x y) ≡ Binary place op (written values x) (written values y)
unfolding written written_by_parts
written-Binary values place op x y = ap (written values) (sym (rolls-Binary place op x y)) ∙ para-roll-Expr Expr (written_by_parts values) (Expr-F.Binary place op x y)

pub written-Conditional : (values : Values) (place : Place) (test x y : Expr) → written values (Conditional place test x y) ≡ Conditional place (written values test) (written values x) (written values y)
unfolding written written_by_parts
written-Conditional values place test x y = ap (written values) (sym (rolls-Conditional place test x y)) ∙ para-roll-Expr Expr (written_by_parts values) (Expr-F.Conditional place test x y)

-- each form of expression, for tactics
pub ruleset forms = (written-Number, written-Name, written-Index, written-Select, written-Brackets, written-Concat, written-Repeat, written-Unary, written-Binary, written-Conditional)
