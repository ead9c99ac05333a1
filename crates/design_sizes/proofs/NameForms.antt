-- Whether a name stands in each form of expression.
use Rattle.std.proofs.Common.{◌≡◌, ℕ, Bool, true, false, ◌||◌, List, map, sym, ap, ◌∙◌}
use Rattle.std.specs.List.{list_any}
use Rattle.rdc_outside.specs.declared.source.Place.{Place}
use Rattle.vlog_tree.specs.declared.expr.Expr.{Expr, fold-roll-Expr}
use Rattle.vlog_tree.specs.declared.expr.Expr.TheOpen.{Expr-F}
use Rattle.vlog_tree.specs.declared.expr.Expr.TheVariants.{Number, Name, Index, Select, Brackets, Concat, Repeat, Unary, Binary, Conditional, rolls-Number, rolls-Name, rolls-Index, rolls-Select, rolls-Brackets, rolls-Concat, rolls-Repeat, rolls-Unary, rolls-Binary, rolls-Conditional}
use Rattle.vlog_tree.specs.declared.expr.Part.{Part}
use Rattle.vlog_tree.specs.declared.number.Number as n
use Rattle.vlog_tree.specs.declared.operator.Unary as u
use Rattle.vlog_tree.specs.declared.operator.Binary as b
use Rattle.design_sizes.specs.Sizes.{has_name, named_by_parts}

pub named-Number : (place : Place) (x : n.Number) → has_name (Number place x) ≡ false
unfolding has_name named_by_parts
named-Number place x = ap has_name (sym (rolls-Number place x)) ∙ fold-roll-Expr Bool named_by_parts (Expr-F.Number place x)

pub named-Name : (place : Place) (name : List ℕ) → has_name (Name place name) ≡ true
unfolding has_name named_by_parts
named-Name place name = ap has_name (sym (rolls-Name place name)) ∙ fold-roll-Expr Bool named_by_parts (Expr-F.Name place name)

pub named-Index : (place : Place) (name : List ℕ) (i : Expr) → has_name (Index place name i) ≡ true
unfolding has_name named_by_parts
named-Index place name i = ap has_name (sym (rolls-Index place name i)) ∙ fold-roll-Expr Bool named_by_parts (Expr-F.Index place name i)

pub named-Select : (place : Place) (name : List ℕ) (how : Part) (i j : Expr) → has_name (Select how place name i j) ≡ true
unfolding has_name named_by_parts
named-Select place name how i j = ap has_name (sym (rolls-Select how place name i j)) ∙ fold-roll-Expr Bool named_by_parts (Expr-F.Select how place name i j)

pub named-Brackets : (place : Place) (a : Expr) → has_name (Brackets place a) ≡ has_name a
unfolding has_name named_by_parts
named-Brackets place a = ap has_name (sym (rolls-Brackets place a)) ∙ fold-roll-Expr Bool named_by_parts (Expr-F.Brackets place a)

pub named-Concat : (place : Place) (es : List Expr) → has_name (Concat place es) ≡ list_any (λ b. b) (map has_name es)
unfolding has_name named_by_parts
named-Concat place es = ap has_name (sym (rolls-Concat place es)) ∙ fold-roll-Expr Bool named_by_parts (Expr-F.Concat place es)

pub named-Repeat : (place : Place) (k : Expr) (es : List Expr) → has_name (Repeat place k es) ≡ has_name k || list_any (λ b. b) (map has_name es)
unfolding has_name named_by_parts
named-Repeat place k es = ap has_name (sym (rolls-Repeat place k es)) ∙ fold-roll-Expr Bool named_by_parts (Expr-F.Repeat place k es)

pub named-Unary : (place : Place) (op : u.Unary) (a : Expr) → has_name (Unary place op a) ≡ has_name a
unfolding has_name named_by_parts
named-Unary place op a = ap has_name (sym (rolls-Unary place op a)) ∙ fold-roll-Expr Bool named_by_parts (Expr-F.Unary place op a)

pub named-Binary : (place : Place) (op : b.Binary) (x y : Expr) → has_name (Binary place op x y) ≡ has_name x || has_name y
unfolding has_name named_by_parts
named-Binary place op x y = ap has_name (sym (rolls-Binary place op x y)) ∙ fold-roll-Expr Bool named_by_parts (Expr-F.Binary place op x y)

pub named-Conditional : (place : Place) (test x y : Expr) → has_name (Conditional place test x y) ≡ has_name test || (has_name x || has_name y)
unfolding has_name named_by_parts
named-Conditional place test x y = ap has_name (sym (rolls-Conditional place test x y)) ∙ fold-roll-Expr Bool named_by_parts (Expr-F.Conditional place test x y)

-- each form of expression, for tactics
pub ruleset forms = (named-Number, named-Name, named-Index, named-Select, named-Brackets, named-Concat, named-Repeat, named-Unary, named-Binary, named-Conditional)
