-- What is said of each form of expression.
use Rattle.std.proofs.Common.{◌≡◌, ℕ, List, Option, Some, None, sym, ap, ◌∙◌}
use Rattle.std.specs.Option.{option_map}
use Rattle.rdc_outside.specs.declared.source.Place.{Place}
use Rattle.vlog_tree.specs.declared.number.Number as numbers
use Rattle.vlog_tree.specs.declared.operator.Unary as unaries
use Rattle.vlog_tree.specs.declared.operator.Binary as binaries
use Rattle.vlog_tree.specs.declared.expr.Part.{Part}
use Rattle.vlog_tree.specs.declared.expr.Expr.{Expr, fold-roll-Expr}
use Rattle.vlog_tree.specs.declared.expr.Expr.TheOpen.{Expr-F}
use Rattle.vlog_tree.specs.declared.expr.Expr.TheVariants as e
use Rattle.thin_tree.specs.Tree as tree
use Rattle.thin_tree.specs.Form.{inverted, joined, said, said_by_parts}

pub said-Number : (place : Place) (n : numbers.Number) → said (e.Number place n) ≡ None
unfolding said said_by_parts
said-Number place n = ap said (sym (e.rolls-Number place n)) ∙ fold-roll-Expr (Option tree.Expr) said_by_parts (Expr-F.Number place n)

pub said-Name : (place : Place) (called : List ℕ) → said (e.Name place called) ≡ Some (tree.Name called)
unfolding said said_by_parts
said-Name place called = ap said (sym (e.rolls-Name place called)) ∙ fold-roll-Expr (Option tree.Expr) said_by_parts (Expr-F.Name place called)

pub said-Index : (place : Place) (called : List ℕ) (i : Expr) → said (e.Index place called i) ≡ None
unfolding said said_by_parts
said-Index place called i = ap said (sym (e.rolls-Index place called i)) ∙ fold-roll-Expr (Option tree.Expr) said_by_parts (Expr-F.Index place called i)

pub said-Select : (place : Place) (called : List ℕ) (part : Part) (i j : Expr) → said (e.Select part place called i j) ≡ None
unfolding said said_by_parts
said-Select place called part i j = ap said (sym (e.rolls-Select part place called i j)) ∙ fold-roll-Expr (Option tree.Expr) said_by_parts (Expr-F.Select part place called i j)

pub said-Brackets : (place : Place) (i : Expr) → said (e.Brackets place i) ≡ option_map tree.Brackets (said i)
unfolding said said_by_parts
said-Brackets place i = ap said (sym (e.rolls-Brackets place i)) ∙ fold-roll-Expr (Option tree.Expr) said_by_parts (Expr-F.Brackets place i)

pub said-Concat : (place : Place) (es : List Expr) → said (e.Concat place es) ≡ None
unfolding said said_by_parts
said-Concat place es = ap said (sym (e.rolls-Concat place es)) ∙ fold-roll-Expr (Option tree.Expr) said_by_parts (Expr-F.Concat place es)

pub said-Repeat : (place : Place) (c : Expr) (es : List Expr) → said (e.Repeat place c es) ≡ None
unfolding said said_by_parts
said-Repeat place c es = ap said (sym (e.rolls-Repeat place c es)) ∙ fold-roll-Expr (Option tree.Expr) said_by_parts (Expr-F.Repeat place c es)

pub said-Unary : (place : Place) (op : unaries.Unary) (u : Expr) → said (e.Unary place op u) ≡ inverted op (said u)
unfolding said said_by_parts
said-Unary place op u = ap said (sym (e.rolls-Unary place op u)) ∙ fold-roll-Expr (Option tree.Expr) said_by_parts (Expr-F.Unary place op u)

pub said-Binary : (place : Place) (op : binaries.Binary) (x y : Expr) → said (e.Binary place op x y) ≡ joined op (said x) (said y)
unfolding said said_by_parts
said-Binary place op x y = ap said (sym (e.rolls-Binary place op x y)) ∙ fold-roll-Expr (Option tree.Expr) said_by_parts (Expr-F.Binary place op x y)

pub said-Conditional : (place : Place) (test x y : Expr) → said (e.Conditional place test x y) ≡ None
unfolding said said_by_parts
said-Conditional place test x y = ap said (sym (e.rolls-Conditional place test x y)) ∙ fold-roll-Expr (Option tree.Expr) said_by_parts (Expr-F.Conditional place test x y)
