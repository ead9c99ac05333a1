-- What each form of expression is as a number.
use Rattle.std.proofs.Common.{◌≡◌, ℕ, List, Option, Some, None, sym, ap, ◌∙◌}
use Rattle.rdc_outside.specs.declared.source.Place.{Place}
use Rattle.vlog_tree.specs.declared.expr.Expr.{Expr, Expr-F, fold-roll-Expr}
use Rattle.vlog_tree.specs.declared.expr.Expr.TheVariants as e
use Rattle.vlog_tree.specs.declared.expr.Part.{Part}
use Rattle.vlog_tree.specs.declared.number.Number.{Number}
use Rattle.vlog_tree.specs.declared.operator.Unary.{Unary}
use Rattle.vlog_tree.specs.declared.operator.Binary.{Binary}
use Rattle.flop_shapes.specs.Tests.{number_of, number_by_parts}

pub number-Number : (place : Place) (n : Number) → number_of (e.Number place n) ≡ Some n
unfolding number_of number_by_parts
number-Number place n = ap number_of (sym (e.rolls-Number place n)) ∙ fold-roll-Expr (Option Number) number_by_parts (Expr-F.Number place n)

pub number-Name : (place : Place) (name : List ℕ) → number_of (e.Name place name) ≡ None
unfolding number_of number_by_parts
number-Name place name = ap number_of (sym (e.rolls-Name place name)) ∙ fold-roll-Expr (Option Number) number_by_parts (Expr-F.Name place name)

pub number-Index : (place : Place) (name : List ℕ) (i : Expr) → number_of (e.Index place name i) ≡ None
unfolding number_of number_by_parts
number-Index place name i = ap number_of (sym (e.rolls-Index place name i)) ∙ fold-roll-Expr (Option Number) number_by_parts (Expr-F.Index place name i)

pub number-Select : (how : Part) (place : Place) (name : List ℕ) (i j : Expr) → number_of (e.Select how place name i j) ≡ None
unfolding number_of number_by_parts
number-Select how place name i j = ap number_of (sym (e.rolls-Select how place name i j)) ∙ fold-roll-Expr (Option Number) number_by_parts (Expr-F.Select how place name i j)

pub number-Brackets : (place : Place) (a : Expr) → number_of (e.Brackets place a) ≡ number_of a
unfolding number_of number_by_parts
number-Brackets place a = ap number_of (sym (e.rolls-Brackets place a)) ∙ fold-roll-Expr (Option Number) number_by_parts (Expr-F.Brackets place a)

pub number-Concat : (place : Place) (es : List Expr) → number_of (e.Concat place es) ≡ None
unfolding number_of number_by_parts
number-Concat place es = ap number_of (sym (e.rolls-Concat place es)) ∙ fold-roll-Expr (Option Number) number_by_parts (Expr-F.Concat place es)

pub number-Repeat : (place : Place) (n : Expr) (es : List Expr) → number_of (e.Repeat place n es) ≡ None
unfolding number_of number_by_parts
number-Repeat place n es = ap number_of (sym (e.rolls-Repeat place n es)) ∙ fold-roll-Expr (Option Number) number_by_parts (Expr-F.Repeat place n es)

pub number-Unary : (place : Place) (op : Unary) (a : Expr) → number_of (e.Unary place op a) ≡ None
unfolding number_of number_by_parts
number-Unary place op a = ap number_of (sym (e.rolls-Unary place op a)) ∙ fold-roll-Expr (Option Number) number_by_parts (Expr-F.Unary place op a)

pub number-Binary : (place : Place) (op : Binary) (a b : Expr) → number_of (e.Binary place op a b) ≡ None
unfolding number_of number_by_parts
number-Binary place op a b = ap number_of (sym (e.rolls-Binary place op a b)) ∙ fold-roll-Expr (Option Number) number_by_parts (Expr-F.Binary place op a b)

pub number-Conditional : (place : Place) (test a b : Expr) → number_of (e.Conditional place test a b) ≡ None
unfolding number_of number_by_parts
number-Conditional place test a b = ap number_of (sym (e.rolls-Conditional place test a b)) ∙ fold-roll-Expr (Option Number) number_by_parts (Expr-F.Conditional place test a b)

-- each form of expression, for tactics
pub ruleset forms = (number-Number, number-Name, number-Index, number-Select, number-Brackets, number-Concat, number-Repeat, number-Unary, number-Binary, number-Conditional)
