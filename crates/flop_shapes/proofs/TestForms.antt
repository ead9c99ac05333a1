-- What each form of expression is as a test.
use Rattle.std.proofs.Common.{◌≡◌, ℕ, true, List, Option, Some, None, sym, ap, ◌∙◌}
use Rattle.rdc_outside.specs.declared.source.Place.{Place}
use Rattle.vlog_tree.specs.declared.expr.Expr.{Expr, Expr-F, para-roll-Expr}
use Rattle.vlog_tree.specs.declared.expr.Expr.TheVariants as e
use Rattle.vlog_tree.specs.declared.expr.Part.{Part}
use Rattle.vlog_tree.specs.declared.number.Number.{Number}
use Rattle.vlog_tree.specs.declared.operator.Unary.{Unary}
use Rattle.vlog_tree.specs.declared.operator.Binary.{Binary}
use Rattle.flop_shapes.specs.Tests.{Test, whole_signal, at_index, at_level, inverted, compared, bit_of, number_of, test_of, test_by_parts}

pub test-Number : (place : Place) (n : Number) → test_of (e.Number place n) ≡ None
unfolding test_of test_by_parts
test-Number place n = ap test_of (sym (e.rolls-Number place n)) ∙ para-roll-Expr (Option Test) test_by_parts (Expr-F.Number place n)

pub test-Name : (place : Place) (name : List ℕ) → test_of (e.Name place name) ≡ Some (whole_signal name, true)
unfolding test_of test_by_parts
test-Name place name = ap test_of (sym (e.rolls-Name place name)) ∙ para-roll-Expr (Option Test) test_by_parts (Expr-F.Name place name)

pub test-Index : (place : Place) (name : List ℕ) (i : Expr) → test_of (e.Index place name i) ≡ at_level (at_index name i) (Some true)
unfolding test_of test_by_parts
test-Index place name i = ap test_of (sym (e.rolls-Index place name i)) ∙ para-roll-Expr (Option Test) test_by_parts (Expr-F.Index place name i)

pub test-Select : (how : Part) (place : Place) (name : List ℕ) (i j : Expr) → test_of (e.Select how place name i j) ≡ None
unfolding test_of test_by_parts
test-Select how place name i j = ap test_of (sym (e.rolls-Select how place name i j)) ∙ para-roll-Expr (Option Test) test_by_parts (Expr-F.Select how place name i j)

pub test-Brackets : (place : Place) (a : Expr) → test_of (e.Brackets place a) ≡ test_of a
unfolding test_of test_by_parts
test-Brackets place a = ap test_of (sym (e.rolls-Brackets place a)) ∙ para-roll-Expr (Option Test) test_by_parts (Expr-F.Brackets place a)

pub test-Concat : (place : Place) (es : List Expr) → test_of (e.Concat place es) ≡ None
unfolding test_of test_by_parts
test-Concat place es = ap test_of (sym (e.rolls-Concat place es)) ∙ para-roll-Expr (Option Test) test_by_parts (Expr-F.Concat place es)

pub test-Repeat : (place : Place) (n : Expr) (es : List Expr) → test_of (e.Repeat place n es) ≡ None
unfolding test_of test_by_parts
test-Repeat place n es = ap test_of (sym (e.rolls-Repeat place n es)) ∙ para-roll-Expr (Option Test) test_by_parts (Expr-F.Repeat place n es)

pub test-Unary : (place : Place) (op : Unary) (a : Expr) → test_of (e.Unary place op a) ≡ inverted op (bit_of a)
unfolding test_of test_by_parts
test-Unary place op a = ap test_of (sym (e.rolls-Unary place op a)) ∙ para-roll-Expr (Option Test) test_by_parts (Expr-F.Unary place op a)

pub test-Binary : (place : Place) (op : Binary) (a b : Expr) → test_of (e.Binary place op a b) ≡ compared op (bit_of a) (number_of b)
unfolding test_of test_by_parts
test-Binary place op a b = ap test_of (sym (e.rolls-Binary place op a b)) ∙ para-roll-Expr (Option Test) test_by_parts (Expr-F.Binary place op a b)

pub test-Conditional : (place : Place) (test a b : Expr) → test_of (e.Conditional place test a b) ≡ None
unfolding test_of test_by_parts
test-Conditional place test a b = ap test_of (sym (e.rolls-Conditional place test a b)) ∙ para-roll-Expr (Option Test) test_by_parts (Expr-F.Conditional place test a b)

-- each form of expression, for tactics
pub ruleset forms = (test-Number, test-Name, test-Index, test-Select, test-Brackets, test-Concat, test-Repeat, test-Unary, test-Binary, test-Conditional)
