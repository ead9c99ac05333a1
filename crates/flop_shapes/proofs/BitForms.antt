-- What each form of expression is as a bit.
use Rattle.std.proofs.Common.{◌≡◌, ℕ, List, Option, Some, None, sym, ap, ◌∙◌}
use Rattle.rdc_outside.specs.declared.source.Place.{Place}
use Rattle.vlog_tree.specs.declared.expr.Expr.{Expr, Expr-F, para-roll-Expr}
use Rattle.vlog_tree.specs.declared.expr.Expr.TheVariants as e
use Rattle.vlog_tree.specs.declared.expr.Part.{Part}
use Rattle.vlog_tree.specs.declared.number.Number.{Number}
use Rattle.vlog_tree.specs.declared.operator.Unary.{Unary}
use Rattle.vlog_tree.specs.declared.operator.Binary.{Binary}
use Rattle.flop_shapes.specs.Tests.{Bit, whole_signal, at_index, bit_of, bit_by_parts}

pub bit-Number : (place : Place) (n : Number) → bit_of (e.Number place n) ≡ None
unfolding bit_of bit_by_parts
bit-Number place n = ap bit_of (sym (e.rolls-Number place n)) ∙ para-roll-Expr (Option Bit) bit_by_parts (Expr-F.Number place n)

pub bit-Name : (place : Place) (name : List ℕ) → bit_of (e.Name place name) ≡ Some (whole_signal name)
unfolding bit_of bit_by_parts
bit-Name place name = ap bit_of (sym (e.rolls-Name place name)) ∙ para-roll-Expr (Option Bit) bit_by_parts (Expr-F.Name place name)

pub bit-Index : (place : Place) (name : List ℕ) (i : Expr) → bit_of (e.Index place name i) ≡ at_index name i
unfolding bit_of bit_by_parts
bit-Index place name i = ap bit_of (sym (e.rolls-Index place name i)) ∙ para-roll-Expr (Option Bit) bit_by_parts (Expr-F.Index place name i)

pub bit-Select : (how : Part) (place : Place) (name : List ℕ) (i j : Expr) → bit_of (e.Select how place name i j) ≡ None
unfolding bit_of bit_by_parts
bit-Select how place name i j = ap bit_of (sym (e.rolls-Select how place name i j)) ∙ para-roll-Expr (Option Bit) bit_by_parts (Expr-F.Select how place name i j)

pub bit-Brackets : (place : Place) (a : Expr) → bit_of (e.Brackets place a) ≡ bit_of a
unfolding bit_of bit_by_parts
bit-Brackets place a = ap bit_of (sym (e.rolls-Brackets place a)) ∙ para-roll-Expr (Option Bit) bit_by_parts (Expr-F.Brackets place a)

pub bit-Concat : (place : Place) (es : List Expr) → bit_of (e.Concat place es) ≡ None
unfolding bit_of bit_by_parts
bit-Concat place es = ap bit_of (sym (e.rolls-Concat place es)) ∙ para-roll-Expr (Option Bit) bit_by_parts (Expr-F.Concat place es)

pub bit-Repeat : (place : Place) (n : Expr) (es : List Expr) → bit_of (e.Repeat place n es) ≡ None
unfolding bit_of bit_by_parts
bit-Repeat place n es = ap bit_of (sym (e.rolls-Repeat place n es)) ∙ para-roll-Expr (Option Bit) bit_by_parts (Expr-F.Repeat place n es)

pub bit-Unary : (place : Place) (op : Unary) (a : Expr) → bit_of (e.Unary place op a) ≡ None
unfolding bit_of bit_by_parts
bit-Unary place op a = ap bit_of (sym (e.rolls-Unary place op a)) ∙ para-roll-Expr (Option Bit) bit_by_parts (Expr-F.Unary place op a)

pub bit-Binary : (place : Place) (op : Binary) (a b : Expr) → bit_of (e.Binary place op a b) ≡ None
unfolding bit_of bit_by_parts
bit-Binary place op a b = ap bit_of (sym (e.rolls-Binary place op a b)) ∙ para-roll-Expr (Option Bit) bit_by_parts (Expr-F.Binary place op a b)

pub bit-Conditional : (place : Place) (test a b : Expr) → bit_of (e.Conditional place test a b) ≡ None
unfolding bit_of bit_by_parts
bit-Conditional place test a b = ap bit_of (sym (e.rolls-Conditional place test a b)) ∙ para-roll-Expr (Option Bit) bit_by_parts (Expr-F.Conditional place test a b)

-- each form of expression, for tactics
pub ruleset forms = (bit-Number, bit-Name, bit-Index, bit-Select, bit-Brackets, bit-Concat, bit-Repeat, bit-Unary, bit-Binary, bit-Conditional)
