-- Which expressions end with a name that a select may follow.
use Rattle.std.proofs.Common.{◌≡◌, ℕ, Bool, true, false, List, sym, ap, ◌∙◌}
use Rattle.rdc_outside.specs.declared.source.Place.{Place}
use Rattle.vlog_tree.specs.declared.expr.Expr.{Expr, Expr-F, fold-Expr, fold-roll-Expr}
use Rattle.vlog_tree.specs.declared.expr.Expr.TheVariants.{Number, Name, Index, Select, Brackets, Concat, Repeat, Unary, Binary, Conditional, rolls-Number, rolls-Name, rolls-Index, rolls-Select, rolls-Brackets, rolls-Concat, rolls-Repeat, rolls-Unary, rolls-Binary, rolls-Conditional}
use Rattle.vlog_tree.specs.declared.expr.Part.{Part}
use Rattle.vlog_tree.specs.declared.number.Number as n
use Rattle.vlog_tree.specs.declared.operator.Unary as u
use Rattle.vlog_tree.specs.declared.operator.Binary as b

open_by_parts : Expr-F Bool → Bool
open_by_parts (Expr-F.Number place x) = false
open_by_parts (Expr-F.Name place called) = true
open_by_parts (Expr-F.Index place called i) = false
open_by_parts (Expr-F.Select part place called i j) = false
open_by_parts (Expr-F.Brackets place i) = false
open_by_parts (Expr-F.Concat place is) = false
open_by_parts (Expr-F.Repeat place c is) = false
open_by_parts (Expr-F.Unary place op x) = x
open_by_parts (Expr-F.Binary place op x y) = y
open_by_parts (Expr-F.Conditional place test x y) = y

-- the last lexeme is a name
pub ends_open : Expr → Bool
ends_open = fold-Expr Bool open_by_parts

pub open-Number : (place : Place) (x : n.Number) → ends_open (Number place x) ≡ false
unfolding ends_open open_by_parts
open-Number place x = ap ends_open (sym (rolls-Number place x)) ∙ fold-roll-Expr Bool open_by_parts (Expr-F.Number place x)

pub open-Index : (place : Place) (called : List ℕ) (i : Expr) → ends_open (Index place called i) ≡ false
unfolding ends_open open_by_parts
open-Index place called i = ap ends_open (sym (rolls-Index place called i)) ∙ fold-roll-Expr Bool open_by_parts (Expr-F.Index place called i)

pub open-Name : (place : Place) (called : List ℕ) → ends_open (Name place called) ≡ true
unfolding ends_open open_by_parts
open-Name place called = ap ends_open (sym (rolls-Name place called)) ∙ fold-roll-Expr Bool open_by_parts (Expr-F.Name place called)

pub open-Select : (place : Place) (called : List ℕ) (part : Part) (i j : Expr) → ends_open (Select part place called i j) ≡ false
unfolding ends_open open_by_parts
open-Select place called part i j = ap ends_open (sym (rolls-Select part place called i j)) ∙ fold-roll-Expr Bool open_by_parts (Expr-F.Select part place called i j)

pub open-Brackets : (place : Place) (i : Expr) → ends_open (Brackets place i) ≡ false
unfolding ends_open open_by_parts
open-Brackets place i = ap ends_open (sym (rolls-Brackets place i)) ∙ fold-roll-Expr Bool open_by_parts (Expr-F.Brackets place i)

pub open-Concat : (place : Place) (es : List Expr) → ends_open (Concat place es) ≡ false
unfolding ends_open open_by_parts
open-Concat place es = ap ends_open (sym (rolls-Concat place es)) ∙ fold-roll-Expr Bool open_by_parts (Expr-F.Concat place es)

pub open-Repeat : (place : Place) (c : Expr) (es : List Expr) → ends_open (Repeat place c es) ≡ false
unfolding ends_open open_by_parts
open-Repeat place c es = ap ends_open (sym (rolls-Repeat place c es)) ∙ fold-roll-Expr Bool open_by_parts (Expr-F.Repeat place c es)

pub open-Unary : (place : Place) (op : u.Unary) (x : Expr) → ends_open (Unary place op x) ≡ ends_open x
unfolding ends_open open_by_parts
open-Unary place op x = ap ends_open (sym (rolls-Unary place op x)) ∙ fold-roll-Expr Bool open_by_parts (Expr-F.Unary place op x)

pub open-Binary : (place : Place) (op : b.Binary) (x y : Expr) → ends_open (Binary place op x y) ≡ ends_open y
unfolding ends_open open_by_parts
open-Binary place op x y = ap ends_open (sym (rolls-Binary place op x y)) ∙ fold-roll-Expr Bool open_by_parts (Expr-F.Binary place op x y)

pub open-Conditional : (place : Place) (test x y : Expr) → ends_open (Conditional place test x y) ≡ ends_open y
unfolding ends_open open_by_parts
open-Conditional place test x y = ap ends_open (sym (rolls-Conditional place test x y)) ∙ fold-roll-Expr Bool open_by_parts (Expr-F.Conditional place test x y)
