-- What each form of target assigns.
use Rattle.std.proofs.Common.{◌≡◌, ℕ, List, Ok, sym, ap, ◌∙◌}
use Rattle.rdc_outside.specs.declared.source.Place.{Place}
use Rattle.vlog_tree.specs.declared.expr.Expr.{Expr, fold-roll-Expr}
use Rattle.vlog_tree.specs.declared.expr.Expr.TheOpen.{Expr-F}
use Rattle.vlog_tree.specs.declared.expr.Expr.TheVariants as e
use Rattle.vlog_tree.specs.declared.expr.Part.{Part}
use Rattle.vlog_tree.specs.declared.number.Number.{Number}
use Rattle.vlog_tree.specs.declared.operator.Unary.{Unary}
use Rattle.vlog_tree.specs.declared.operator.Binary.{Binary}
use Rattle.vlog_proc.specs.Faults.{Or_fault, all_checked}
use Rattle.vlog_proc.specs.Uses.{Test, named_targets, named_by_parts}
use Rattle.vlog_proc.proofs.Chains.{each_of}

pub named-Number : (f : Test) (place : Place) (n : Number) → named_targets f (e.Number place n) ≡ Ok tt
unfolding named_targets named_by_parts
named-Number f place n = ap (named_targets f) (sym (e.rolls-Number place n)) ∙ fold-roll-Expr (Or_fault (Unit {0})) (named_by_parts f) (Expr-F.Number place n)

pub named-Name : (f : Test) (place : Place) (name : List ℕ) → named_targets f (e.Name place name) ≡ f place name
unfolding named_targets named_by_parts
named-Name f place name = ap (named_targets f) (sym (e.rolls-Name place name)) ∙ fold-roll-Expr (Or_fault (Unit {0})) (named_by_parts f) (Expr-F.Name place name)

pub named-Index : (f : Test) (place : Place) (name : List ℕ) (i : Expr) → named_targets f (e.Index place name i) ≡ f place name
unfolding named_targets named_by_parts
named-Index f place name i = ap (named_targets f) (sym (e.rolls-Index place name i)) ∙ fold-roll-Expr (Or_fault (Unit {0})) (named_by_parts f) (Expr-F.Index place name i)

pub named-Select : (f : Test) (how : Part) (place : Place) (name : List ℕ) (i : Expr) (j : Expr) → named_targets f (e.Select how place name i j) ≡ f place name
unfolding named_targets named_by_parts
named-Select f how place name i j = ap (named_targets f) (sym (e.rolls-Select how place name i j)) ∙ fold-roll-Expr (Or_fault (Unit {0})) (named_by_parts f) (Expr-F.Select how place name i j)

pub named-Brackets : (f : Test) (place : Place) (a : Expr) → named_targets f (e.Brackets place a) ≡ Ok tt
unfolding named_targets named_by_parts
named-Brackets f place a = ap (named_targets f) (sym (e.rolls-Brackets place a)) ∙ fold-roll-Expr (Or_fault (Unit {0})) (named_by_parts f) (Expr-F.Brackets place a)

pub named-Concat : (f : Test) (place : Place) (es : List Expr) → named_targets f (e.Concat place es) ≡ all_checked (named_targets f) es
unfolding named_targets named_by_parts
named-Concat f place es = ap (named_targets f) (sym (e.rolls-Concat place es)) ∙ fold-roll-Expr (Or_fault (Unit {0})) (named_by_parts f) (Expr-F.Concat place es) ∙ each_of (named_targets f) es

pub named-Repeat : (f : Test) (place : Place) (k : Expr) (es : List Expr) → named_targets f (e.Repeat place k es) ≡ Ok tt
unfolding named_targets named_by_parts
named-Repeat f place k es = ap (named_targets f) (sym (e.rolls-Repeat place k es)) ∙ fold-roll-Expr (Or_fault (Unit {0})) (named_by_parts f) (Expr-F.Repeat place k es)

pub named-Unary : (f : Test) (place : Place) (op : Unary) (a : Expr) → named_targets f (e.Unary place op a) ≡ Ok tt
unfolding named_targets named_by_parts
named-Unary f place op a = ap (named_targets f) (sym (e.rolls-Unary place op a)) ∙ fold-roll-Expr (Or_fault (Unit {0})) (named_by_parts f) (Expr-F.Unary place op a)

pub named-Binary : (f : Test) (place : Place) (op : Binary) (x : Expr) (y : Expr) → named_targets f (e.Binary place op x y) ≡ Ok tt
unfolding named_targets named_by_parts
named-Binary f place op x y = ap (named_targets f) (sym (e.rolls-Binary place op x y)) ∙ fold-roll-Expr (Or_fault (Unit {0})) (named_by_parts f) (Expr-F.Binary place op x y)

pub named-Conditional : (f : Test) (place : Place) (test : Expr) (x : Expr) (y : Expr) → named_targets f (e.Conditional place test x y) ≡ Ok tt
unfolding named_targets named_by_parts
named-Conditional f place test x y = ap (named_targets f) (sym (e.rolls-Conditional place test x y)) ∙ fold-roll-Expr (Or_fault (Unit {0})) (named_by_parts f) (Expr-F.Conditional place test x y)

-- each form of target, for tactics
pub ruleset forms = (named-Number, named-Name, named-Index, named-Select, named-Brackets, named-Concat, named-Repeat, named-Unary, named-Binary, named-Conditional)
