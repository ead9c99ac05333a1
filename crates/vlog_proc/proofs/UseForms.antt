-- What each form of expression and of target reads.
use Rattle.std.proofs.Common.{◌≡◌, ℕ, List, Ok, sym, ap, ◌∙◌}
use Rattle.rdc_outside.specs.declared.source.Place.{Place}
use Rattle.vlog_tree.specs.declared.expr.Expr.{Expr, fold-roll-Expr, para-roll-Expr}
use Rattle.vlog_tree.specs.declared.expr.Expr.TheOpen.{Expr-F}
use Rattle.vlog_tree.specs.declared.expr.Expr.TheVariants as e
use Rattle.vlog_tree.specs.declared.expr.Part.{Part}
use Rattle.vlog_tree.specs.declared.number.Number.{Number}
use Rattle.vlog_tree.specs.declared.operator.Unary.{Unary}
use Rattle.vlog_tree.specs.declared.operator.Binary.{Binary}
use Rattle.vlog_proc.specs.Faults.{Or_fault, all_checked}
use Rattle.vlog_proc.specs.Uses.{Test, then_also, uses, uses_by_parts, target_uses, target_uses_by_parts}
use Rattle.vlog_proc.proofs.Chains.{each_of, each_beside}

pub uses-Number : (f : Test) (place : Place) (n : Number) → uses f (e.Number place n) ≡ Ok tt
unfolding uses uses_by_parts
uses-Number f place n = ap (uses f) (sym (e.rolls-Number place n)) ∙ fold-roll-Expr (Or_fault (Unit {0})) (uses_by_parts f) (Expr-F.Number place n)

pub uses-Name : (f : Test) (place : Place) (name : List ℕ) → uses f (e.Name place name) ≡ f place name
unfolding uses uses_by_parts
uses-Name f place name = ap (uses f) (sym (e.rolls-Name place name)) ∙ fold-roll-Expr (Or_fault (Unit {0})) (uses_by_parts f) (Expr-F.Name place name)

pub uses-Index : (f : Test) (place : Place) (name : List ℕ) (i : Expr) → uses f (e.Index place name i) ≡ then_also (f place name) (uses f i)
unfolding uses uses_by_parts
uses-Index f place name i = ap (uses f) (sym (e.rolls-Index place name i)) ∙ fold-roll-Expr (Or_fault (Unit {0})) (uses_by_parts f) (Expr-F.Index place name i)

pub uses-Select : (f : Test) (how : Part) (place : Place) (name : List ℕ) (i : Expr) (j : Expr) → uses f (e.Select how place name i j) ≡ then_also (f place name) (then_also (uses f i) (uses f j))
unfolding uses uses_by_parts
uses-Select f how place name i j = ap (uses f) (sym (e.rolls-Select how place name i j)) ∙ fold-roll-Expr (Or_fault (Unit {0})) (uses_by_parts f) (Expr-F.Select how place name i j)

pub uses-Brackets : (f : Test) (place : Place) (a : Expr) → uses f (e.Brackets place a) ≡ uses f a
unfolding uses uses_by_parts
uses-Brackets f place a = ap (uses f) (sym (e.rolls-Brackets place a)) ∙ fold-roll-Expr (Or_fault (Unit {0})) (uses_by_parts f) (Expr-F.Brackets place a)

pub uses-Concat : (f : Test) (place : Place) (es : List Expr) → uses f (e.Concat place es) ≡ all_checked (uses f) es
unfolding uses uses_by_parts
uses-Concat f place es = ap (uses f) (sym (e.rolls-Concat place es)) ∙ fold-roll-Expr (Or_fault (Unit {0})) (uses_by_parts f) (Expr-F.Concat place es) ∙ each_of (uses f) es

pub uses-Repeat : (f : Test) (place : Place) (k : Expr) (es : List Expr) → uses f (e.Repeat place k es) ≡ then_also (uses f k) (all_checked (uses f) es)
unfolding uses uses_by_parts
uses-Repeat f place k es = ap (uses f) (sym (e.rolls-Repeat place k es)) ∙ fold-roll-Expr (Or_fault (Unit {0})) (uses_by_parts f) (Expr-F.Repeat place k es) ∙ ap (then_also (uses f k)) (each_of (uses f) es)

pub uses-Unary : (f : Test) (place : Place) (op : Unary) (a : Expr) → uses f (e.Unary place op a) ≡ uses f a
unfolding uses uses_by_parts
uses-Unary f place op a = ap (uses f) (sym (e.rolls-Unary place op a)) ∙ fold-roll-Expr (Or_fault (Unit {0})) (uses_by_parts f) (Expr-F.Unary place op a)

pub uses-Binary : (f : Test) (place : Place) (op : Binary) (x : Expr) (y : Expr) → uses f (e.Binary place op x y) ≡ then_also (uses f x) (uses f y)
unfolding uses uses_by_parts
uses-Binary f place op x y = ap (uses f) (sym (e.rolls-Binary place op x y)) ∙ fold-roll-Expr (Or_fault (Unit {0})) (uses_by_parts f) (Expr-F.Binary place op x y)

pub uses-Conditional : (f : Test) (place : Place) (test : Expr) (x : Expr) (y : Expr) → uses f (e.Conditional place test x y) ≡ then_also (uses f test) (then_also (uses f x) (uses f y))
unfolding uses uses_by_parts
uses-Conditional f place test x y = ap (uses f) (sym (e.rolls-Conditional place test x y)) ∙ fold-roll-Expr (Or_fault (Unit {0})) (uses_by_parts f) (Expr-F.Conditional place test x y)

-- each form of expression, for tactics
pub ruleset forms = (uses-Number, uses-Name, uses-Index, uses-Select, uses-Brackets, uses-Concat, uses-Repeat, uses-Unary, uses-Binary, uses-Conditional)

pub target-Number : (f : Test) (place : Place) (n : Number) → target_uses f (e.Number place n) ≡ Ok tt
unfolding target_uses target_uses_by_parts
target-Number f place n = ap (target_uses f) (sym (e.rolls-Number place n)) ∙ para-roll-Expr (Or_fault (Unit {0})) (target_uses_by_parts f) (Expr-F.Number place n)

pub target-Name : (f : Test) (place : Place) (name : List ℕ) → target_uses f (e.Name place name) ≡ Ok tt
unfolding target_uses target_uses_by_parts
target-Name f place name = ap (target_uses f) (sym (e.rolls-Name place name)) ∙ para-roll-Expr (Or_fault (Unit {0})) (target_uses_by_parts f) (Expr-F.Name place name)

pub target-Index : (f : Test) (place : Place) (name : List ℕ) (i : Expr) → target_uses f (e.Index place name i) ≡ uses f i
unfolding target_uses target_uses_by_parts
target-Index f place name i = ap (target_uses f) (sym (e.rolls-Index place name i)) ∙ para-roll-Expr (Or_fault (Unit {0})) (target_uses_by_parts f) (Expr-F.Index place name i)

pub target-Select : (f : Test) (how : Part) (place : Place) (name : List ℕ) (i : Expr) (j : Expr) → target_uses f (e.Select how place name i j) ≡ then_also (uses f i) (uses f j)
unfolding target_uses target_uses_by_parts
target-Select f how place name i j = ap (target_uses f) (sym (e.rolls-Select how place name i j)) ∙ para-roll-Expr (Or_fault (Unit {0})) (target_uses_by_parts f) (Expr-F.Select how place name i j)

pub target-Brackets : (f : Test) (place : Place) (a : Expr) → target_uses f (e.Brackets place a) ≡ Ok tt
unfolding target_uses target_uses_by_parts
target-Brackets f place a = ap (target_uses f) (sym (e.rolls-Brackets place a)) ∙ para-roll-Expr (Or_fault (Unit {0})) (target_uses_by_parts f) (Expr-F.Brackets place a)

pub target-Concat : (f : Test) (place : Place) (es : List Expr) → target_uses f (e.Concat place es) ≡ all_checked (target_uses f) es
unfolding target_uses target_uses_by_parts
target-Concat f place es = ap (target_uses f) (sym (e.rolls-Concat place es)) ∙ para-roll-Expr (Or_fault (Unit {0})) (target_uses_by_parts f) (Expr-F.Concat place es) ∙ each_beside (target_uses f) es

pub target-Repeat : (f : Test) (place : Place) (k : Expr) (es : List Expr) → target_uses f (e.Repeat place k es) ≡ Ok tt
unfolding target_uses target_uses_by_parts
target-Repeat f place k es = ap (target_uses f) (sym (e.rolls-Repeat place k es)) ∙ para-roll-Expr (Or_fault (Unit {0})) (target_uses_by_parts f) (Expr-F.Repeat place k es)

pub target-Unary : (f : Test) (place : Place) (op : Unary) (a : Expr) → target_uses f (e.Unary place op a) ≡ Ok tt
unfolding target_uses target_uses_by_parts
target-Unary f place op a = ap (target_uses f) (sym (e.rolls-Unary place op a)) ∙ para-roll-Expr (Or_fault (Unit {0})) (target_uses_by_parts f) (Expr-F.Unary place op a)

pub target-Binary : (f : Test) (place : Place) (op : Binary) (x : Expr) (y : Expr) → target_uses f (e.Binary place op x y) ≡ Ok tt
unfolding target_uses target_uses_by_parts
target-Binary f place op x y = ap (target_uses f) (sym (e.rolls-Binary place op x y)) ∙ para-roll-Expr (Or_fault (Unit {0})) (target_uses_by_parts f) (Expr-F.Binary place op x y)

pub target-Conditional : (f : Test) (place : Place) (test : Expr) (x : Expr) (y : Expr) → target_uses f (e.Conditional place test x y) ≡ Ok tt
unfolding target_uses target_uses_by_parts
target-Conditional f place test x y = ap (target_uses f) (sym (e.rolls-Conditional place test x y)) ∙ para-roll-Expr (Or_fault (Unit {0})) (target_uses_by_parts f) (Expr-F.Conditional place test x y)

-- each form of target
pub ruleset target_forms = (target-Number, target-Name, target-Index, target-Select, target-Brackets, target-Concat, target-Repeat, target-Unary, target-Binary, target-Conditional)
