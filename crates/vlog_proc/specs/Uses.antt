-- Names where they stand, each tested, in the order of reading.
--     Test                       what is said of a name at a place
--     uses f e                   of the names that an expression reads
--     target_uses f e            of the names that the indices of a target read
--     named_targets f e          of the names that a target assigns
use Rattle.std.specs.Prelude.{ℕ, List, Ok}
use Rattle.rdc_outside.specs.declared.source.Place.{Place}
use Rattle.vlog_tree.specs.declared.expr.Expr.{Expr, fold-Expr, para-Expr}
use Rattle.vlog_tree.specs.declared.expr.Expr.TheOpen.{Expr-F}
use Rattle.vlog_proc.specs.Faults.{Or_fault, and_then, all_checked}

-- what is said of a name at a place
abbrev pub Test : Type 0
Test = Place → List ℕ → Or_fault (Unit {0})

-- two, one behind the other
abbrev pub then_also : Or_fault (Unit {0}) → Or_fault (Unit {0}) → Or_fault (Unit {0})
then_also a b = and_then a (λ u. b)

unfoldable pub uses_by_parts : Test → Expr-F (Or_fault (Unit {0})) → Or_fault (Unit {0})
uses_by_parts f (Expr-F.Number place n) = Ok tt
uses_by_parts f (Expr-F.Name place name) = f place name
uses_by_parts f (Expr-F.Index place name i) = then_also (f place name) i
uses_by_parts f (Expr-F.Select how place name i j) = then_also (f place name) (then_also i j)
uses_by_parts f (Expr-F.Brackets place a) = a
uses_by_parts f (Expr-F.Concat place members) = all_checked (λ a. a) members
uses_by_parts f (Expr-F.Repeat place n members) = then_also n (all_checked (λ a. a) members)
uses_by_parts f (Expr-F.Unary place op a) = a
uses_by_parts f (Expr-F.Binary place op a b) = then_also a b
uses_by_parts f (Expr-F.Conditional place test a b) = then_also test (then_also a b)

-- of the names that an expression reads
unfoldable pub uses : Test → Expr → Or_fault (Unit {0})
uses f = fold-Expr (Or_fault (Unit {0})) (uses_by_parts f)

unfoldable pub target_uses_by_parts : Test → Expr-F (Expr × Or_fault (Unit {0})) → Or_fault (Unit {0})
target_uses_by_parts f (Expr-F.Index place name i) = uses f i.0
target_uses_by_parts f (Expr-F.Select how place name i j) = then_also (uses f i.0) (uses f j.0)
target_uses_by_parts f (Expr-F.Concat place members) = all_checked (λ a. a.1) members
target_uses_by_parts f _ = Ok tt

-- of the names that the indices of a target read
unfoldable pub target_uses : Test → Expr → Or_fault (Unit {0})
target_uses f = para-Expr (Or_fault (Unit {0})) (target_uses_by_parts f)

unfoldable pub named_by_parts : Test → Expr-F (Or_fault (Unit {0})) → Or_fault (Unit {0})
named_by_parts f (Expr-F.Name place name) = f place name
named_by_parts f (Expr-F.Index place name i) = f place name
named_by_parts f (Expr-F.Select how place name i j) = f place name
named_by_parts f (Expr-F.Concat place members) = all_checked (λ a. a) members
named_by_parts f _ = Ok tt

-- of the names that a target assigns
unfoldable pub named_targets : Test → Expr → Or_fault (Unit {0})
named_targets f = fold-Expr (Or_fault (Unit {0})) (named_by_parts f)
