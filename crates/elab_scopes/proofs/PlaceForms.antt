-- The place of each form of expression.
use Rattle.std.proofs.Common.{◌≡◌, ℕ, List, sym, ap, ◌∙◌}
use Rattle.rdc_outside.specs.declared.source.Place.{Place}
use Rattle.vlog_tree.specs.declared.expr.Expr.{Expr, Expr-F, fold-roll-Expr}
use Rattle.vlog_tree.specs.declared.expr.Expr.TheVariants as e
use Rattle.vlog_tree.specs.declared.expr.Part.{Part}
use Rattle.vlog_tree.specs.declared.number.Number.{Number}
use Rattle.vlog_tree.specs.declared.operator.Unary.{Unary}
use Rattle.vlog_tree.specs.declared.operator.Binary.{Binary}
use Rattle.elab_scopes.specs.Ranges.{place_of, place_by_parts}

pub place-Number : (place : Place) (n : Number) → place_of (e.Number place n) ≡ place
unfolding place_of place_by_parts
place-Number place n = ap place_of (sym (e.rolls-Number place n)) ∙ fold-roll-Expr Place place_by_parts (Expr-F.Number place n)

pub place-Name : (place : Place) (name : List ℕ) → place_of (e.Name place name) ≡ place
unfolding place_of place_by_parts
place-Name place name = ap place_of (sym (e.rolls-Name place name)) ∙ fold-roll-Expr Place place_by_parts (Expr-F.Name place name)

pub place-Index : (place : Place) (name : List ℕ) (i : Expr) → place_of (e.Index place name i) ≡ place
unfolding place_of place_by_parts
place-Index place name i = ap place_of (sym (e.rolls-Index place name i)) ∙ fold-roll-Expr Place place_by_parts (Expr-F.Index place name i)

pub place-Select : (how : Part) (place : Place) (name : List ℕ) (i j : Expr) → place_of (e.Select how place name i j) ≡ place
unfolding place_of place_by_parts
place-Select how place name i j = ap place_of (sym (e.rolls-Select how place name i j)) ∙ fold-roll-Expr Place place_by_parts (Expr-F.Select how place name i j)

pub place-Brackets : (place : Place) (a : Expr) → place_of (e.Brackets place a) ≡ place
unfolding place_of place_by_parts
place-Brackets place a = ap place_of (sym (e.rolls-Brackets place a)) ∙ fold-roll-Expr Place place_by_parts (Expr-F.Brackets place a)

pub place-Concat : (place : Place) (es : List Expr) → place_of (e.Concat place es) ≡ place
unfolding place_of place_by_parts
place-Concat place es = ap place_of (sym (e.rolls-Concat place es)) ∙ fold-roll-Expr Place place_by_parts (Expr-F.Concat place es)

pub place-Repeat : (place : Place) (n : Expr) (es : List Expr) → place_of (e.Repeat place n es) ≡ place
unfolding place_of place_by_parts
place-Repeat place n es = ap place_of (sym (e.rolls-Repeat place n es)) ∙ fold-roll-Expr Place place_by_parts (Expr-F.Repeat place n es)

pub place-Unary : (place : Place) (op : Unary) (a : Expr) → place_of (e.Unary place op a) ≡ place
unfolding place_of place_by_parts
place-Unary place op a = ap place_of (sym (e.rolls-Unary place op a)) ∙ fold-roll-Expr Place place_by_parts (Expr-F.Unary place op a)

pub place-Binary : (place : Place) (op : Binary) (a b : Expr) → place_of (e.Binary place op a b) ≡ place
unfolding place_of place_by_parts
place-Binary place op a b = ap place_of (sym (e.rolls-Binary place op a b)) ∙ fold-roll-Expr Place place_by_parts (Expr-F.Binary place op a b)

pub place-Conditional : (place : Place) (test a b : Expr) → place_of (e.Conditional place test a b) ≡ place
unfolding place_of place_by_parts
place-Conditional place test a b = ap place_of (sym (e.rolls-Conditional place test a b)) ∙ fold-roll-Expr Place place_by_parts (Expr-F.Conditional place test a b)

pub ruleset forms = (place-Number, place-Name, place-Index, place-Select, place-Brackets, place-Concat, place-Repeat, place-Unary, place-Binary, place-Conditional)
