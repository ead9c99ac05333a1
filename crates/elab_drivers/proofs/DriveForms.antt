-- Whether each form of expression may be driven.
use Rattle.std.proofs.Common.{◌≡◌, ℕ, List, [], ◌∷◌, map, Ok, refl, sym, ap, ◌∙◌}
use mathlib.Core.Path.{fun_ext}
use Rattle.rdc_outside.specs.declared.source.Place.{Place}
use Rattle.vlog_tree.specs.declared.expr.Expr.{Expr, Expr-F, para-roll-Expr}
use Rattle.vlog_tree.specs.declared.expr.Expr.TheVariants as e
use Rattle.vlog_tree.specs.declared.expr.Part.{Part}
use Rattle.vlog_tree.specs.declared.number.Number.{Number}
use Rattle.vlog_tree.specs.declared.operator.Unary.{Unary}
use Rattle.vlog_tree.specs.declared.operator.Binary.{Binary}
use Rattle.elab_names.specs.Answers.{Or_fault, and_then}
use Rattle.elab_names.specs.Meanings.{Frames, found}
use Rattle.elab_names.specs.Expressions.{constant}
use Rattle.elab_scopes.specs.Threads.{threaded}
use Rattle.elab_drivers.specs.Targets.{drivable, passes, may_drive, drive_by_parts}

-- members beside what each is
members : (f : Expr → Or_fault (Unit {0})) (es : List Expr) → threaded (λ (u : Unit {0}) (a : Expr × Or_fault (Unit {0})). a.1) tt (map (λ x. (x, f x)) es) ≡ threaded (λ (u : Unit {0}) (x : Expr). f x) tt es
unfolding threaded
members f [] = refl
members f (x ∷ xs) = ap (and_then (f x)) (fun_ext (λ u. members f xs))

pub drive-Number : (frames : Frames) (place : Place) (n : Number) → may_drive frames (e.Number place n) ≡ Ok tt
unfolding may_drive drive_by_parts
drive-Number frames place n = ap (may_drive frames) (sym (e.rolls-Number place n)) ∙ para-roll-Expr (Or_fault (Unit {0})) (drive_by_parts frames) (Expr-F.Number place n)

pub drive-Name : (frames : Frames) (place : Place) (name : List ℕ) → may_drive frames (e.Name place name) ≡ passes (drivable place name (found frames name))
unfolding may_drive drive_by_parts
drive-Name frames place name = ap (may_drive frames) (sym (e.rolls-Name place name)) ∙ para-roll-Expr (Or_fault (Unit {0})) (drive_by_parts frames) (Expr-F.Name place name)

pub drive-Index : (frames : Frames) (place : Place) (name : List ℕ) (i : Expr) → may_drive frames (e.Index place name i) ≡ and_then (drivable place name (found frames name)) (λ s. and_then (constant frames i) (λ v. Ok tt))
unfolding may_drive drive_by_parts
drive-Index frames place name i = ap (may_drive frames) (sym (e.rolls-Index place name i)) ∙ para-roll-Expr (Or_fault (Unit {0})) (drive_by_parts frames) (Expr-F.Index place name i)

pub drive-Select : (frames : Frames) (how : Part) (place : Place) (name : List ℕ) (i j : Expr) → may_drive frames (e.Select how place name i j) ≡ and_then (drivable place name (found frames name)) (λ s. and_then (constant frames i) (λ v. and_then (constant frames j) (λ w. Ok tt)))
unfolding may_drive drive_by_parts
drive-Select frames how place name i j = ap (may_drive frames) (sym (e.rolls-Select how place name i j)) ∙ para-roll-Expr (Or_fault (Unit {0})) (drive_by_parts frames) (Expr-F.Select how place name i j)

pub drive-Brackets : (frames : Frames) (place : Place) (a : Expr) → may_drive frames (e.Brackets place a) ≡ Ok tt
unfolding may_drive drive_by_parts
drive-Brackets frames place a = ap (may_drive frames) (sym (e.rolls-Brackets place a)) ∙ para-roll-Expr (Or_fault (Unit {0})) (drive_by_parts frames) (Expr-F.Brackets place a)

pub drive-Concat : (frames : Frames) (place : Place) (es : List Expr) → may_drive frames (e.Concat place es) ≡ threaded (λ u x. may_drive frames x) tt es
unfolding may_drive drive_by_parts
drive-Concat frames place es = ap (may_drive frames) (sym (e.rolls-Concat place es)) ∙ para-roll-Expr (Or_fault (Unit {0})) (drive_by_parts frames) (Expr-F.Concat place es) ∙ members (may_drive frames) es

pub drive-Repeat : (frames : Frames) (place : Place) (n : Expr) (es : List Expr) → may_drive frames (e.Repeat place n es) ≡ Ok tt
unfolding may_drive drive_by_parts
drive-Repeat frames place n es = ap (may_drive frames) (sym (e.rolls-Repeat place n es)) ∙ para-roll-Expr (Or_fault (Unit {0})) (drive_by_parts frames) (Expr-F.Repeat place n es)

pub drive-Unary : (frames : Frames) (place : Place) (op : Unary) (a : Expr) → may_drive frames (e.Unary place op a) ≡ Ok tt
unfolding may_drive drive_by_parts
drive-Unary frames place op a = ap (may_drive frames) (sym (e.rolls-Unary place op a)) ∙ para-roll-Expr (Or_fault (Unit {0})) (drive_by_parts frames) (Expr-F.Unary place op a)

pub drive-Binary : (frames : Frames) (place : Place) (op : Binary) (a b : Expr) → may_drive frames (e.Binary place op a b) ≡ Ok tt
unfolding may_drive drive_by_parts
drive-Binary frames place op a b = ap (may_drive frames) (sym (e.rolls-Binary place op a b)) ∙ para-roll-Expr (Or_fault (Unit {0})) (drive_by_parts frames) (Expr-F.Binary place op a b)

pub drive-Conditional : (frames : Frames) (place : Place) (test a b : Expr) → may_drive frames (e.Conditional place test a b) ≡ Ok tt
unfolding may_drive drive_by_parts
drive-Conditional frames place test a b = ap (may_drive frames) (sym (e.rolls-Conditional place test a b)) ∙ para-roll-Expr (Or_fault (Unit {0})) (drive_by_parts frames) (Expr-F.Conditional place test a b)

pub ruleset forms = (drive-Number, drive-Name, drive-Index, drive-Select, drive-Brackets, drive-Concat, drive-Repeat, drive-Unary, drive-Binary, drive-Conditional)
