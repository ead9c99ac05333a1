-- The depth of each form of expression.
use Rattle.std.proofs.Common.{◌≡◌, ℕ, ◌+◌, max, List, [], ◌∷◌, ◌++◌, map, refl, sym, ap, ◌∙◌, arith}
use Rattle.rdc_outside.specs.declared.source.Place.{Place}
use Rattle.vlog_tree.specs.declared.expr.Expr.{Expr, Expr-F, fold-Expr, fold-roll-Expr}
use Rattle.vlog_tree.specs.declared.expr.Expr.TheVariants.{Number, Name, Index, Select, Brackets, Concat, Repeat, Unary, Binary, Conditional, rolls-Number, rolls-Name, rolls-Index, rolls-Select, rolls-Brackets, rolls-Concat, rolls-Repeat, rolls-Unary, rolls-Binary, rolls-Conditional}
use Rattle.vlog_tree.specs.declared.expr.Part.{Part}
use Rattle.vlog_tree.specs.declared.number.Number as n
use Rattle.vlog_tree.specs.declared.operator.Unary as u
use Rattle.vlog_tree.specs.declared.operator.Binary as b
use Rattle.vlog_tree.specs.Depth.{depth, depth_by_parts, deepest, deepest_of}

pub depth-Number : (place : Place) (x : n.Number) → depth (Number place x) ≡ 1
unfolding depth depth_by_parts
depth-Number place x = ap depth (sym (rolls-Number place x)) ∙ fold-roll-Expr ℕ depth_by_parts (Expr-F.Number place x)

pub depth-Name : (place : Place) (called : List ℕ) → depth (Name place called) ≡ 1
unfolding depth depth_by_parts
depth-Name place called = ap depth (sym (rolls-Name place called)) ∙ fold-roll-Expr ℕ depth_by_parts (Expr-F.Name place called)

pub depth-Index : (place : Place) (called : List ℕ) (i : Expr) → depth (Index place called i) ≡ 1 + depth i
unfolding depth depth_by_parts
depth-Index place called i = ap depth (sym (rolls-Index place called i)) ∙ fold-roll-Expr ℕ depth_by_parts (Expr-F.Index place called i)

pub depth-Select : (place : Place) (called : List ℕ) (part : Part) (i j : Expr) → depth (Select part place called i j) ≡ 1 + max (depth i) (depth j)
unfolding depth depth_by_parts
depth-Select place called part i j = ap depth (sym (rolls-Select part place called i j)) ∙ fold-roll-Expr ℕ depth_by_parts (Expr-F.Select part place called i j)

pub depth-Brackets : (place : Place) (i : Expr) → depth (Brackets place i) ≡ 1 + depth i
unfolding depth depth_by_parts
depth-Brackets place i = ap depth (sym (rolls-Brackets place i)) ∙ fold-roll-Expr ℕ depth_by_parts (Expr-F.Brackets place i)

pub depth-Concat : (place : Place) (es : List Expr) → depth (Concat place es) ≡ 1 + deepest_of depth es
unfolding depth depth_by_parts
depth-Concat place es = ap depth (sym (rolls-Concat place es)) ∙ fold-roll-Expr ℕ depth_by_parts (Expr-F.Concat place es)

pub depth-Repeat : (place : Place) (c : Expr) (es : List Expr) → depth (Repeat place c es) ≡ 1 + max (depth c) (deepest_of depth es)
unfolding depth depth_by_parts
depth-Repeat place c es = ap depth (sym (rolls-Repeat place c es)) ∙ fold-roll-Expr ℕ depth_by_parts (Expr-F.Repeat place c es)

pub depth-Unary : (place : Place) (op : u.Unary) (e : Expr) → depth (Unary place op e) ≡ 1 + depth e
unfolding depth depth_by_parts
depth-Unary place op e = ap depth (sym (rolls-Unary place op e)) ∙ fold-roll-Expr ℕ depth_by_parts (Expr-F.Unary place op e)

pub depth-Binary : (place : Place) (op : b.Binary) (x y : Expr) → depth (Binary place op x y) ≡ 1 + max (depth x) (depth y)
unfolding depth depth_by_parts
depth-Binary place op x y = ap depth (sym (rolls-Binary place op x y)) ∙ fold-roll-Expr ℕ depth_by_parts (Expr-F.Binary place op x y)

pub depth-Conditional : (place : Place) (test x y : Expr) → depth (Conditional place test x y) ≡ 1 + max (depth test) (max (depth x) (depth y))
unfolding depth depth_by_parts
depth-Conditional place test x y = ap depth (sym (rolls-Conditional place test x y)) ∙ fold-roll-Expr ℕ depth_by_parts (Expr-F.Conditional place test x y)

-- of lists
pub deepest-nil : deepest_of depth [] ≡ 0
unfolding deepest
deepest-nil = refl

pub deepest-cons : (e : Expr) (es : List Expr) → deepest_of depth (e ∷ es) ≡ max (depth e) (deepest_of depth es)
unfolding deepest
deepest-cons e es = refl

pub deepest-one : (e : Expr) → deepest_of depth (e ∷ []) ≡ depth e
deepest-one e = let cons = deepest-cons e [] in let nil = deepest-nil in omega arith

pub deepest-append : (xs ys : List Expr) → deepest_of depth (xs ++ ys) ≡ max (deepest_of depth xs) (deepest_of depth ys)
unfolding deepest
deepest-append [] ys = omega arith
deepest-append (x ∷ xs) ys = let rest = deepest-append xs ys in omega arith

-- each form of expression, for tactics
pub ruleset depths = (depth-Number, depth-Name, depth-Index, depth-Select, depth-Brackets, depth-Concat, depth-Repeat, depth-Unary, depth-Binary, depth-Conditional, deepest-nil, deepest-cons, deepest-one, deepest-append)
