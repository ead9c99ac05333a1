-- Whether each form of expression holds a name.
use Rattle.std.proofs.Common.{◌≡◌, ℕ, Bool, true, false, ◌||◌, List, [], ◌∷◌, map, refl, sym, ap, ◌∙◌}
use Rattle.std.specs.List.{list_any}
use Rattle.rdc_outside.specs.declared.source.Place.{Place}
use Rattle.vlog_tree.specs.declared.expr.Expr.{Expr, fold-roll-Expr}
use Rattle.vlog_tree.specs.declared.expr.Expr.TheOpen.{Expr-F}
use Rattle.vlog_tree.specs.declared.expr.Expr.TheVariants.{Number, Name, Index, Select, Brackets, Concat, Repeat, Unary, Binary, Conditional, rolls-Number, rolls-Name, rolls-Index, rolls-Select, rolls-Brackets, rolls-Concat, rolls-Repeat, rolls-Unary, rolls-Binary, rolls-Conditional}
use Rattle.vlog_tree.specs.declared.expr.Part.{Part}
use Rattle.vlog_tree.specs.declared.number.Number as n
use Rattle.vlog_tree.specs.declared.operator.Unary as u
use Rattle.vlog_tree.specs.declared.operator.Binary as b
use Rattle.elab_names.specs.Selects.{holds_name, holds_by_parts}

any-map : {A : Type 0} (f : A → Bool) (xs : List A) → list_any (λ b. b) (map f xs) ≡ list_any f xs
any-map f [] = refl
any-map f (x ∷ xs) = ap (λ (b : Bool). f x || b) (any-map f xs)

pub holds-Number : (place : Place) (x : n.Number) → holds_name (Number place x) ≡ false
unfolding holds_name holds_by_parts
holds-Number place x = ap holds_name (sym (rolls-Number place x)) ∙ fold-roll-Expr Bool holds_by_parts (Expr-F.Number place x)

pub holds-Name : (place : Place) (name : List ℕ) → holds_name (Name place name) ≡ true
unfolding holds_name holds_by_parts
holds-Name place name = ap holds_name (sym (rolls-Name place name)) ∙ fold-roll-Expr Bool holds_by_parts (Expr-F.Name place name)

pub holds-Index : (place : Place) (name : List ℕ) (i : Expr) → holds_name (Index place name i) ≡ true
unfolding holds_name holds_by_parts
holds-Index place name i = ap holds_name (sym (rolls-Index place name i)) ∙ fold-roll-Expr Bool holds_by_parts (Expr-F.Index place name i)

pub holds-Select : (how : Part) (place : Place) (name : List ℕ) (i j : Expr) → holds_name (Select how place name i j) ≡ true
unfolding holds_name holds_by_parts
holds-Select how place name i j = ap holds_name (sym (rolls-Select how place name i j)) ∙ fold-roll-Expr Bool holds_by_parts (Expr-F.Select how place name i j)

pub holds-Brackets : (place : Place) (a : Expr) → holds_name (Brackets place a) ≡ holds_name a
unfolding holds_name holds_by_parts
holds-Brackets place a = ap holds_name (sym (rolls-Brackets place a)) ∙ fold-roll-Expr Bool holds_by_parts (Expr-F.Brackets place a)

pub holds-Concat : (place : Place) (es : List Expr) → holds_name (Concat place es) ≡ list_any holds_name es
unfolding holds_name holds_by_parts
holds-Concat place es = ap holds_name (sym (rolls-Concat place es)) ∙ fold-roll-Expr Bool holds_by_parts (Expr-F.Concat place es) ∙ any-map holds_name es

pub holds-Repeat : (place : Place) (k : Expr) (es : List Expr) → holds_name (Repeat place k es) ≡ holds_name k || list_any holds_name es
unfolding holds_name holds_by_parts
holds-Repeat place k es = ap holds_name (sym (rolls-Repeat place k es)) ∙ fold-roll-Expr Bool holds_by_parts (Expr-F.Repeat place k es) ∙ ap (λ (b : Bool). holds_name k || b) (any-map holds_name es)

pub holds-Unary : (place : Place) (op : u.Unary) (a : Expr) → holds_name (Unary place op a) ≡ holds_name a
unfolding holds_name holds_by_parts
holds-Unary place op a = ap holds_name (sym (rolls-Unary place op a)) ∙ fold-roll-Expr Bool holds_by_parts (Expr-F.Unary place op a)

pub holds-Binary : (place : Place) (op : b.Binary) (x y : Expr) → holds_name (Binary place op x y) ≡ holds_name x || holds_name y
unfolding holds_name holds_by_parts
holds-Binary place op x y = ap holds_name (sym (rolls-Binary place op x y)) ∙ fold-roll-Expr Bool holds_by_parts (Expr-F.Binary place op x y)

pub holds-Conditional : (place : Place) (test x y : Expr) → holds_name (Conditional place test x y) ≡ holds_name test || (holds_name x || holds_name y)
unfolding holds_name holds_by_parts
holds-Conditional place test x y = ap holds_name (sym (rolls-Conditional place test x y)) ∙ fold-roll-Expr Bool holds_by_parts (Expr-F.Conditional place test x y)

-- each form of expression, for tactics
pub ruleset holds = (holds-Number, holds-Name, holds-Index, holds-Select, holds-Brackets, holds-Concat, holds-Repeat, holds-Unary, holds-Binary, holds-Conditional)
