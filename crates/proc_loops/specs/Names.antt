-- Names in expressions, and what a statement assigns.
--     first_name test e      where the first name stands that passes a test, in the order of reading
--     is_target name e       whether an assignment to e is one to the name
--     assigns name s         whether a statement assigns the name, as a target or in the header of a loop
use Rattle.std.specs.Prelude.{ℕ, Bool, false, ◌||◌, if◌then◌else◌, List, [], ◌∷◌, Option, Some, None}
use Rattle.std.specs.List.{list_any}
use Rattle.std.specs.Str.{bytes_eq}
use Rattle.rdc_outside.specs.declared.source.Place.{Place}
use Rattle.vlog_tree.specs.declared.expr.Expr.{Expr, fold-Expr}
use Rattle.vlog_tree.specs.declared.expr.Expr.TheOpen.{Expr-F}
use Rattle.vlog_tree.specs.declared.stmt.Loop.{Loop}
use Rattle.vlog_tree.specs.declared.stmt.Stmt.{Stmt, fold-Stmt}
use Rattle.vlog_tree.specs.declared.stmt.Stmt.TheOpen.{Stmt-F}

-- the first place of two, and of some
abbrev pub sooner : Option Place → Option Place → Option Place
sooner None q = q
sooner (Some place) q = Some place

unfoldable pub first_among : List (Option Place) → Option Place
first_among [] = None
first_among (p ∷ ps) = sooner p (first_among ps)

-- the place of a name that passes a test
abbrev pub if_passing : (List ℕ → Bool) → Place → List ℕ → Option Place
if_passing test place name = if test name then Some place else None

-- where the first such name stands in an expression, by its parts
unfoldable pub first_by_parts : (List ℕ → Bool) → Expr-F (Option Place) → Option Place
first_by_parts test (Expr-F.Number place n) = None
first_by_parts test (Expr-F.Name place name) = if_passing test place name
first_by_parts test (Expr-F.Index place name i) = sooner (if_passing test place name) i
first_by_parts test (Expr-F.Select how place name i j) = sooner (if_passing test place name) (sooner i j)
first_by_parts test (Expr-F.Brackets place a) = a
first_by_parts test (Expr-F.Concat place members) = first_among members
first_by_parts test (Expr-F.Repeat place n members) = sooner n (first_among members)
first_by_parts test (Expr-F.Unary place op a) = a
first_by_parts test (Expr-F.Binary place op a b) = sooner a b
first_by_parts test (Expr-F.Conditional place t a b) = sooner t (sooner a b)

unfoldable pub first_name : (List ℕ → Bool) → Expr → Option Place
first_name test = fold-Expr (Option Place) (first_by_parts test)

-- whether a target is of a name, by its parts
unfoldable pub target_by_parts : List ℕ → Expr-F Bool → Bool
target_by_parts name (Expr-F.Name place other) = bytes_eq name other
target_by_parts name (Expr-F.Index place other i) = bytes_eq name other
target_by_parts name (Expr-F.Select how place other i j) = bytes_eq name other
target_by_parts name (Expr-F.Concat place members) = list_any (λ b. b) members
target_by_parts name _ = false

unfoldable pub is_target : List ℕ → Expr → Bool
is_target name = fold-Expr Bool (target_by_parts name)

abbrev pub is_if : Option Bool → Bool
is_if None = false
is_if (Some b) = b

-- a loop assigns its variable, and what it steps
abbrev pub is_changed : List ℕ → Loop → Bool
is_changed name h = bytes_eq name h.variable.name || bytes_eq name h.stepped.name

-- whether a statement assigns a name, by its parts
unfoldable pub assigns_by_parts : List ℕ → Stmt-F Bool → Bool
assigns_by_parts name (Stmt-F.Empty place) = false
assigns_by_parts name (Stmt-F.Block place label ss) = list_any (λ b. b) ss
assigns_by_parts name (Stmt-F.Assign place target by value) = is_target name target
assigns_by_parts name (Stmt-F.If place test a b) = a || is_if b
assigns_by_parts name (Stmt-F.Case place how selector arms) = list_any (λ a. a.body) arms
assigns_by_parts name (Stmt-F.For place h body) = is_changed name h || body

unfoldable pub assigns : List ℕ → Stmt → Bool
assigns name = fold-Stmt Bool (assigns_by_parts name)
