-- The parts of expressions and statements of a design, each with the width and the sign in which it stands (IEEE 1364-2005,
-- 5.4 and 5.5), in the order of reading, the whole before its parts.
--     Sized                            a part, and whether it is made of constants, and stands in an expression that is
--     shape_of d e                     the width and the sign of an expression by itself
--     has_name e                       whether a name stands in it
--     sized d c inside e               an expression and its parts, in a context
--     sized_alone, sized_within w      by itself, and as on the right of an assignment to w bits
--     sized_target d e                 what an assignment to e selects
--     case_shape d e labels            the width and the sign of a selector and all labels together
--     sized_statement d s              the parts of a statement; the header of a loop is none
use Rattle.std.specs.Prelude.{ℕ, Bool, false, true, not, ◌||◌, List, [], ◌∷◌, ◌++◌, Some, None}
use Rattle.std.specs.List.{flat_map, list_any}
use Rattle.vlog_tree.specs.declared.expr.Expr.{Expr, fold-Expr, para-Expr}
use Rattle.vlog_tree.specs.declared.expr.Expr.TheVariants as expr
use Rattle.vlog_tree.specs.declared.expr.Expr.TheOpen.{Expr-F}
use Rattle.vlog_tree.specs.declared.stmt.Arm.{Arm}
use Rattle.vlog_tree.specs.declared.stmt.Stmt.{Stmt, fold-Stmt}
use Rattle.vlog_tree.specs.declared.stmt.Stmt.TheOpen.{Stmt-F}
use Rattle.vlog_const.specs.declared.shape.Shape.{Shape}
use Rattle.vlog_const.specs.Widths.{common, unary_context, left_context, right_context, within}
use Rattle.design_form.specs.declared.parts.Parts.{Parts}
use Rattle.design_form.specs.State.{seen_in}
use Rattle.design_form.specs.Values.{valued}

-- a part of an expression
pub record Sized : Type 0 where
  pub expr : Expr
  pub shape : Shape
  pub constant : Bool
  pub inside : Bool

-- ---- expressions

-- its width and its sign by itself: no state makes a difference to them
abbrev pub shape_of : Parts → Expr → Shape
shape_of d e = (valued (seen_in d []) e).shape

-- whether a name stands in it
unfoldable pub named_by_parts : Expr-F Bool → Bool
named_by_parts (Expr-F.Number place n) = false
named_by_parts (Expr-F.Name place name) = true
named_by_parts (Expr-F.Index place name i) = true
named_by_parts (Expr-F.Select how place name i j) = true
named_by_parts (Expr-F.Brackets place a) = a
named_by_parts (Expr-F.Concat place members) = list_any (λ b. b) members
named_by_parts (Expr-F.Repeat place n members) = n || list_any (λ b. b) members
named_by_parts (Expr-F.Unary place op a) = a
named_by_parts (Expr-F.Binary place op a b) = a || b
named_by_parts (Expr-F.Conditional place test a b) = test || (a || b)

unfoldable pub has_name : Expr → Bool
has_name = fold-Expr Bool named_by_parts

-- what stands below an expression, in a context, and whether the expression stands in a constant one or is one
abbrev pub Below : Type 0
Below = Shape → Bool → List Sized

-- an expression, and what stands below it; what stands in a constant expression is constant
unfoldable pub whole : Expr × Below → Shape → Bool → List Sized
whole a c inside = record { expr = a.0; shape = c; constant = inside || not (has_name a.0); inside = inside } ∷ a.1 c (inside || not (has_name a.0))

abbrev pub alone : Parts → Bool → Expr × Below → List Sized
alone d inside a = whole a (shape_of d a.0) inside

unfoldable pub below_by_parts : Parts → Expr-F (Expr × Below) → Below
below_by_parts d (Expr-F.Number place n) c inside = []
below_by_parts d (Expr-F.Name place name) c inside = []
below_by_parts d (Expr-F.Index place name i) c inside = alone d inside i
below_by_parts d (Expr-F.Select how place name i j) c inside = alone d inside i ++ alone d inside j
below_by_parts d (Expr-F.Brackets place a) c inside = whole a c inside
below_by_parts d (Expr-F.Concat place members) c inside = flat_map (alone d inside) members
below_by_parts d (Expr-F.Repeat place n members) c inside = alone d inside n ++ flat_map (alone d inside) members
below_by_parts d (Expr-F.Unary place op a) c inside = whole a (unary_context op (shape_of d a.0) c) inside
below_by_parts d (Expr-F.Binary place op a b) c inside =
    whole a (left_context op (shape_of d a.0) (shape_of d b.0) c) inside ++ whole b (right_context op (shape_of d a.0) (shape_of d b.0) c) inside
below_by_parts d (Expr-F.Conditional place test a b) c inside = alone d inside test ++ (whole a c inside ++ whole b c inside)

unfoldable pub below : Parts → Expr → Below
below d = para-Expr Below (below_by_parts d)

-- an expression and its parts
unfoldable pub sized : Parts → Shape → Bool → Expr → List Sized
sized d c inside e = whole (e, below d e) c inside

abbrev pub sized_alone : Parts → Expr → List Sized
sized_alone d e = sized d (shape_of d e) false e

-- as on the right of an assignment to w bits
abbrev pub sized_within : Parts → ℕ → Expr → List Sized
sized_within d w e = sized d (within w (shape_of d e)) false e

-- ---- targets

-- what an assignment selects: an index or a part stands by itself, and a whole signal is no part
unfoldable pub target_by_parts : Parts → Expr-F (Expr × List Sized) → List Sized
target_by_parts d (Expr-F.Index place name i) = sized_alone d (expr.Index place name i.0)
target_by_parts d (Expr-F.Select how place name i j) = sized_alone d (expr.Select how place name i.0 j.0)
target_by_parts d (Expr-F.Concat place members) = flat_map (λ a. a.1) members
target_by_parts d _ = []

unfoldable pub sized_target : Parts → Expr → List Sized
sized_target d = para-Expr (List Sized) (target_by_parts d)

-- what is assigned to a target
abbrev pub sized_assignment : Parts → Expr → Expr → List Sized
sized_assignment d target value = sized_target d target ++ sized_within d (shape_of d target).width value

-- ---- statements

-- a selector and its labels together
unfoldable pub common_of : Parts → Shape → List Expr → Shape
common_of d c [] = c
common_of d c (e ∷ es) = common_of d (common c (shape_of d e)) es

abbrev pub case_shape : Parts → Expr → List Expr → Shape
case_shape d selector labels = common_of d (shape_of d selector) labels

abbrev pub arm_sized : Parts → Shape → Arm (List Sized) → List Sized
arm_sized d c a = flat_map (sized d c false) a.labels ++ a.body

unfoldable pub statement_by_parts : Parts → Stmt-F (List Sized) → List Sized
statement_by_parts d (Stmt-F.Empty place) = []
statement_by_parts d (Stmt-F.Block place label ss) = flat_map (λ s. s) ss
statement_by_parts d (Stmt-F.Assign place target by value) = sized_assignment d target value
statement_by_parts d (Stmt-F.If place test a None) = sized_alone d test ++ a
statement_by_parts d (Stmt-F.If place test a (Some b)) = sized_alone d test ++ (a ++ b)
statement_by_parts d (Stmt-F.Case place how selector arms) =
    sized d (case_shape d selector (flat_map (λ a. a.labels) arms)) false selector
    ++ flat_map (arm_sized d (case_shape d selector (flat_map (λ a. a.labels) arms))) arms
statement_by_parts d (Stmt-F.For place h body) = body

unfoldable pub sized_statement : Parts → Stmt → List Sized
sized_statement d = fold-Stmt (List Sized) (statement_by_parts d)
