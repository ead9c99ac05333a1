-- What each form of expression and statement of the first form is made of, and weighs.
use Rattle.std.proofs.Common.{◌≡◌, ℕ, Bool, true, false, not, ◌||◌, List, [], ◌∷◌, ◌++◌, Option, Some, None, refl, sym, ap, ◌∙◌}
use Rattle.rdc_outside.specs.declared.source.Place.{Place}
use Rattle.vlog_tree.specs.declared.expr.Expr.{Expr, fold-roll-Expr, para-roll-Expr}
use Rattle.vlog_tree.specs.declared.expr.Expr.TheOpen.{Expr-F}
use Rattle.vlog_tree.specs.declared.expr.Expr.TheVariants.{Name, Brackets, Unary, Binary, rolls-Name, rolls-Brackets, rolls-Unary, rolls-Binary}
use Rattle.vlog_tree.specs.declared.operator.Unary as u
use Rattle.vlog_tree.specs.declared.operator.Binary as b
use Rattle.vlog_tree.specs.declared.stmt.Assigns.{Assigns}
use Rattle.vlog_tree.specs.declared.stmt.Stmt.{Stmt, fold-roll-Stmt}
use Rattle.vlog_tree.specs.declared.stmt.Stmt.TheOpen.{Stmt-F}
use Rattle.vlog_tree.specs.declared.stmt.Stmt.TheVariants.{Assign, If, rolls-Assign, rolls-If}
use Rattle.vlog_const.specs.declared.shape.Shape.{Shape}
use Rattle.vlog_const.specs.Widths.{left_context, right_context, unary_context}
use Rattle.design_form.specs.declared.parts.Parts.{Parts}
use Rattle.design_sizes.specs.Sizes.{Sized, Below, has_name, named_by_parts, shape_of, whole, below, below_by_parts, sized, sized_alone, sized_assignment, sized_statement, statement_by_parts}
use Rattle.proc_loops.specs.Laws.{has_loop, has_loop_by_parts}
use Rattle.elab_weight.specs.PartWeights.{form_weight, weight_by_parts, unary_weight, binary_weight}

-- ---- names

pub named-Name : (place : Place) (name : List ℕ) → has_name (Name place name) ≡ true
unfolding has_name named_by_parts
named-Name place name = ap has_name (sym (rolls-Name place name)) ∙ fold-roll-Expr Bool named_by_parts (Expr-F.Name place name)

pub named-Brackets : (place : Place) (a : Expr) → has_name (Brackets place a) ≡ has_name a
unfolding has_name named_by_parts
named-Brackets place a = ap has_name (sym (rolls-Brackets place a)) ∙ fold-roll-Expr Bool named_by_parts (Expr-F.Brackets place a)

pub named-Unary : (place : Place) (op : u.Unary) (a : Expr) → has_name (Unary place op a) ≡ has_name a
unfolding has_name named_by_parts
named-Unary place op a = ap has_name (sym (rolls-Unary place op a)) ∙ fold-roll-Expr Bool named_by_parts (Expr-F.Unary place op a)

pub named-Binary : (place : Place) (op : b.Binary) (x y : Expr) → has_name (Binary place op x y) ≡ has_name x || has_name y
unfolding has_name named_by_parts
named-Binary place op x y = ap has_name (sym (rolls-Binary place op x y)) ∙ fold-roll-Expr Bool named_by_parts (Expr-F.Binary place op x y)

-- ---- parts

pub sized-form : (d : Parts) (c : Shape) (inside : Bool) (e : Expr) → sized d c inside e ≡ record { expr = e; shape = c; constant = inside || not (has_name e); inside = inside } ∷ below d e c (inside || not (has_name e))
unfolding sized whole
sized-form d c inside e = refl

pub below-Name : (d : Parts) (place : Place) (name : List ℕ) (c : Shape) (inside : Bool) → below d (Name place name) c inside ≡ []
unfolding below below_by_parts sized
below-Name d place name c inside =
    ap (λ e. below d e c inside) (sym (rolls-Name place name)) ∙ ap (λ (f : Below). f c inside) (para-roll-Expr Below (below_by_parts d) (Expr-F.Name place name))

pub below-Brackets : (d : Parts) (place : Place) (a : Expr) (c : Shape) (inside : Bool) → below d (Brackets place a) c inside ≡ sized d c inside a
unfolding below below_by_parts sized
below-Brackets d place a c inside =
    ap (λ e. below d e c inside) (sym (rolls-Brackets place a)) ∙ ap (λ (f : Below). f c inside) (para-roll-Expr Below (below_by_parts d) (Expr-F.Brackets place a))

pub below-Unary : (d : Parts) (place : Place) (op : u.Unary) (a : Expr) (c : Shape) (inside : Bool) → below d (Unary place op a) c inside ≡ sized d (unary_context op (shape_of d a) c) inside a
unfolding below below_by_parts sized
below-Unary d place op a c inside =
    ap (λ e. below d e c inside) (sym (rolls-Unary place op a)) ∙ ap (λ (f : Below). f c inside) (para-roll-Expr Below (below_by_parts d) (Expr-F.Unary place op a))

pub below-Binary : (d : Parts) (place : Place) (op : b.Binary) (x y : Expr) (c : Shape) (inside : Bool) → below d (Binary place op x y) c inside ≡ sized d (left_context op (shape_of d x) (shape_of d y) c) inside x ++ sized d (right_context op (shape_of d x) (shape_of d y) c) inside y
unfolding below below_by_parts sized
below-Binary d place op x y c inside =
    ap (λ e. below d e c inside) (sym (rolls-Binary place op x y)) ∙ ap (λ (f : Below). f c inside) (para-roll-Expr Below (below_by_parts d) (Expr-F.Binary place op x y))

pub parts-Assign : (d : Parts) (place : Place) (target : Expr) (by : Assigns) (value : Expr) → sized_statement d (Assign place target by value) ≡ sized_assignment d target value
unfolding sized_statement statement_by_parts
parts-Assign d place target by value = ap (sized_statement d) (sym (rolls-Assign place target by value)) ∙ fold-roll-Stmt (List Sized) (statement_by_parts d) (Stmt-F.Assign place target by value)

pub parts-If-Some : (d : Parts) (place : Place) (test : Expr) (a b : Stmt) → sized_statement d (If place test a (Some b)) ≡ sized_alone d test ++ (sized_statement d a ++ sized_statement d b)
unfolding sized_statement statement_by_parts
parts-If-Some d place test a b = ap (sized_statement d) (sym (rolls-If place test a (Some b))) ∙ fold-roll-Stmt (List Sized) (statement_by_parts d) (Stmt-F.If place test a (Some b))

pub loop-Assign : (place : Place) (target : Expr) (by : Assigns) (value : Expr) → has_loop (Assign place target by value) ≡ false
unfolding has_loop has_loop_by_parts
loop-Assign place target by value = ap has_loop (sym (rolls-Assign place target by value)) ∙ fold-roll-Stmt Bool has_loop_by_parts (Stmt-F.Assign place target by value)

-- ---- weights

pub weight-Name : (d : Parts) (own w : ℕ) (place : Place) (name : List ℕ) → form_weight d own w (Name place name) ≡ w
unfolding form_weight weight_by_parts
weight-Name d own w place name = ap (form_weight d own w) (sym (rolls-Name place name)) ∙ para-roll-Expr ℕ (weight_by_parts d own w) (Expr-F.Name place name)

pub weight-Brackets : (d : Parts) (own w : ℕ) (place : Place) (a : Expr) → form_weight d own w (Brackets place a) ≡ w
unfolding form_weight weight_by_parts
weight-Brackets d own w place a = ap (form_weight d own w) (sym (rolls-Brackets place a)) ∙ para-roll-Expr ℕ (weight_by_parts d own w) (Expr-F.Brackets place a)

pub weight-Unary : (d : Parts) (own w : ℕ) (place : Place) (op : u.Unary) (a : Expr) → form_weight d own w (Unary place op a) ≡ unary_weight op w
unfolding form_weight weight_by_parts
weight-Unary d own w place op a = ap (form_weight d own w) (sym (rolls-Unary place op a)) ∙ para-roll-Expr ℕ (weight_by_parts d own w) (Expr-F.Unary place op a)

pub weight-Binary : (d : Parts) (own w : ℕ) (place : Place) (op : b.Binary) (x y : Expr) → form_weight d own w (Binary place op x y) ≡ binary_weight op w (shape_of d y).width
unfolding form_weight weight_by_parts
weight-Binary d own w place op x y = ap (form_weight d own w) (sym (rolls-Binary place op x y)) ∙ para-roll-Expr ℕ (weight_by_parts d own w) (Expr-F.Binary place op x y)
