-- What each form of expression weighs.
use Rattle.std.proofs.Common.{◌≡◌, ℕ, ◌*◌, if◌then◌else◌, List, sym, ap, ◌∙◌}
use Rattle.rdc_outside.specs.declared.source.Place.{Place}
use Rattle.vlog_tree.specs.declared.expr.Expr.{Expr, para-roll-Expr}
use Rattle.vlog_tree.specs.declared.expr.Expr.TheOpen.{Expr-F}
use Rattle.vlog_tree.specs.declared.expr.Expr.TheVariants.{Number, Name, Index, Select, Brackets, Concat, Repeat, Unary, Binary, Conditional, rolls-Number, rolls-Name, rolls-Index, rolls-Select, rolls-Brackets, rolls-Concat, rolls-Repeat, rolls-Unary, rolls-Binary, rolls-Conditional}
use Rattle.vlog_tree.specs.declared.expr.Part.{Part}
use Rattle.vlog_tree.specs.declared.number.Number as n
use Rattle.vlog_tree.specs.declared.operator.Unary as u
use Rattle.vlog_tree.specs.declared.operator.Binary as b
use Rattle.design_form.specs.declared.parts.Parts.{Parts}
use Rattle.design_sizes.specs.Sizes.{has_name, shape_of}
use Rattle.elab_weight.specs.PartWeights.{form_weight, weight_by_parts, select_weight, range_weight, unary_weight, binary_weight}

pub weight-Number : (d : Parts) (own w : ℕ) (place : Place) (x : n.Number) → form_weight d own w (Number place x) ≡ w
unfolding form_weight weight_by_parts
weight-Number d own w place x = ap (form_weight d own w) (sym (rolls-Number place x)) ∙ para-roll-Expr ℕ (weight_by_parts d own w) (Expr-F.Number place x)

pub weight-Name : (d : Parts) (own w : ℕ) (place : Place) (name : List ℕ) → form_weight d own w (Name place name) ≡ w
unfolding form_weight weight_by_parts
weight-Name d own w place name = ap (form_weight d own w) (sym (rolls-Name place name)) ∙ para-roll-Expr ℕ (weight_by_parts d own w) (Expr-F.Name place name)

pub weight-Index : (d : Parts) (own w : ℕ) (place : Place) (name : List ℕ) (i : Expr) → form_weight d own w (Index place name i) ≡ (if has_name i then select_weight d own name i else w)
unfolding form_weight weight_by_parts
weight-Index d own w place name i = ap (form_weight d own w) (sym (rolls-Index place name i)) ∙ para-roll-Expr ℕ (weight_by_parts d own w) (Expr-F.Index place name i)

pub weight-Select : (d : Parts) (own w : ℕ) (how : Part) (place : Place) (name : List ℕ) (i j : Expr) → form_weight d own w (Select how place name i j) ≡ range_weight d how own w name i
unfolding form_weight weight_by_parts
weight-Select d own w how place name i j = ap (form_weight d own w) (sym (rolls-Select how place name i j)) ∙ para-roll-Expr ℕ (weight_by_parts d own w) (Expr-F.Select how place name i j)

pub weight-Brackets : (d : Parts) (own w : ℕ) (place : Place) (a : Expr) → form_weight d own w (Brackets place a) ≡ w
unfolding form_weight weight_by_parts
weight-Brackets d own w place a = ap (form_weight d own w) (sym (rolls-Brackets place a)) ∙ para-roll-Expr ℕ (weight_by_parts d own w) (Expr-F.Brackets place a)

pub weight-Concat : (d : Parts) (own w : ℕ) (place : Place) (es : List Expr) → form_weight d own w (Concat place es) ≡ w
unfolding form_weight weight_by_parts
weight-Concat d own w place es = ap (form_weight d own w) (sym (rolls-Concat place es)) ∙ para-roll-Expr ℕ (weight_by_parts d own w) (Expr-F.Concat place es)

pub weight-Repeat : (d : Parts) (own w : ℕ) (place : Place) (k : Expr) (es : List Expr) → form_weight d own w (Repeat place k es) ≡ w
unfolding form_weight weight_by_parts
weight-Repeat d own w place k es = ap (form_weight d own w) (sym (rolls-Repeat place k es)) ∙ para-roll-Expr ℕ (weight_by_parts d own w) (Expr-F.Repeat place k es)

pub weight-Unary : (d : Parts) (own w : ℕ) (place : Place) (op : u.Unary) (a : Expr) → form_weight d own w (Unary place op a) ≡ unary_weight op w
unfolding form_weight weight_by_parts
weight-Unary d own w place op a = ap (form_weight d own w) (sym (rolls-Unary place op a)) ∙ para-roll-Expr ℕ (weight_by_parts d own w) (Expr-F.Unary place op a)

pub weight-Binary : (d : Parts) (own w : ℕ) (place : Place) (op : b.Binary) (x y : Expr) → form_weight d own w (Binary place op x y) ≡ binary_weight op w (shape_of d y).width
unfolding form_weight weight_by_parts
weight-Binary d own w place op x y = ap (form_weight d own w) (sym (rolls-Binary place op x y)) ∙ para-roll-Expr ℕ (weight_by_parts d own w) (Expr-F.Binary place op x y)

pub weight-Conditional : (d : Parts) (own w : ℕ) (place : Place) (test x y : Expr) → form_weight d own w (Conditional place test x y) ≡ 4 * w
unfolding form_weight weight_by_parts
weight-Conditional d own w place test x y = ap (form_weight d own w) (sym (rolls-Conditional place test x y)) ∙ para-roll-Expr ℕ (weight_by_parts d own w) (Expr-F.Conditional place test x y)

-- each form of expression, for tactics
pub ruleset forms = (weight-Number, weight-Name, weight-Index, weight-Select, weight-Brackets, weight-Concat, weight-Repeat, weight-Unary, weight-Binary, weight-Conditional)
