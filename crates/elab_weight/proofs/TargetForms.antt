-- What each form of expression assigns.
use Rattle.std.proofs.Common.{◌≡◌, ℕ, List, [], refl, sym, ap, ◌∙◌}
use Rattle.std.specs.List.{flat_map}
use Rattle.rdc_outside.specs.declared.source.Place.{Place}
use Rattle.vlog_tree.specs.declared.expr.Expr.{Expr, para-roll-Expr}
use Rattle.vlog_tree.specs.declared.expr.Expr.TheOpen.{Expr-F}
use Rattle.vlog_tree.specs.declared.expr.Expr.TheVariants.{Number, Name, Index, Select, Brackets, Concat, Repeat, Unary, Binary, Conditional, rolls-Number, rolls-Name, rolls-Index, rolls-Select, rolls-Brackets, rolls-Concat, rolls-Repeat, rolls-Unary, rolls-Binary, rolls-Conditional}
use Rattle.vlog_tree.specs.declared.expr.Part.{Part}
use Rattle.vlog_tree.specs.declared.number.Number as n
use Rattle.vlog_tree.specs.declared.operator.Unary as u
use Rattle.vlog_tree.specs.declared.operator.Binary as b
use Rattle.design_form.specs.declared.parts.Parts.{Parts}
use Rattle.elab_weight.specs.TargetBits.{target_bits, bits_by_parts, all_of, row, index_bits, select_bits}
use Rattle.elab_weight.proofs.Flat.{flat_map-map}

pub target-Number : (d : Parts) (place : Place) (x : n.Number) → target_bits d (Number place x) ≡ []
unfolding target_bits bits_by_parts
target-Number d place x = ap (target_bits d) (sym (rolls-Number place x)) ∙ para-roll-Expr (List ℕ) (bits_by_parts d) (Expr-F.Number place x)

pub target-Name : (d : Parts) (place : Place) (name : List ℕ) → target_bits d (Name place name) ≡ all_of (row d name)
unfolding target_bits bits_by_parts
target-Name d place name = ap (target_bits d) (sym (rolls-Name place name)) ∙ para-roll-Expr (List ℕ) (bits_by_parts d) (Expr-F.Name place name)

pub target-Index : (d : Parts) (place : Place) (name : List ℕ) (i : Expr) → target_bits d (Index place name i) ≡ index_bits d name i
unfolding target_bits bits_by_parts
target-Index d place name i = ap (target_bits d) (sym (rolls-Index place name i)) ∙ para-roll-Expr (List ℕ) (bits_by_parts d) (Expr-F.Index place name i)

pub target-Select : (d : Parts) (how : Part) (place : Place) (name : List ℕ) (i j : Expr) → target_bits d (Select how place name i j) ≡ select_bits d how name i j
unfolding target_bits bits_by_parts
target-Select d how place name i j = ap (target_bits d) (sym (rolls-Select how place name i j)) ∙ para-roll-Expr (List ℕ) (bits_by_parts d) (Expr-F.Select how place name i j)

pub target-Brackets : (d : Parts) (place : Place) (a : Expr) → target_bits d (Brackets place a) ≡ []
unfolding target_bits bits_by_parts
target-Brackets d place a = ap (target_bits d) (sym (rolls-Brackets place a)) ∙ para-roll-Expr (List ℕ) (bits_by_parts d) (Expr-F.Brackets place a)

pub target-Concat : (d : Parts) (place : Place) (es : List Expr) → target_bits d (Concat place es) ≡ flat_map (target_bits d) es
unfolding target_bits bits_by_parts
target-Concat d place es = ap (target_bits d) (sym (rolls-Concat place es)) ∙ para-roll-Expr (List ℕ) (bits_by_parts d) (Expr-F.Concat place es) ∙ flat_map-map (λ a. a.1) (λ e. (e, target_bits d e)) (target_bits d) (λ e. refl) es

pub target-Repeat : (d : Parts) (place : Place) (k : Expr) (es : List Expr) → target_bits d (Repeat place k es) ≡ []
unfolding target_bits bits_by_parts
target-Repeat d place k es = ap (target_bits d) (sym (rolls-Repeat place k es)) ∙ para-roll-Expr (List ℕ) (bits_by_parts d) (Expr-F.Repeat place k es)

pub target-Unary : (d : Parts) (place : Place) (op : u.Unary) (a : Expr) → target_bits d (Unary place op a) ≡ []
unfolding target_bits bits_by_parts
target-Unary d place op a = ap (target_bits d) (sym (rolls-Unary place op a)) ∙ para-roll-Expr (List ℕ) (bits_by_parts d) (Expr-F.Unary place op a)

pub target-Binary : (d : Parts) (place : Place) (op : b.Binary) (x y : Expr) → target_bits d (Binary place op x y) ≡ []
unfolding target_bits bits_by_parts
target-Binary d place op x y = ap (target_bits d) (sym (rolls-Binary place op x y)) ∙ para-roll-Expr (List ℕ) (bits_by_parts d) (Expr-F.Binary place op x y)

pub target-Conditional : (d : Parts) (place : Place) (test x y : Expr) → target_bits d (Conditional place test x y) ≡ []
unfolding target_bits bits_by_parts
target-Conditional d place test x y = ap (target_bits d) (sym (rolls-Conditional place test x y)) ∙ para-roll-Expr (List ℕ) (bits_by_parts d) (Expr-F.Conditional place test x y)

-- each form of expression, for tactics
pub ruleset forms = (target-Number, target-Name, target-Index, target-Select, target-Brackets, target-Concat, target-Repeat, target-Unary, target-Binary, target-Conditional)
