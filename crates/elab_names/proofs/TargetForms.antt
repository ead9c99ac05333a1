-- What each form of expression is as a target in a scope.
use Rattle.std.proofs.Common.{◌≡◌, ℕ, List, map, Ok, Err, sym, ap, ◌∙◌}
use Rattle.rdc_outside.specs.declared.source.Place.{Place}
use Rattle.vlog_tree.specs.declared.expr.Expr.{Expr, para-roll-Expr}
use Rattle.vlog_tree.specs.declared.expr.Expr.TheOpen.{Expr-F}
use Rattle.vlog_tree.specs.declared.expr.Expr.TheVariants.{Number, Name, Index, Select, Brackets, Concat, Repeat, Unary, Binary, Conditional, rolls-Number, rolls-Name, rolls-Index, rolls-Select, rolls-Brackets, rolls-Concat, rolls-Repeat, rolls-Unary, rolls-Binary, rolls-Conditional}
use Rattle.vlog_tree.specs.declared.expr.Part.{Part}
use Rattle.vlog_tree.specs.declared.number.Number as n
use Rattle.vlog_tree.specs.declared.operator.Unary as u
use Rattle.vlog_tree.specs.declared.operator.Binary as b
use Rattle.elab_names.specs.Answers.{Or_fault, and_then, gathered}
use Rattle.elab_names.specs.Meanings.{Frames}
use Rattle.elab_names.specs.Expressions.{put_in}
use Rattle.elab_names.specs.Targets.{printed, target_in, target_by_parts}
use Rattle.elab_names.specs.declared.fault.ElabFault.TheVariants.{NotAssignable}
use Rattle.design_form.proofs.ValueLemmas.{firsts}

pub target-Number : (frames : Frames) (place : Place) (x : n.Number) → target_in frames (Number place x) ≡ Err (NotAssignable place)
unfolding target_in target_by_parts
target-Number frames place x = ap (target_in frames) (sym (rolls-Number place x)) ∙ para-roll-Expr (Or_fault Expr) (target_by_parts frames) (Expr-F.Number place x)

pub target-Name : (frames : Frames) (place : Place) (name : List ℕ) → target_in frames (Name place name) ≡ and_then (printed frames place name) (λ m. Ok (Name place m))
unfolding target_in target_by_parts
target-Name frames place name = ap (target_in frames) (sym (rolls-Name place name)) ∙ para-roll-Expr (Or_fault Expr) (target_by_parts frames) (Expr-F.Name place name)

pub target-Index : (frames : Frames) (place : Place) (name : List ℕ) (i : Expr) → target_in frames (Index place name i) ≡ and_then (printed frames place name) (λ m. and_then (put_in frames i) (λ a. Ok (Index place m a)))
unfolding target_in target_by_parts
target-Index frames place name i = ap (target_in frames) (sym (rolls-Index place name i)) ∙ para-roll-Expr (Or_fault Expr) (target_by_parts frames) (Expr-F.Index place name i)

pub target-Select : (frames : Frames) (how : Part) (place : Place) (name : List ℕ) (i j : Expr) → target_in frames (Select how place name i j) ≡ and_then (printed frames place name) (λ m. and_then (put_in frames i) (λ a. and_then (put_in frames j) (λ c. Ok (Select how place m a c))))
unfolding target_in target_by_parts
target-Select frames how place name i j = ap (target_in frames) (sym (rolls-Select how place name i j)) ∙ para-roll-Expr (Or_fault Expr) (target_by_parts frames) (Expr-F.Select how place name i j)

pub target-Brackets : (frames : Frames) (place : Place) (a : Expr) → target_in frames (Brackets place a) ≡ Err (NotAssignable place)
unfolding target_in target_by_parts
target-Brackets frames place a = ap (target_in frames) (sym (rolls-Brackets place a)) ∙ para-roll-Expr (Or_fault Expr) (target_by_parts frames) (Expr-F.Brackets place a)

pub target-Concat : (frames : Frames) (place : Place) (es : List Expr) → target_in frames (Concat place es) ≡ and_then (gathered (map (target_in frames) es)) (λ xs. Ok (Concat place xs))
unfolding target_in target_by_parts
target-Concat frames place es = ap (target_in frames) (sym (rolls-Concat place es)) ∙ para-roll-Expr (Or_fault Expr) (target_by_parts frames) (Expr-F.Concat place es) ∙ ap (λ rs. and_then (gathered rs) (λ xs. Ok (Concat place xs))) (firsts (target_in frames) es)

pub target-Repeat : (frames : Frames) (place : Place) (k : Expr) (es : List Expr) → target_in frames (Repeat place k es) ≡ Err (NotAssignable place)
unfolding target_in target_by_parts
target-Repeat frames place k es = ap (target_in frames) (sym (rolls-Repeat place k es)) ∙ para-roll-Expr (Or_fault Expr) (target_by_parts frames) (Expr-F.Repeat place k es)

pub target-Unary : (frames : Frames) (place : Place) (op : u.Unary) (a : Expr) → target_in frames (Unary place op a) ≡ Err (NotAssignable place)
unfolding target_in target_by_parts
target-Unary frames place op a = ap (target_in frames) (sym (rolls-Unary place op a)) ∙ para-roll-Expr (Or_fault Expr) (target_by_parts frames) (Expr-F.Unary place op a)

pub target-Binary : (frames : Frames) (place : Place) (op : b.Binary) (x y : Expr) → target_in frames (Binary place op x y) ≡ Err (NotAssignable place)
unfolding target_in target_by_parts
target-Binary frames place op x y = ap (target_in frames) (sym (rolls-Binary place op x y)) ∙ para-roll-Expr (Or_fault Expr) (target_by_parts frames) (Expr-F.Binary place op x y)

pub target-Conditional : (frames : Frames) (place : Place) (test x y : Expr) → target_in frames (Conditional place test x y) ≡ Err (NotAssignable place)
unfolding target_in target_by_parts
target-Conditional frames place test x y = ap (target_in frames) (sym (rolls-Conditional place test x y)) ∙ para-roll-Expr (Or_fault Expr) (target_by_parts frames) (Expr-F.Conditional place test x y)

-- each form of expression, for tactics
pub ruleset forms = (target-Number, target-Name, target-Index, target-Select, target-Brackets, target-Concat, target-Repeat, target-Unary, target-Binary, target-Conditional)
