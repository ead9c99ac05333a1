-- Which bits each form of target names, behind what is there.
use Rattle.std.proofs.Common.{◌≡◌, ℕ, List, [], ◌++◌, sym, ap, ◌∙◌}
use Rattle.std.specs.List.{flat_map}
use Rattle.std.proofs.lemmas.List.{append-nil}
use Rattle.rdc_outside.specs.declared.source.Place.{Place}
use Rattle.vlog_tree.specs.declared.expr.Expr.{Expr, Expr-F, para-roll-Expr}
use Rattle.vlog_tree.specs.declared.expr.Expr.TheVariants as e
use Rattle.vlog_tree.specs.declared.expr.Part.{Part}
use Rattle.vlog_tree.specs.declared.number.Number.{Number}
use Rattle.vlog_tree.specs.declared.operator.Unary.{Unary}
use Rattle.vlog_tree.specs.declared.operator.Binary.{Binary}
use Rattle.design_form.specs.declared.signal.Signal.{Signal}
use Rattle.elab_bits.specs.Selects.{all_bits, indexed, selected}
use Rattle.elab_bits.specs.Targets.{targets, targets_by_parts}
use Rattle.elab_bits.proofs.Rows.{seconds}

plain-Number : (ss : List Signal) (place : Place) (n : Number) → targets ss (e.Number place n) ≡ []
unfolding targets targets_by_parts
plain-Number ss place n = ap (targets ss) (sym (e.rolls-Number place n)) ∙ para-roll-Expr (List ℕ) (targets_by_parts ss) (Expr-F.Number place n)

pub behind-Number : (ss : List Signal) (xs : List ℕ) (place : Place) (n : Number) → xs ++ targets ss (e.Number place n) ≡ xs
behind-Number ss xs place n = ap (λ (r : (List ℕ)). xs ++ r) (plain-Number ss place n) ∙ append-nil xs

plain-Name : (ss : List Signal) (place : Place) (name : List ℕ) → targets ss (e.Name place name) ≡ all_bits ss name
unfolding targets targets_by_parts
plain-Name ss place name = ap (targets ss) (sym (e.rolls-Name place name)) ∙ para-roll-Expr (List ℕ) (targets_by_parts ss) (Expr-F.Name place name)

pub behind-Name : (ss : List Signal) (xs : List ℕ) (place : Place) (name : List ℕ) → xs ++ targets ss (e.Name place name) ≡ xs ++ all_bits ss name
behind-Name ss xs place name = ap (λ (r : (List ℕ)). xs ++ r) (plain-Name ss place name)

plain-Index : (ss : List Signal) (place : Place) (name : List ℕ) (i : Expr) → targets ss (e.Index place name i) ≡ indexed ss name i
unfolding targets targets_by_parts
plain-Index ss place name i = ap (targets ss) (sym (e.rolls-Index place name i)) ∙ para-roll-Expr (List ℕ) (targets_by_parts ss) (Expr-F.Index place name i)

pub behind-Index : (ss : List Signal) (xs : List ℕ) (place : Place) (name : List ℕ) (i : Expr) → xs ++ targets ss (e.Index place name i) ≡ xs ++ indexed ss name i
behind-Index ss xs place name i = ap (λ (r : (List ℕ)). xs ++ r) (plain-Index ss place name i)

plain-Select : (ss : List Signal) (how : Part) (place : Place) (name : List ℕ) (i j : Expr) → targets ss (e.Select how place name i j) ≡ selected ss how name i j
unfolding targets targets_by_parts
plain-Select ss how place name i j = ap (targets ss) (sym (e.rolls-Select how place name i j)) ∙ para-roll-Expr (List ℕ) (targets_by_parts ss) (Expr-F.Select how place name i j)

pub behind-Select : (ss : List Signal) (xs : List ℕ) (how : Part) (place : Place) (name : List ℕ) (i j : Expr) → xs ++ targets ss (e.Select how place name i j) ≡ xs ++ selected ss how name i j
behind-Select ss xs how place name i j = ap (λ (r : (List ℕ)). xs ++ r) (plain-Select ss how place name i j)

plain-Brackets : (ss : List Signal) (place : Place) (a : Expr) → targets ss (e.Brackets place a) ≡ []
unfolding targets targets_by_parts
plain-Brackets ss place a = ap (targets ss) (sym (e.rolls-Brackets place a)) ∙ para-roll-Expr (List ℕ) (targets_by_parts ss) (Expr-F.Brackets place a)

pub behind-Brackets : (ss : List Signal) (xs : List ℕ) (place : Place) (a : Expr) → xs ++ targets ss (e.Brackets place a) ≡ xs
behind-Brackets ss xs place a = ap (λ (r : (List ℕ)). xs ++ r) (plain-Brackets ss place a) ∙ append-nil xs

plain-Concat : (ss : List Signal) (place : Place) (es : List Expr) → targets ss (e.Concat place es) ≡ flat_map (targets ss) es
unfolding targets targets_by_parts
plain-Concat ss place es = ap (targets ss) (sym (e.rolls-Concat place es)) ∙ para-roll-Expr (List ℕ) (targets_by_parts ss) (Expr-F.Concat place es) ∙ seconds (targets ss) es

pub behind-Concat : (ss : List Signal) (xs : List ℕ) (place : Place) (es : List Expr) → xs ++ targets ss (e.Concat place es) ≡ xs ++ flat_map (targets ss) es
behind-Concat ss xs place es = ap (λ (r : (List ℕ)). xs ++ r) (plain-Concat ss place es)

plain-Repeat : (ss : List Signal) (place : Place) (n : Expr) (es : List Expr) → targets ss (e.Repeat place n es) ≡ []
unfolding targets targets_by_parts
plain-Repeat ss place n es = ap (targets ss) (sym (e.rolls-Repeat place n es)) ∙ para-roll-Expr (List ℕ) (targets_by_parts ss) (Expr-F.Repeat place n es)

pub behind-Repeat : (ss : List Signal) (xs : List ℕ) (place : Place) (n : Expr) (es : List Expr) → xs ++ targets ss (e.Repeat place n es) ≡ xs
behind-Repeat ss xs place n es = ap (λ (r : (List ℕ)). xs ++ r) (plain-Repeat ss place n es) ∙ append-nil xs

plain-Unary : (ss : List Signal) (place : Place) (op : Unary) (a : Expr) → targets ss (e.Unary place op a) ≡ []
unfolding targets targets_by_parts
plain-Unary ss place op a = ap (targets ss) (sym (e.rolls-Unary place op a)) ∙ para-roll-Expr (List ℕ) (targets_by_parts ss) (Expr-F.Unary place op a)

pub behind-Unary : (ss : List Signal) (xs : List ℕ) (place : Place) (op : Unary) (a : Expr) → xs ++ targets ss (e.Unary place op a) ≡ xs
behind-Unary ss xs place op a = ap (λ (r : (List ℕ)). xs ++ r) (plain-Unary ss place op a) ∙ append-nil xs

plain-Binary : (ss : List Signal) (place : Place) (op : Binary) (a b : Expr) → targets ss (e.Binary place op a b) ≡ []
unfolding targets targets_by_parts
plain-Binary ss place op a b = ap (targets ss) (sym (e.rolls-Binary place op a b)) ∙ para-roll-Expr (List ℕ) (targets_by_parts ss) (Expr-F.Binary place op a b)

pub behind-Binary : (ss : List Signal) (xs : List ℕ) (place : Place) (op : Binary) (a b : Expr) → xs ++ targets ss (e.Binary place op a b) ≡ xs
behind-Binary ss xs place op a b = ap (λ (r : (List ℕ)). xs ++ r) (plain-Binary ss place op a b) ∙ append-nil xs

plain-Conditional : (ss : List Signal) (place : Place) (test a b : Expr) → targets ss (e.Conditional place test a b) ≡ []
unfolding targets targets_by_parts
plain-Conditional ss place test a b = ap (targets ss) (sym (e.rolls-Conditional place test a b)) ∙ para-roll-Expr (List ℕ) (targets_by_parts ss) (Expr-F.Conditional place test a b)

pub behind-Conditional : (ss : List Signal) (xs : List ℕ) (place : Place) (test a b : Expr) → xs ++ targets ss (e.Conditional place test a b) ≡ xs
behind-Conditional ss xs place test a b = ap (λ (r : (List ℕ)). xs ++ r) (plain-Conditional ss place test a b) ∙ append-nil xs

-- each form of expression, for tactics
pub ruleset forms = (behind-Number, behind-Name, behind-Index, behind-Select, behind-Brackets, behind-Concat, behind-Repeat, behind-Unary, behind-Binary, behind-Conditional)
