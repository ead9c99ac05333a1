-- What each form of expression reads, behind what is there.
use Rattle.std.proofs.Common.{◌≡◌, ℕ, List, [], ◌++◌, sym, ap, ◌∙◌}
use Rattle.std.specs.List.{flat_map}
use Rattle.std.proofs.lemmas.List.{append-nil, append_assoc}
use Rattle.rdc_outside.specs.declared.source.Place.{Place}
use Rattle.vlog_tree.specs.declared.expr.Expr.{Expr, Expr-F, para-roll-Expr}
use Rattle.vlog_tree.specs.declared.expr.Expr.TheVariants as e
use Rattle.vlog_tree.specs.declared.expr.Part.{Part}
use Rattle.vlog_tree.specs.declared.number.Number.{Number}
use Rattle.vlog_tree.specs.declared.operator.Unary.{Unary}
use Rattle.vlog_tree.specs.declared.operator.Binary.{Binary}
use Rattle.design_form.specs.declared.signal.Signal.{Signal}
use Rattle.elab_bits.specs.declared.touch.Touch.{Touch}
use Rattle.elab_bits.specs.Touches.{touched}
use Rattle.elab_bits.specs.Selects.{all_bits, indexed, selected}
use Rattle.elab_bits.specs.Reads.{reads, reads_by_parts}
use Rattle.elab_bits.proofs.Rows.{seconds}

plain-Number : (ss : List Signal) (place : Place) (n : Number) → reads ss (e.Number place n) ≡ []
unfolding reads reads_by_parts
plain-Number ss place n = ap (reads ss) (sym (e.rolls-Number place n)) ∙ para-roll-Expr (List Touch) (reads_by_parts ss) (Expr-F.Number place n)

pub behind-Number : (ss : List Signal) (xs : List Touch) (place : Place) (n : Number) → xs ++ reads ss (e.Number place n) ≡ xs
behind-Number ss xs place n = ap (λ (r : (List Touch)). xs ++ r) (plain-Number ss place n) ∙ append-nil xs

plain-Name : (ss : List Signal) (place : Place) (name : List ℕ) → reads ss (e.Name place name) ≡ touched place (all_bits ss name)
unfolding reads reads_by_parts
plain-Name ss place name = ap (reads ss) (sym (e.rolls-Name place name)) ∙ para-roll-Expr (List Touch) (reads_by_parts ss) (Expr-F.Name place name)

pub behind-Name : (ss : List Signal) (xs : List Touch) (place : Place) (name : List ℕ) → xs ++ reads ss (e.Name place name) ≡ xs ++ touched place (all_bits ss name)
behind-Name ss xs place name = ap (λ (r : (List Touch)). xs ++ r) (plain-Name ss place name)

plain-Index : (ss : List Signal) (place : Place) (name : List ℕ) (i : Expr) → reads ss (e.Index place name i) ≡ touched place (indexed ss name i) ++ reads ss i
unfolding reads reads_by_parts
plain-Index ss place name i = ap (reads ss) (sym (e.rolls-Index place name i)) ∙ para-roll-Expr (List Touch) (reads_by_parts ss) (Expr-F.Index place name i)

pub behind-Index : (ss : List Signal) (xs : List Touch) (place : Place) (name : List ℕ) (i : Expr) → xs ++ reads ss (e.Index place name i) ≡ (xs ++ touched place (indexed ss name i)) ++ reads ss i
behind-Index ss xs place name i = ap (λ (r : (List Touch)). xs ++ r) (plain-Index ss place name i) ∙ sym (append_assoc xs (touched place (indexed ss name i)) (reads ss i))

plain-Select : (ss : List Signal) (how : Part) (place : Place) (name : List ℕ) (i j : Expr) → reads ss (e.Select how place name i j) ≡ touched place (selected ss how name i j) ++ (reads ss i ++ reads ss j)
unfolding reads reads_by_parts
plain-Select ss how place name i j = ap (reads ss) (sym (e.rolls-Select how place name i j)) ∙ para-roll-Expr (List Touch) (reads_by_parts ss) (Expr-F.Select how place name i j)

pub behind-Select : (ss : List Signal) (xs : List Touch) (how : Part) (place : Place) (name : List ℕ) (i j : Expr) → xs ++ reads ss (e.Select how place name i j) ≡ ((xs ++ touched place (selected ss how name i j)) ++ reads ss i) ++ reads ss j
behind-Select ss xs how place name i j = ap (λ (r : (List Touch)). xs ++ r) (plain-Select ss how place name i j) ∙ sym (append_assoc xs (touched place (selected ss how name i j)) (reads ss i ++ reads ss j)) ∙ sym (append_assoc (xs ++ touched place (selected ss how name i j)) (reads ss i) (reads ss j))

plain-Brackets : (ss : List Signal) (place : Place) (a : Expr) → reads ss (e.Brackets place a) ≡ reads ss a
unfolding reads reads_by_parts
plain-Brackets ss place a = ap (reads ss) (sym (e.rolls-Brackets place a)) ∙ para-roll-Expr (List Touch) (reads_by_parts ss) (Expr-F.Brackets place a)

pub behind-Brackets : (ss : List Signal) (xs : List Touch) (place : Place) (a : Expr) → xs ++ reads ss (e.Brackets place a) ≡ xs ++ reads ss a
behind-Brackets ss xs place a = ap (λ (r : (List Touch)). xs ++ r) (plain-Brackets ss place a)

plain-Concat : (ss : List Signal) (place : Place) (es : List Expr) → reads ss (e.Concat place es) ≡ flat_map (reads ss) es
unfolding reads reads_by_parts
plain-Concat ss place es = ap (reads ss) (sym (e.rolls-Concat place es)) ∙ para-roll-Expr (List Touch) (reads_by_parts ss) (Expr-F.Concat place es) ∙ seconds (reads ss) es

pub behind-Concat : (ss : List Signal) (xs : List Touch) (place : Place) (es : List Expr) → xs ++ reads ss (e.Concat place es) ≡ xs ++ flat_map (reads ss) es
behind-Concat ss xs place es = ap (λ (r : (List Touch)). xs ++ r) (plain-Concat ss place es)

plain-Repeat : (ss : List Signal) (place : Place) (n : Expr) (es : List Expr) → reads ss (e.Repeat place n es) ≡ reads ss n ++ flat_map (reads ss) es
unfolding reads reads_by_parts
plain-Repeat ss place n es = ap (reads ss) (sym (e.rolls-Repeat place n es)) ∙ para-roll-Expr (List Touch) (reads_by_parts ss) (Expr-F.Repeat place n es) ∙ ap (λ (r : (List Touch)). reads ss n ++ r) (seconds (reads ss) es)

pub behind-Repeat : (ss : List Signal) (xs : List Touch) (place : Place) (n : Expr) (es : List Expr) → xs ++ reads ss (e.Repeat place n es) ≡ (xs ++ reads ss n) ++ flat_map (reads ss) es
behind-Repeat ss xs place n es = ap (λ (r : (List Touch)). xs ++ r) (plain-Repeat ss place n es) ∙ sym (append_assoc xs (reads ss n) (flat_map (reads ss) es))

plain-Unary : (ss : List Signal) (place : Place) (op : Unary) (a : Expr) → reads ss (e.Unary place op a) ≡ reads ss a
unfolding reads reads_by_parts
plain-Unary ss place op a = ap (reads ss) (sym (e.rolls-Unary place op a)) ∙ para-roll-Expr (List Touch) (reads_by_parts ss) (Expr-F.Unary place op a)

pub behind-Unary : (ss : List Signal) (xs : List Touch) (place : Place) (op : Unary) (a : Expr) → xs ++ reads ss (e.Unary place op a) ≡ xs ++ reads ss a
behind-Unary ss xs place op a = ap (λ (r : (List Touch)). xs ++ r) (plain-Unary ss place op a)

plain-Binary : (ss : List Signal) (place : Place) (op : Binary) (a b : Expr) → reads ss (e.Binary place op a b) ≡ reads ss a ++ reads ss b
unfolding reads reads_by_parts
plain-Binary ss place op a b = ap (reads ss) (sym (e.rolls-Binary place op a b)) ∙ para-roll-Expr (List Touch) (reads_by_parts ss) (Expr-F.Binary place op a b)

pub behind-Binary : (ss : List Signal) (xs : List Touch) (place : Place) (op : Binary) (a b : Expr) → xs ++ reads ss (e.Binary place op a b) ≡ (xs ++ reads ss a) ++ reads ss b
behind-Binary ss xs place op a b = ap (λ (r : (List Touch)). xs ++ r) (plain-Binary ss place op a b) ∙ sym (append_assoc xs (reads ss a) (reads ss b))

plain-Conditional : (ss : List Signal) (place : Place) (test a b : Expr) → reads ss (e.Conditional place test a b) ≡ reads ss test ++ (reads ss a ++ reads ss b)
unfolding reads reads_by_parts
plain-Conditional ss place test a b = ap (reads ss) (sym (e.rolls-Conditional place test a b)) ∙ para-roll-Expr (List Touch) (reads_by_parts ss) (Expr-F.Conditional place test a b)

pub behind-Conditional : (ss : List Signal) (xs : List Touch) (place : Place) (test a b : Expr) → xs ++ reads ss (e.Conditional place test a b) ≡ ((xs ++ reads ss test) ++ reads ss a) ++ reads ss b
behind-Conditional ss xs place test a b = ap (λ (r : (List Touch)). xs ++ r) (plain-Conditional ss place test a b) ∙ sym (append_assoc xs (reads ss test) (reads ss a ++ reads ss b)) ∙ sym (append_assoc (xs ++ reads ss test) (reads ss a) (reads ss b))

-- each form of expression, for tactics
pub ruleset forms = (behind-Number, behind-Name, behind-Index, behind-Select, behind-Brackets, behind-Concat, behind-Repeat, behind-Unary, behind-Binary, behind-Conditional)
