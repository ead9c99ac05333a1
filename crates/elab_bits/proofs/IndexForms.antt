-- What the indices of each form of target read, behind what is there.
use Rattle.std.proofs.Common.{◌≡◌, ℕ, List, [], ◌++◌, sym, ap, ◌∙◌}
use Rattle.std.specs.List.{flat_map}
use Rattle.std.proofs.lemmas.List.{append-nil, append_assoc}
use Rattle.rdc_outside.specs.declared.source.Place.{Place}
use Rattle.vlog_tree.specs.declared.expr.Expr.{Expr, Expr-F, para-roll-Expr}
use Rattle.vlog_tree.specs.declared.expr.Expr.TheVariants as e
use Rattle.vlog_tree.specs.declared.expr.Part.{Part}
use Rattle.vlog_tree.specs.declared.number.Number.{Number}
use Rattle.vlog_tree.specs.declared.operator.Unary.{Unary}
use Rattle.vlog_tree.specs.declared.operator.Binary.{Binary}
use Rattle.design_form.specs.declared.signal.Signal.{Signal}
use Rattle.elab_bits.specs.declared.touch.Touch.{Touch}
use Rattle.elab_bits.specs.Reads.{reads}
use Rattle.elab_bits.specs.Targets.{target_reads, target_reads_by_parts}
use Rattle.elab_bits.proofs.Rows.{seconds}

plain-Number : (ss : List Signal) (place : Place) (n : Number) → target_reads ss (e.Number place n) ≡ []
unfolding target_reads target_reads_by_parts
plain-Number ss place n = ap (target_reads ss) (sym (e.rolls-Number place n)) ∙ para-roll-Expr (List Touch) (target_reads_by_parts ss) (Expr-F.Number place n)

pub behind-Number : (ss : List Signal) (xs : List Touch) (place : Place) (n : Number) → xs ++ target_reads ss (e.Number place n) ≡ xs
behind-Number ss xs place n = ap (λ (r : (List Touch)). xs ++ r) (plain-Number ss place n) ∙ append-nil xs

plain-Name : (ss : List Signal) (place : Place) (name : List ℕ) → target_reads ss (e.Name place name) ≡ []
unfolding target_reads target_reads_by_parts
plain-Name ss place name = ap (target_reads ss) (sym (e.rolls-Name place name)) ∙ para-roll-Expr (List Touch) (target_reads_by_parts ss) (Expr-F.Name place name)

pub behind-Name : (ss : List Signal) (xs : List Touch) (place : Place) (name : List ℕ) → xs ++ target_reads ss (e.Name place name) ≡ xs
behind-Name ss xs place name = ap (λ (r : (List Touch)). xs ++ r) (plain-Name ss place name) ∙ append-nil xs

plain-Index : (ss : List Signal) (place : Place) (name : List ℕ) (i : Expr) → target_reads ss (e.Index place name i) ≡ reads ss i
unfolding target_reads target_reads_by_parts
plain-Index ss place name i = ap (target_reads ss) (sym (e.rolls-Index place name i)) ∙ para-roll-Expr (List Touch) (target_reads_by_parts ss) (Expr-F.Index place name i)

pub behind-Index : (ss : List Signal) (xs : List Touch) (place : Place) (name : List ℕ) (i : Expr) → xs ++ target_reads ss (e.Index place name i) ≡ xs ++ reads ss i
behind-Index ss xs place name i = ap (λ (r : (List Touch)). xs ++ r) (plain-Index ss place name i)

plain-Select : (ss : List Signal) (how : Part) (place : Place) (name : List ℕ) (i j : Expr) → target_reads ss (e.Select how place name i j) ≡ reads ss i ++ reads ss j
unfolding target_reads target_reads_by_parts
plain-Select ss how place name i j = ap (target_reads ss) (sym (e.rolls-Select how place name i j)) ∙ para-roll-Expr (List Touch) (target_reads_by_parts ss) (Expr-F.Select how place name i j)

pub behind-Select : (ss : List Signal) (xs : List Touch) (how : Part) (place : Place) (name : List ℕ) (i j : Expr) → xs ++ target_reads ss (e.Select how place name i j) ≡ (xs ++ reads ss i) ++ reads ss j
behind-Select ss xs how place name i j = ap (λ (r : (List Touch)). xs ++ r) (plain-Select ss how place name i j) ∙ sym (append_assoc xs (reads ss i) (reads ss j))

plain-Brackets : (ss : List Signal) (place : Place) (a : Expr) → target_reads ss (e.Brackets place a) ≡ []
unfolding target_reads target_reads_by_parts
plain-Brackets ss place a = ap (target_reads ss) (sym (e.rolls-Brackets place a)) ∙ para-roll-Expr (List Touch) (target_reads_by_parts ss) (Expr-F.Brackets place a)

pub behind-Brackets : (ss : List Signal) (xs : List Touch) (place : Place) (a : Expr) → xs ++ target_reads ss (e.Brackets place a) ≡ xs
behind-Brackets ss xs place a = ap (λ (r : (List Touch)). xs ++ r) (plain-Brackets ss place a) ∙ append-nil xs

plain-Concat : (ss : List Signal) (place : Place) (es : List Expr) → target_reads ss (e.Concat place es) ≡ flat_map (target_reads ss) es
unfolding target_reads target_reads_by_parts
plain-Concat ss place es = ap (target_reads ss) (sym (e.rolls-Concat place es)) ∙ para-roll-Expr (List Touch) (target_reads_by_parts ss) (Expr-F.Concat place es) ∙ seconds (target_reads ss) es

pub behind-Concat : (ss : List Signal) (xs : List Touch) (place : Place) (es : List Expr) → xs ++ target_reads ss (e.Concat place es) ≡ xs ++ flat_map (target_reads ss) es
behind-Concat ss xs place es = ap (λ (r : (List Touch)). xs ++ r) (plain-Concat ss place es)

plain-Repeat : (ss : List Signal) (place : Place) (n : Expr) (es : List Expr) → target_reads ss (e.Repeat place n es) ≡ []
unfolding target_reads target_reads_by_parts
plain-Repeat ss place n es = ap (target_reads ss) (sym (e.rolls-Repeat place n es)) ∙ para-roll-Expr (List Touch) (target_reads_by_parts ss) (Expr-F.Repeat place n es)

pub behind-Repeat : (ss : List Signal) (xs : List Touch) (place : Place) (n : Expr) (es : List Expr) → xs ++ target_reads ss (e.Repeat place n es) ≡ xs
behind-Repeat ss xs place n es = ap (λ (r : (List Touch)). xs ++ r) (plain-Repeat ss place n es) ∙ append-nil xs

plain-Unary : (ss : List Signal) (place : Place) (op : Unary) (a : Expr) → target_reads ss (e.Unary place op a) ≡ []
unfolding target_reads target_reads_by_parts
plain-Unary ss place op a = ap (target_reads ss) (sym (e.rolls-Unary place op a)) ∙ para-roll-Expr (List Touch) (target_reads_by_parts ss) (Expr-F.Unary place op a)

pub behind-Unary : (ss : List Signal) (xs : List Touch) (place : Place) (op : Unary) (a : Expr) → xs ++ target_reads ss (e.Unary place op a) ≡ xs
behind-Unary ss xs place op a = ap (λ (r : (List Touch)). xs ++ r) (plain-Unary ss place op a) ∙ append-nil xs

plain-Binary : (ss : List Signal) (place : Place) (op : Binary) (a b : Expr) → target_reads ss (e.Binary place op a b) ≡ []
unfolding target_reads target_reads_by_parts
plain-Binary ss place op a b = ap (target_reads ss) (sym (e.rolls-Binary place op a b)) ∙ para-roll-Expr (List Touch) (target_reads_by_parts ss) (Expr-F.Binary place op a b)

pub behind-Binary : (ss : List Signal) (xs : List Touch) (place : Place) (op : Binary) (a b : Expr) → xs ++ target_reads ss (e.Binary place op a b) ≡ xs
behind-Binary ss xs place op a b = ap (λ (r : (List Touch)). xs ++ r) (plain-Binary ss place op a b) ∙ append-nil xs

plain-Conditional : (ss : List Signal) (place : Place) (test a b : Expr) → target_reads ss (e.Conditional place test a b) ≡ []
unfolding target_reads target_reads_by_parts
plain-Conditional ss place test a b = ap (target_reads ss) (sym (e.rolls-Conditional place test a b)) ∙ para-roll-Expr (List Touch) (target_reads_by_parts ss) (Expr-F.Conditional place test a b)

pub behind-Conditional : (ss : List Signal) (xs : List Touch) (place : Place) (test a b : Expr) → xs ++ target_reads ss (e.Conditional place test a b) ≡ xs
behind-Conditional ss xs place test a b = ap (λ (r : (List Touch)). xs ++ r) (plain-Conditional ss place test a b) ∙ append-nil xs

-- each form of expression, for tactics
pub ruleset forms = (behind-Number, behind-Name, behind-Index, behind-Select, behind-Brackets, behind-Concat, behind-Repeat, behind-Unary, behind-Binary, behind-Conditional)
