-- Which bits each form of target assigns for sure, behind what is there.
use Rattle.std.proofs.Common.{◌≡◌, ℕ, ◌&&◌, List, [], ◌∷◌, ◌++◌, map, if◌then◌else◌, refl, sym, ap, ◌∙◌}
use Rattle.std.specs.List.{flat_map}
use Rattle.std.proofs.lemmas.List.{append-nil}
use Rattle.rdc_outside.specs.declared.source.Place.{Place}
use Rattle.vlog_tree.specs.declared.expr.Expr.{Expr, para-roll-Expr}
use Rattle.vlog_tree.specs.declared.expr.Expr.TheOpen.{Expr-F}
use Rattle.vlog_tree.specs.declared.expr.Expr.TheVariants as e
use Rattle.vlog_tree.specs.declared.expr.Part.{Part}
use Rattle.vlog_tree.specs.declared.number.Number.{Number}
use Rattle.vlog_tree.specs.declared.operator.Unary.{Unary}
use Rattle.vlog_tree.specs.declared.operator.Binary.{Binary}
use Rattle.design_form.specs.declared.signal.Signal.{Signal}
use Rattle.elab_bits.specs.Selects.{all_bits, constant, indexed, selected}
use Rattle.elab_bits.specs.Targets.{targets, targets_by_parts}
use Rattle.vlog_proc.specs.Paths.{certain, certain_by_parts, is_number}

-- items beside what each gives
seconds : {X A : Type 0} (f : X → List A) (xs : List X) → flat_map (λ (p : X × List A). p.1) (map (λ x. (x, f x)) xs) ≡ flat_map f xs
seconds f [] = refl
seconds {X} {A} f (x ∷ xs) = ap (λ (r : List A). f x ++ r) (seconds f xs)

pub targets-Index : (ss : List Signal) (place : Place) (name : List ℕ) (i : Expr) → targets ss (e.Index place name i) ≡ indexed ss name i
unfolding targets targets_by_parts
targets-Index ss place name i = ap (targets ss) (sym (e.rolls-Index place name i)) ∙ para-roll-Expr (List ℕ) (targets_by_parts ss) (Expr-F.Index place name i)

pub targets-Select : (ss : List Signal) (how : Part) (place : Place) (name : List ℕ) (i : Expr) (j : Expr) → targets ss (e.Select how place name i j) ≡ selected ss how name i j
unfolding targets targets_by_parts
targets-Select ss how place name i j = ap (targets ss) (sym (e.rolls-Select how place name i j)) ∙ para-roll-Expr (List ℕ) (targets_by_parts ss) (Expr-F.Select how place name i j)

plain-Number : (ss : List Signal) (place : Place) (n : Number) → certain ss (e.Number place n) ≡ []
unfolding certain certain_by_parts
plain-Number ss place n = ap (certain ss) (sym (e.rolls-Number place n)) ∙ para-roll-Expr (List ℕ) (certain_by_parts ss) (Expr-F.Number place n)

plain-Name : (ss : List Signal) (place : Place) (name : List ℕ) → certain ss (e.Name place name) ≡ all_bits ss name
unfolding certain certain_by_parts
plain-Name ss place name = ap (certain ss) (sym (e.rolls-Name place name)) ∙ para-roll-Expr (List ℕ) (certain_by_parts ss) (Expr-F.Name place name)

plain-Index : (ss : List Signal) (place : Place) (name : List ℕ) (i : Expr) → certain ss (e.Index place name i) ≡ (if is_number (constant i) then indexed ss name i else [])
unfolding certain certain_by_parts
plain-Index ss place name i = ap (certain ss) (sym (e.rolls-Index place name i)) ∙ para-roll-Expr (List ℕ) (certain_by_parts ss) (Expr-F.Index place name i)

plain-Select : (ss : List Signal) (how : Part) (place : Place) (name : List ℕ) (i : Expr) (j : Expr) → certain ss (e.Select how place name i j) ≡ (if is_number (constant i) && is_number (constant j) then selected ss how name i j else [])
unfolding certain certain_by_parts
plain-Select ss how place name i j = ap (certain ss) (sym (e.rolls-Select how place name i j)) ∙ para-roll-Expr (List ℕ) (certain_by_parts ss) (Expr-F.Select how place name i j)

plain-Brackets : (ss : List Signal) (place : Place) (a : Expr) → certain ss (e.Brackets place a) ≡ []
unfolding certain certain_by_parts
plain-Brackets ss place a = ap (certain ss) (sym (e.rolls-Brackets place a)) ∙ para-roll-Expr (List ℕ) (certain_by_parts ss) (Expr-F.Brackets place a)

plain-Concat : (ss : List Signal) (place : Place) (es : List Expr) → certain ss (e.Concat place es) ≡ flat_map (certain ss) es
unfolding certain certain_by_parts
plain-Concat ss place es = ap (certain ss) (sym (e.rolls-Concat place es)) ∙ para-roll-Expr (List ℕ) (certain_by_parts ss) (Expr-F.Concat place es) ∙ seconds (certain ss) es

plain-Repeat : (ss : List Signal) (place : Place) (k : Expr) (es : List Expr) → certain ss (e.Repeat place k es) ≡ []
unfolding certain certain_by_parts
plain-Repeat ss place k es = ap (certain ss) (sym (e.rolls-Repeat place k es)) ∙ para-roll-Expr (List ℕ) (certain_by_parts ss) (Expr-F.Repeat place k es)

plain-Unary : (ss : List Signal) (place : Place) (op : Unary) (a : Expr) → certain ss (e.Unary place op a) ≡ []
unfolding certain certain_by_parts
plain-Unary ss place op a = ap (certain ss) (sym (e.rolls-Unary place op a)) ∙ para-roll-Expr (List ℕ) (certain_by_parts ss) (Expr-F.Unary place op a)

plain-Binary : (ss : List Signal) (place : Place) (op : Binary) (x : Expr) (y : Expr) → certain ss (e.Binary place op x y) ≡ []
unfolding certain certain_by_parts
plain-Binary ss place op x y = ap (certain ss) (sym (e.rolls-Binary place op x y)) ∙ para-roll-Expr (List ℕ) (certain_by_parts ss) (Expr-F.Binary place op x y)

plain-Conditional : (ss : List Signal) (place : Place) (test : Expr) (x : Expr) (y : Expr) → certain ss (e.Conditional place test x y) ≡ []
unfolding certain certain_by_parts
plain-Conditional ss place test x y = ap (certain ss) (sym (e.rolls-Conditional place test x y)) ∙ para-roll-Expr (List ℕ) (certain_by_parts ss) (Expr-F.Conditional place test x y)

pub behind-Number : (ss : List Signal) (xs : List ℕ) (place : Place) (n : Number) → xs ++ certain ss (e.Number place n) ≡ xs
behind-Number ss xs place n = ap (λ (r : List ℕ). xs ++ r) (plain-Number ss place n) ∙ append-nil xs

pub behind-Name : (ss : List Signal) (xs : List ℕ) (place : Place) (name : List ℕ) → xs ++ certain ss (e.Name place name) ≡ xs ++ all_bits ss name
behind-Name ss xs place name = ap (λ (r : List ℕ). xs ++ r) (plain-Name ss place name)

pub behind-Index : (ss : List Signal) (xs : List ℕ) (place : Place) (name : List ℕ) (i : Expr) → xs ++ certain ss (e.Index place name i) ≡ xs ++ (if is_number (constant i) then targets ss (e.Index place name i) else [])
behind-Index ss xs place name i = ap (λ (r : List ℕ). xs ++ r) (plain-Index ss place name i ∙ ap (λ (ns : List ℕ). if is_number (constant i) then ns else []) (sym (targets-Index ss place name i)))

pub behind-Select : (ss : List Signal) (xs : List ℕ) (how : Part) (place : Place) (name : List ℕ) (i : Expr) (j : Expr) → xs ++ certain ss (e.Select how place name i j) ≡ xs ++ (if is_number (constant i) && is_number (constant j) then targets ss (e.Select how place name i j) else [])
behind-Select ss xs how place name i j = ap (λ (r : List ℕ). xs ++ r) (plain-Select ss how place name i j ∙ ap (λ (ns : List ℕ). if is_number (constant i) && is_number (constant j) then ns else []) (sym (targets-Select ss how place name i j)))

pub behind-Brackets : (ss : List Signal) (xs : List ℕ) (place : Place) (a : Expr) → xs ++ certain ss (e.Brackets place a) ≡ xs
behind-Brackets ss xs place a = ap (λ (r : List ℕ). xs ++ r) (plain-Brackets ss place a) ∙ append-nil xs

pub behind-Concat : (ss : List Signal) (xs : List ℕ) (place : Place) (es : List Expr) → xs ++ certain ss (e.Concat place es) ≡ xs ++ flat_map (certain ss) es
behind-Concat ss xs place es = ap (λ (r : List ℕ). xs ++ r) (plain-Concat ss place es)

pub behind-Repeat : (ss : List Signal) (xs : List ℕ) (place : Place) (k : Expr) (es : List Expr) → xs ++ certain ss (e.Repeat place k es) ≡ xs
behind-Repeat ss xs place k es = ap (λ (r : List ℕ). xs ++ r) (plain-Repeat ss place k es) ∙ append-nil xs

pub behind-Unary : (ss : List Signal) (xs : List ℕ) (place : Place) (op : Unary) (a : Expr) → xs ++ certain ss (e.Unary place op a) ≡ xs
behind-Unary ss xs place op a = ap (λ (r : List ℕ). xs ++ r) (plain-Unary ss place op a) ∙ append-nil xs

pub behind-Binary : (ss : List Signal) (xs : List ℕ) (place : Place) (op : Binary) (x : Expr) (y : Expr) → xs ++ certain ss (e.Binary place op x y) ≡ xs
behind-Binary ss xs place op x y = ap (λ (r : List ℕ). xs ++ r) (plain-Binary ss place op x y) ∙ append-nil xs

pub behind-Conditional : (ss : List Signal) (xs : List ℕ) (place : Place) (test : Expr) (x : Expr) (y : Expr) → xs ++ certain ss (e.Conditional place test x y) ≡ xs
behind-Conditional ss xs place test x y = ap (λ (r : List ℕ). xs ++ r) (plain-Conditional ss place test x y) ∙ append-nil xs

-- the bits of an index, as those of a target
pub ruleset targets_Index = (targets-Index)

-- each form of target, for tactics
pub ruleset forms = (behind-Number, behind-Name, behind-Index, behind-Select, behind-Brackets, behind-Concat, behind-Repeat, behind-Unary, behind-Binary, behind-Conditional)
