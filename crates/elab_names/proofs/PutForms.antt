-- What each form of expression is in a scope.
use Rattle.std.proofs.Common.{◌≡◌, ℕ, List, map, Ok, sym, ap, subst, ◌∙◌}
use Rattle.rdc_outside.specs.declared.source.Place.{Place}
use Rattle.vlog_tree.specs.declared.expr.Expr.{Expr, fold-roll-Expr}
use Rattle.vlog_tree.specs.declared.expr.Expr.TheOpen.{Expr-F}
use Rattle.vlog_tree.specs.declared.expr.Expr.TheVariants.{Number, Name, Index, Select, Brackets, Concat, Repeat, Unary, Binary, Conditional, rolls-Number, rolls-Name, rolls-Index, rolls-Select, rolls-Brackets, rolls-Concat, rolls-Repeat, rolls-Unary, rolls-Binary, rolls-Conditional}
use Rattle.vlog_tree.specs.declared.expr.Part.{Part}
use Rattle.vlog_tree.specs.declared.number.Number as n
use Rattle.vlog_tree.specs.declared.operator.Unary as u
use Rattle.vlog_tree.specs.declared.operator.Binary as b
use Rattle.elab_names.specs.Answers.{Answers, Or_fault, and_then, gathered}
use Rattle.elab_names.specs.Meanings.{Frames, found}
use Rattle.elab_names.specs.Expressions.{meant, named, indexed, selected, put_in, put_by_parts}

pub put-Number : (frames : Frames) (place : Place) (x : n.Number) → put_in frames (Number place x) ≡ Ok (Number place x)
unfolding put_in put_by_parts
put-Number frames place x = ap (put_in frames) (sym (rolls-Number place x)) ∙ fold-roll-Expr (Or_fault Expr) (put_by_parts frames) (Expr-F.Number place x)

pub put-Name : (frames : Frames) (place : Place) (name : List ℕ) → put_in frames (Name place name) ≡ and_then (meant place name (found frames name)) (named place)
unfolding put_in put_by_parts
put-Name frames place name = ap (put_in frames) (sym (rolls-Name place name)) ∙ fold-roll-Expr (Or_fault Expr) (put_by_parts frames) (Expr-F.Name place name)

pub put-Index : (frames : Frames) (place : Place) (name : List ℕ) (i : Expr) → put_in frames (Index place name i) ≡ and_then (meant place name (found frames name)) (λ m. and_then (put_in frames i) (indexed place m))
unfolding put_in put_by_parts
put-Index frames place name i = ap (put_in frames) (sym (rolls-Index place name i)) ∙ fold-roll-Expr (Or_fault Expr) (put_by_parts frames) (Expr-F.Index place name i)

pub put-Select : (frames : Frames) (how : Part) (place : Place) (name : List ℕ) (i j : Expr) → put_in frames (Select how place name i j) ≡ and_then (meant place name (found frames name)) (λ m. and_then (put_in frames i) (λ a. and_then (put_in frames j) (selected place m how a)))
unfolding put_in put_by_parts
put-Select frames how place name i j = ap (put_in frames) (sym (rolls-Select how place name i j)) ∙ fold-roll-Expr (Or_fault Expr) (put_by_parts frames) (Expr-F.Select how place name i j)

pub put-Brackets : (frames : Frames) (place : Place) (a : Expr) → put_in frames (Brackets place a) ≡ and_then (put_in frames a) (λ x. Ok (Brackets place x))
unfolding put_in put_by_parts
put-Brackets frames place a = ap (put_in frames) (sym (rolls-Brackets place a)) ∙ fold-roll-Expr (Or_fault Expr) (put_by_parts frames) (Expr-F.Brackets place a)

pub put-Concat : (frames : Frames) (place : Place) (es : List Expr) → put_in frames (Concat place es) ≡ and_then (gathered (map (put_in frames) es)) (λ xs. Ok (Concat place xs))
unfolding put_in put_by_parts
put-Concat frames place es = ap (put_in frames) (sym (rolls-Concat place es)) ∙ fold-roll-Expr (Or_fault Expr) (put_by_parts frames) (Expr-F.Concat place es)

pub put-Repeat : (frames : Frames) (place : Place) (k : Expr) (es : List Expr) → put_in frames (Repeat place k es) ≡ and_then (put_in frames k) (λ n. and_then (gathered (map (put_in frames) es)) (λ xs. Ok (Repeat place n xs)))
unfolding put_in put_by_parts
put-Repeat frames place k es = ap (put_in frames) (sym (rolls-Repeat place k es)) ∙ fold-roll-Expr (Or_fault Expr) (put_by_parts frames) (Expr-F.Repeat place k es)

pub put-Unary : (frames : Frames) (place : Place) (op : u.Unary) (a : Expr) → put_in frames (Unary place op a) ≡ and_then (put_in frames a) (λ x. Ok (Unary place op x))
unfolding put_in put_by_parts
put-Unary frames place op a = ap (put_in frames) (sym (rolls-Unary place op a)) ∙ fold-roll-Expr (Or_fault Expr) (put_by_parts frames) (Expr-F.Unary place op a)

pub put-Binary : (frames : Frames) (place : Place) (op : b.Binary) (x y : Expr) → put_in frames (Binary place op x y) ≡ and_then (put_in frames x) (λ p. and_then (put_in frames y) (λ q. Ok (Binary place op p q)))
unfolding put_in put_by_parts
put-Binary frames place op x y = ap (put_in frames) (sym (rolls-Binary place op x y)) ∙ fold-roll-Expr (Or_fault Expr) (put_by_parts frames) (Expr-F.Binary place op x y)

pub put-Conditional : (frames : Frames) (place : Place) (test x y : Expr) → put_in frames (Conditional place test x y) ≡ and_then (put_in frames test) (λ t. and_then (put_in frames x) (λ p. and_then (put_in frames y) (λ q. Ok (Conditional place t p q))))
unfolding put_in put_by_parts
put-Conditional frames place test x y = ap (put_in frames) (sym (rolls-Conditional place test x y)) ∙ fold-roll-Expr (Or_fault Expr) (put_by_parts frames) (Expr-F.Conditional place test x y)

-- ---- what is answered for the parts is answered for the whole

pub answers-Select : (frames : Frames) (e x y a c : Expr) (how : Part) (place : Place) (name : List ℕ) (r : Or_fault Expr) → e ≡ Select how place name x y → a ≡ x → c ≡ y
    → Answers (λ z. z) r (and_then (meant place name (found frames name)) (λ m. and_then (put_in frames a) (λ i. and_then (put_in frames c) (selected place m how i)))) → Answers (λ z. z) r (put_in frames e)
answers-Select frames e x y a c how place name r is left right answer =
    subst (λ (w : Or_fault Expr). Answers (λ z. z) r w)
    (sym (put-Select frames how place name a c) ∙ ap (put_in frames) (ap (λ (p : Expr). Select how place name p c) left ∙ ap (λ (q : Expr). Select how place name x q) right ∙ sym is)) answer

pub answers-Repeat : (frames : Frames) (e k n : Expr) (ms es : List Expr) (place : Place) (r : Or_fault Expr) → e ≡ Repeat place k es → n ≡ k → ms ≡ es
    → Answers (λ z. z) r (and_then (put_in frames n) (λ p. and_then (gathered (map (put_in frames) ms)) (λ q. Ok (Repeat place p q)))) → Answers (λ z. z) r (put_in frames e)
answers-Repeat frames e k n ms es place r is left right answer =
    subst (λ (w : Or_fault Expr). Answers (λ z. z) r w)
    (sym (put-Repeat frames place n ms) ∙ ap (put_in frames) (ap (λ (p : Expr). Repeat place p ms) left ∙ ap (λ (q : List Expr). Repeat place k q) right ∙ sym is)) answer

pub answers-Binary : (frames : Frames) (e x y a c : Expr) (place : Place) (op : b.Binary) (r : Or_fault Expr) → e ≡ Binary place op x y → a ≡ x → c ≡ y
    → Answers (λ z. z) r (and_then (put_in frames a) (λ p. and_then (put_in frames c) (λ q. Ok (Binary place op p q)))) → Answers (λ z. z) r (put_in frames e)
answers-Binary frames e x y a c place op r is left right answer =
    subst (λ (w : Or_fault Expr). Answers (λ z. z) r w)
    (sym (put-Binary frames place op a c) ∙ ap (put_in frames) (ap (λ (p : Expr). Binary place op p c) left ∙ ap (λ (q : Expr). Binary place op x q) right ∙ sym is)) answer

pub answers-Conditional : (frames : Frames) (e t x y o a c : Expr) (place : Place) (r : Or_fault Expr) → e ≡ Conditional place t x y → o ≡ t → a ≡ x → c ≡ y
    → Answers (λ z. z) r (and_then (put_in frames o) (λ s. and_then (put_in frames a) (λ p. and_then (put_in frames c) (λ q. Ok (Conditional place s p q))))) → Answers (λ z. z) r (put_in frames e)
answers-Conditional frames e t x y o a c place r is test left right answer =
    subst (λ (w : Or_fault Expr). Answers (λ z. z) r w)
    (sym (put-Conditional frames place o a c)
    ∙ ap (put_in frames) (ap (λ (s : Expr). Conditional place s a c) test ∙ ap (λ (p : Expr). Conditional place t p c) left ∙ ap (λ (q : Expr). Conditional place t x q) right ∙ sym is)) answer

-- each form of expression, for tactics
pub ruleset forms = (put-Number, put-Name, put-Index, put-Select, put-Brackets, put-Concat, put-Repeat, put-Unary, put-Binary, put-Conditional)
