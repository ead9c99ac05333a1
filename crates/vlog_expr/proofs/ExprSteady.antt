-- The readers of expressions are steady, with more room too.
use Rattle.std.proofs.lemmas.List.{append_cancel_right}
use Rattle.std.proofs.Common.{subst, ◌≡◌, ℕ, zero, suc, ◌+◌, ◌-◌, ◌<◌, ◌≤◌, max, Bool, true, false, List, [], ◌∷◌, ◌++◌, length, drop, Option, Some, None, Result, Ok, Err, refl, sym, ap, ◌∙◌, arith}
use Rattle.std.specs.Prelude.{nat_le, if◌then◌else◌, codes}
use Rattle.rdc_outside.specs.declared.source.Place.{Place}
use Rattle.vlog_tree.specs.declared.expr.Expr.{Expr}
use Rattle.vlog_tree.specs.declared.expr.Expr.TheVariants as e
use Rattle.vlog_tree.specs.declared.expr.Part.{Part}
use Rattle.vlog_tree.specs.declared.number.Number.{Number}
use Rattle.vlog_tree.specs.declared.operator.Unary.{Unary}
use Rattle.vlog_tree.specs.declared.operator.Binary.{Binary}
use Rattle.vlog_tree.specs.Lexemes.{Lexeme}
use Rattle.vlog_tree.specs.Operators.{level_of, unary_of}
use Rattle.vlog_tree.specs.Depth.{depth}
use Rattle.vlog_expr.specs.declared.stuck.Stuck.{Stuck}
use Rattle.vlog_expr.specs.declared.stuck.Stuck.TheVariants.{Wrong, Deep}
use Rattle.vlog_expr.specs.declared.cursor.Next.{Next}
use Rattle.vlog_expr.specs.declared.cursor.Next.TheVariants.{Operator, Question, End}
use Rattle.vlog_expr.specs.Reading.{Reader, first, onward, peek, advance, pure, stop, place_if, mark_if, name_if, number_if, sees, expect}
use Rattle.vlog_expr.specs.Exprs.{next_at, unary_at, part_if, within, select_by, select, named, brackets, others_from, others, repeat, concat, braces, braced, group, name_by, primary_by, primary, negated, operand_by, operand, choice, right, step_by, climb, whole, expr}
use Rattle.vlog_expr.proofs.Readers.{Steps, Local, Steady, SteadyPast, SteadyFront, shorter, ◌>>=◌, ◌>>◌, steady_pure, steady_wrong, steady_peek, steady_advance, steady_if, steady_expect, steady_past, steady_within, steady_front, steady_front_if, steady_at, wants_room}

abbrev no_unary : Option Unary
no_unary = None

by_level : (b : Bool) → (if b then no_unary else no_unary) ≡ no_unary
by_level true = refl
by_level false = refl

-- no operator stands at the end
pub no_operator : (level : ℕ) → unary_at level None ≡ None
unfolding unary_at mark_if unary_of
no_operator level = by_level (nat_le level 12)

module _ (k room more : ℕ) (inner outer : ℕ → Reader Expr) (few : k ≤ room) (le : room ≤ more) (parts : (level : ℕ) → Steady k (inner level) (outer level)) where
  brackets_steady : (place : Place) → SteadyPast k (brackets room inner place) (brackets more outer place)
  unfolding brackets
  brackets_steady place =
      let built = steady_past (parts 0 >>= (λ i. steady_expect (codes ")") >> steady_pure (e.Brackets place i))) in built

  select_by_steady : (place : Place) (called : List ℕ) (i : Expr) (part : Option Part) → Steady k (select_by room inner place called i part) (select_by more outer place called i part)
  unfolding select_by
  select_by_steady place called i None = let built = steady_expect (codes "]") >> steady_pure (e.Index place called i) in built
  select_by_steady place called i (Some part) =
      let built = steady_advance >> (parts 0 >>= (λ j. steady_expect (codes "]") >> steady_pure (e.Select part place called i j))) in built

  select_steady : (place : Place) (called : List ℕ) → SteadyPast k (select room inner place called) (select more outer place called)
  unfolding select
  select_steady place called = let built = steady_past (parts 0 >>= (λ i. steady_peek part_if >>= select_by_steady place called i)) in built

  pub others_from_steady : (n : ℕ) → Steady k (others_from room inner n) (others_from more outer n)
  unfolding others_from
  others_from_steady zero = steady_pure []
  others_from_steady (suc n) =
      let built = steady_peek (sees (codes ",")) >>= (λ there. steady_if there (steady_advance >> (parts 0 >>= (λ x. others_from_steady n >>= (λ xs. steady_pure (x ∷ xs))))) (steady_pure [])) in built

  -- one turn more
  turn : ℕ → Reader (List Expr)
  turn n = λ ls. onward (inner 0 (drop 1 ls)).0 (inner 0 (drop 1 ls)).1 (λ x ls'. onward (others_from room inner n ls').0 (others_from room inner n ls').1 (λ xs. pure (x ∷ xs)))

  same_turn : (n m : ℕ) (v : Result Expr Stuck) (mid : List Lexeme) → others_from room inner n mid ≡ others_from room inner m mid
      → onward v mid (λ x ls'. onward (others_from room inner n ls').0 (others_from room inner n ls').1 (λ xs. pure (x ∷ xs)))
      ≡ onward v mid (λ x ls'. onward (others_from room inner m ls').0 (others_from room inner m ls').1 (λ xs. pure (x ∷ xs)))
  same_turn n m (Ok x) mid e = ap (λ o. onward o.0 o.1 (λ xs. pure (x ∷ xs))) e
  same_turn n m (Err why) mid e = refl

  by_turn : (there : Bool) (n m : ℕ) (l : Lexeme) (ls : List Lexeme) → others_from room inner n (inner 0 ls).1 ≡ others_from room inner m (inner 0 ls).1
      → (if there then turn n else pure []) (l ∷ ls) ≡ (if there then turn m else pure []) (l ∷ ls)
  unfolding turn
  by_turn true n m l ls e = same_turn n m (inner 0 ls).0 (inner 0 ls).1 e
  by_turn false n m l ls e = refl

  -- enough turns are as good as more
  pub enough : (n m : ℕ) (ls : List Lexeme) → length ls ≤ n → length ls ≤ m → others_from room inner n ls ≡ others_from room inner m ls
  unfolding others_from first sees turn
  enough zero zero ls p q = refl
  enough zero (suc m) [] p q = refl
  enough zero (suc m) (l ∷ ls) p q = absurd (omega arith)
  enough (suc n) zero [] p q = refl
  enough (suc n) zero (l ∷ ls) p q = absurd (omega arith)
  enough (suc n) (suc m) [] p q = refl
  enough (suc n) (suc m) (l ∷ ls) p q =
      let less = shorter ((parts 0).local ls) in
      by_turn (sees (codes ",") (Some l)) n m l ls (enough n m (inner 0 ls).1 (omega arith) (omega arith))

  others_local : Local (others room inner)
  unfolding others
  others_local ls =
      let s = (others_from_steady (length ls)).local ls in
      record {
        is = refl;
        pre = s.pre;
        parts = s.parts;
        same = λ rest ends.
            let n = length ls + length (s.pre ++ rest) in
            let t = (others_from_steady n).local ls in
            let alike : others_from room inner n ls ≡ others_from room inner (length ls) ls = enough n (length ls) ls (omega arith) (omega arith) in
            let front : t.pre ≡ s.pre = append_cancel_right t.pre s.pre (others_from room inner (length ls) ls).1 (ap (λ o. t.pre ++ o.1) (sym alike) ∙ (sym t.parts ∙ s.parts)) in
            enough (length (s.pre ++ rest)) n (s.pre ++ rest) (omega arith) (omega arith)
            ∙ (ap (λ pre. others_from room inner n (pre ++ rest)) (sym front)
            ∙ (t.same rest (ends ∙ ap (λ o. first o.1) (sym alike)) ∙ ap (λ o. (o.0, rest)) alike));
      }

  pub others_steady : Steady k (others room inner) (others more outer)
  unfolding others
  others_steady = record {
    local = others_local;
    stays = λ ls calm. (others_from_steady (length ls)).stays ls calm;
    shallow = λ ls less. (others_from_steady (length ls)).shallow ls less;
  }

  repeat_steady : (place : Place) (count : Expr) → Steady k (repeat room inner place count) (repeat more outer place count)
  unfolding repeat
  repeat_steady place count =
      let built = steady_advance >> (parts 0 >>= (λ x. others_steady >>= (λ xs. steady_expect (codes "}") >> (steady_expect (codes "}") >> steady_pure (e.Repeat place count (x ∷ xs)))))) in built

  concat_steady : (place : Place) (x : Expr) → Steady k (concat room inner place x) (concat more outer place x)
  unfolding concat
  concat_steady place x = let built = others_steady >>= (λ xs. steady_expect (codes "}") >> steady_pure (e.Concat place (x ∷ xs))) in built

  braces_steady : (place : Place) → SteadyPast k (braces room inner place) (braces more outer place)
  unfolding braces
  braces_steady place =
      let built = steady_past (parts 0 >>= (λ x. steady_peek (sees (codes "{")) >>= (λ there. steady_if there (repeat_steady place x) (concat_steady place x)))) in built

  braced_steady : (place : Place) → Steady (suc k) (braced room inner place) (braced more outer place)
  unfolding braced sees
  braced_steady place =
      steady_at (sees (codes "{")) (λ there. if there then within room inner (braces room inner place) else stop Wrong) (λ there. if there then within more outer (braces more outer place) else stop Wrong)
      steady_wrong (λ there. steady_front_if there (steady_within room more few le (braces_steady place)) (steady_front steady_wrong))

  group_steady : (place : Place) → Steady (suc k) (group room inner place) (group more outer place)
  unfolding group sees
  group_steady place =
      steady_at (sees (codes "(")) (λ there. if there then within room inner (brackets room inner place) else braced room inner place) (λ there. if there then within more outer (brackets more outer place) else braced more outer place)
      (braced_steady place) (λ there. steady_front_if there (steady_within room more few le (brackets_steady place)) (steady_front (braced_steady place)))

  named_steady : (place : Place) (called : List ℕ) → Steady (suc k) (named room inner place called) (named more outer place called)
  unfolding named sees
  named_steady place called =
      steady_at (sees (codes "[")) (λ there. if there then within room inner (select room inner place called) else pure (e.Name place called)) (λ there. if there then within more outer (select more outer place called) else pure (e.Name place called))
      (steady_pure (e.Name place called)) (λ there. steady_front_if there (steady_within room more few le (select_steady place called)) (steady_front (steady_pure (e.Name place called))))

  name_by_steady : (place : Place) (name : Option (List ℕ)) → Steady (suc k) (name_by room inner place name) (name_by more outer place name)
  unfolding name_by
  name_by_steady place (Some called) = let built = steady_advance >> named_steady place called in built
  name_by_steady place None = group_steady place

  primary_by_steady : (place : Place) (number : Option Number) → Steady (suc k) (primary_by room inner place number) (primary_by more outer place number)
  unfolding primary_by
  primary_by_steady place (Some n) = let built = steady_advance >> steady_pure (e.Number place n) in built
  primary_by_steady place None = let built = steady_peek name_if >>= name_by_steady place in built

  primary_steady : (place : Place) → Steady (suc k) (primary room inner place) (primary more outer place)
  unfolding primary
  primary_steady place = let built = steady_peek number_if >>= primary_by_steady place in built

  negated_steady : (place : Place) (op : Unary) → SteadyPast k (negated room inner place op) (negated more outer place op)
  unfolding negated
  negated_steady place op = let built = steady_past (parts 13 >>= (λ u. steady_pure (e.Unary place op u))) in built

  operand_by_steady : (place : Place) (op : Option Unary) → SteadyFront (suc k) (operand_by room inner place op) (operand_by more outer place op)
  unfolding operand_by
  operand_by_steady place (Some op) = steady_within room more few le (negated_steady place op)
  operand_by_steady place None = steady_front (primary_steady place)

  pub operand_steady : (level : ℕ) (place : Place) → Steady (suc k) (operand room inner level place) (operand more outer level place)
  unfolding operand operand_by
  operand_steady level place =
      steady_at (unary_at level) (operand_by room inner place) (operand_by more outer place)
      (subst (λ op. Steady (suc k) (operand_by room inner place op) (operand_by more outer place op)) (sym (no_operator level)) (primary_steady place))
      (operand_by_steady place)

  pub choice_steady : (place : Place) (test : Expr) → SteadyPast k (choice room inner place test) (choice more outer place test)
  unfolding choice
  choice_steady place test =
      let built = steady_past (parts 0 >>= (λ a. steady_expect (codes ":") >> (parts 0 >>= (λ b. steady_pure (e.Conditional place test a b))))) in built

  pub right_steady : (op : Binary) → SteadyPast k (right room inner op) (right more outer op)
  unfolding right
  right_steady op = steady_past (parts (level_of op + 1))
