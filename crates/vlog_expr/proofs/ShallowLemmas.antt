-- A reading wants room only behind as many lexemes as it may be deep.
use Rattle.std.proofs.Common.{◌≡◌, ℕ, zero, suc, ◌+◌, ◌-◌, ◌<◌, ◌≤◌, max, Bool, true, false, List, [], ◌∷◌, ◌++◌, length, drop, Option, Some, None, Result, Ok, Err, refl, sym, ap, ◌∙◌, subst, length-append, arith}
use Rattle.std.specs.Prelude.{nat_le, if◌then◌else◌}
use Rattle.std.proofs.lemmas.Bool.{le-leb}
use Rattle.rdc_outside.specs.declared.source.Place.{Place}
use Rattle.vlog_tree.specs.declared.expr.Expr.{Expr}
use Rattle.vlog_tree.specs.declared.expr.Expr.TheVariants as e
use Rattle.vlog_tree.specs.declared.operator.Binary.{Binary}
use Rattle.vlog_tree.specs.Lexemes.{Lexeme}
use Rattle.vlog_tree.specs.Operators.{level_of, binary_of}
use Rattle.vlog_tree.specs.Depth.{depth}
use Rattle.vlog_tree.proofs.DepthLemmas.{depth-Binary}
use Rattle.vlog_expr.specs.declared.stuck.Stuck.{Stuck}
use Rattle.vlog_expr.specs.declared.stuck.Stuck.TheVariants.{Deep}
use Rattle.vlog_expr.specs.declared.cursor.Next.{Next}
use Rattle.vlog_expr.specs.declared.cursor.Next.TheVariants.{Operator, Question, End}
use Rattle.vlog_expr.specs.Reading.{Reader, first, onward, stop, sees, mark_if, place_if}
use Rattle.vlog_expr.specs.Exprs.{next_at, operand, right, choice, step_by, climb, whole, expr}
use Rattle.vlog_expr.proofs.Readers.{Steps, Steady, SteadyPast, shorter, wants_room}
use Rattle.vlog_expr.proofs.ExprSteady.{operand_steady, choice_steady}
use Rattle.vlog_expr.proofs.CalmLemmas.{expr_calm}
use Rattle.vlog_expr.proofs.NextLemmas.{next_operator, next_question}
use Rattle.vlog_expr.proofs.SoundLemmas.{Sound}
use Rattle.vlog_expr.proofs.SpelledLemmas.{sized}
use Rattle.vlog_expr.proofs.ClimbSound.{expr_sound, expr_stops, operand_taken}

module _ (room : ℕ) (inner : ℕ → Reader Expr) (parts : (level : ℕ) → Steady room (inner level) (inner level))
    (read : (level : ℕ) (ls : List Lexeme) (x : Expr) (rest : List Lexeme) → inner level ls ≡ (Ok x, rest) → Sound room level ls x rest)
    (stops : (level : ℕ) (ls : List Lexeme) (x : Expr) (rest : List Lexeme) → inner level ls ≡ (Ok x, rest) → next_at level (first rest) ≡ End) where
  Shallow : ℕ → ℕ → Place → Type 0
  Shallow n level place = (left : Expr) (ls : List Lexeme) → 1 ≤ depth left → depth left + length ls ≤ room + 1 → room + 2 ≤ depth left + n → wants_room (climb room inner n level place left ls).0 ≡ false

  took : (level : ℕ) (ls : List Lexeme) (x : Expr) (rest : List Lexeme) → inner level ls ≡ (Ok x, rest) → depth x + length rest ≤ length ls
  took level ls x rest h =
      let s = read level ls x rest h in
      let z = sized s.spelled in
      let most = z.most in
      omega (arith, ap length s.parts, length-append s.taken rest)

  turn_by : (n level : ℕ) (place : Place) → Shallow n level place → (o : Binary) (left : Expr) (ls : List Lexeme) (v : Result Expr Stuck) (mid : List Lexeme)
      → inner (level_of o + 1) ls ≡ (v, mid) → wants_room v ≡ false → 1 ≤ depth left → depth left + length ls ≤ room → room + 2 ≤ depth left + suc n
      → wants_room (onward v mid (λ b. climb room inner n level place (e.Binary place o left b))).0 ≡ false
  unfolding Shallow
  turn_by n level place further o left ls (Ok b) mid h calm some few turns =
      let t = took (level_of o + 1) ls b mid h in
      let deep = depth-Binary place o left b in
      further (e.Binary place o left b) mid (omega arith) (omega arith) (omega arith)
  turn_by n level place further o left ls (Err why) mid h calm some few turns = calm

  room_for : (b : Bool) (p : Reader Expr) (ls : List Lexeme) → b ≡ true → wants_room (p ls).0 ≡ false → wants_room ((if b then p else stop Deep) ls).0 ≡ false
  room_for true p ls sure calm = calm
  room_for false p ls sure calm = cc

  shallow_by : (n level : ℕ) (place : Place) → Shallow n level place → (left : Expr) (ls : List Lexeme) (next : Next) → next_at level (first ls) ≡ next → 1 ≤ depth left → depth left + length ls ≤ room + 1 → room + 2 ≤ depth left + suc n
      → wants_room (step_by room inner (climb room inner n level place) place left next ls).0 ≡ false
  unfolding step_by first sees mark_if binary_of right
  shallow_by n level place further left ls End seen some few turns = refl
  shallow_by n level place further left [] Question seen some few turns = let no = (next_question level None seen).1 in cc
  shallow_by n level place further left (l ∷ ls) Question seen some few turns =
      room_for (nat_le (depth left) room) (choice room inner place left) (l ∷ ls) (le-leb (depth left) room (omega arith))
      ((choice_steady room room room inner inner (omega arith) (omega arith) parts place left).shallow l ls (omega arith))
  shallow_by n level place further left [] (Operator o) seen some few turns = let no = (next_operator level None o seen).known in cc
  shallow_by n level place further left (l ∷ ls) (Operator o) seen some few turns =
      room_for (nat_le (depth left) room) (λ zs. onward (right room inner o zs).0 (right room inner o zs).1 (λ b. climb room inner n level place (e.Binary place o left b))) (l ∷ ls) (le-leb (depth left) room (omega arith))
      (turn_by n level place further o left ls (inner (level_of o + 1) ls).0 (inner (level_of o + 1) ls).1 refl ((parts (level_of o + 1)).shallow ls (omega arith)) some (omega arith) turns)

  climb_shallow : (n level : ℕ) (place : Place) → Shallow n level place
  unfolding Shallow climb
  climb_shallow zero level place left ls some few turns = absurd (omega arith)
  climb_shallow (suc n) level place left ls some few turns = shallow_by n level place (climb_shallow n level place) left ls (next_at level (first ls)) refl some few turns

  then_climb : (level : ℕ) (place : Place) (ls : List Lexeme) (v : Result Expr Stuck) (mid : List Lexeme) → ((x : Expr) → v ≡ Ok x → (1 ≤ depth x) × (depth x + length mid ≤ length ls)) → wants_room v ≡ false → length ls < suc room
      → wants_room (onward v mid (climb room inner (room + 2) level place)).0 ≡ false
  unfolding Shallow
  then_climb level place ls (Ok x) mid took calm few = let t = took x refl in let some = t.0 in let most = t.1 in climb_shallow (room + 2) level place x mid some (omega arith) (omega arith)
  then_climb level place ls (Err why) mid took calm few = calm

  pub whole_shallow : (level : ℕ) (ls : List Lexeme) → length ls < suc room → wants_room (whole room inner level ls).0 ≡ false
  unfolding whole
  whole_shallow level ls few =
      let place = place_if (first ls) in
      then_climb level place ls (operand room inner level place ls).0 (operand room inner level place ls).1
      (λ x was. operand_taken room inner read stops level ls x (operand room inner level place ls).1 (ap (λ v. (v, (operand room inner level place ls).1)) was))
      ((operand_steady room room room inner inner (omega arith) (omega arith) parts level place).shallow ls few) few

pub expr_steady : (d level : ℕ) → Steady d (expr d level) (expr d level)
unfolding expr
expr_steady zero level = expr_calm 0 0 (omega arith) level
expr_steady (suc d) level = record {
  local = (expr_calm (suc d) (suc d) (omega arith) level).local;
  stays = λ ls calm. refl;
  shallow = λ ls few. whole_shallow d (expr d) (expr_steady d) (expr_sound d) (expr_stops d) level ls few;
}
