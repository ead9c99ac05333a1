-- Where the parts are read, so is the whole.
use Rattle.std.proofs.Common.{◌≡◌, ℕ, zero, suc, ◌+◌, ◌<◌, ◌≤◌, Bool, true, false, List, [], ◌∷◌, ◌++◌, length, drop, Option, Some, None, Result, Ok, Err, refl, sym, ap, ◌∙◌, subst, arith}
use Rattle.std.specs.Prelude.{nat_le, if◌then◌else◌, codes}
use Rattle.std.specs.Str.{bytes_eq}
use Rattle.std.proofs.lemmas.Bool.{le-leb}
use Rattle.rdc_outside.specs.declared.source.Place.{Place}
use Rattle.vlog_tree.specs.declared.expr.Expr.{Expr}
use Rattle.vlog_tree.specs.declared.expr.Expr.TheVariants as e
use Rattle.vlog_tree.specs.declared.expr.Part.{Part}
use Rattle.vlog_tree.specs.declared.number.Number.{Number}
use Rattle.vlog_tree.specs.declared.operator.Unary.{Unary}
use Rattle.vlog_tree.specs.Lexemes.{Lexeme, IsMark, is_mark, mark_of}
use Rattle.vlog_tree.specs.Names.{name_of}
use Rattle.vlog_tree.specs.Numbers.{number_of}
use Rattle.vlog_tree.specs.declared.operator.Binary.{Binary}
use Rattle.vlog_tree.specs.Operators.{level_of, part_of, unary_of}
use Rattle.vlog_tree.specs.Depth.{depth}
use Rattle.vlog_expr.specs.declared.stuck.Stuck.TheVariants.{Deep}
use Rattle.vlog_expr.specs.declared.cursor.Next.TheVariants.{Question, End}
use Rattle.vlog_expr.specs.Reading.{Reader, first, onward, pure, sees, expect, mark_if, name_if, number_if}
use Rattle.vlog_expr.specs.Exprs.{next_at, unary_at, part_if, within, select_by, select, named, brackets, others_from, others, repeat, concat, braces, braced, group, name_by, primary_by, primary, negated, operand_by, operand, choice, right, step_by, climb}
use Rattle.vlog_expr.proofs.MarkLemmas.{bytes_of, called_number, marked_name, marked_number}

no_unary_by : (b : Bool) (found : Option Unary) → found ≡ None → (if b then found else None) ≡ None
no_unary_by true found none = none
no_unary_by false found none = refl

pub no_unary : (level : ℕ) (l : Lexeme) → unary_of (mark_of l) ≡ None → unary_at level (Some l) ≡ None
unfolding unary_at mark_if
no_unary level l none = no_unary_by (nat_le level 12) (unary_of (mark_of l)) none

module _ (room : ℕ) (inner : ℕ → Reader Expr) where
  pub read_number : (place : Place) (l : Lexeme) (ls : List Lexeme) (n : Number) → number_of l ≡ Some n → primary room inner place (l ∷ ls) ≡ (Ok (e.Number place n), ls)
  unfolding primary primary_by number_if first
  read_number place l ls n known = ap (λ o. primary_by room inner place o (l ∷ ls)) known

  at_name : (place : Place) (l : Lexeme) (ls : List Lexeme) (called : List ℕ) → name_of l ≡ Some called → primary room inner place (l ∷ ls) ≡ named room inner place called ls
  unfolding primary primary_by number_if name_if name_by first
  at_name place l ls called known =
      ap (λ o. primary_by room inner place o (l ∷ ls)) (called_number l called known) ∙ ap (λ o. name_by room inner place o (l ∷ ls)) known

  pub read_name : (place : Place) (l : Lexeme) (ls : List Lexeme) (called : List ℕ) → name_of l ≡ Some called → sees (codes "[") (first ls) ≡ false → primary room inner place (l ∷ ls) ≡ (Ok (e.Name place called), ls)
  unfolding named
  read_name place l ls called known unseen =
      at_name place l ls called known ∙ ap (λ b. (if b then within room inner (select room inner place called) else pure (e.Name place called)) ls) unseen

  at_select : (place : Place) (l left : Lexeme) (ls : List Lexeme) (called : List ℕ) → name_of l ≡ Some called → IsMark (codes "[") left → 1 ≤ room
      → primary room inner place (l ∷ left ∷ ls) ≡ select room inner place called (left ∷ ls)
  unfolding named sees first
  at_select place l left ls called known opens some =
      at_name place l (left ∷ ls) called known
      ∙ (ap (λ b. (if b then within room inner (select room inner place called) else pure (e.Name place called)) (left ∷ ls)) opens
      ∙ ap (λ b. (if b then select room inner place called else (λ ls'. (Err Deep, ls'))) (left ∷ ls)) (le-leb 1 room some))

  pub read_index : (place : Place) (l left right : Lexeme) (ls rest : List Lexeme) (called : List ℕ) (i : Expr) → name_of l ≡ Some called → IsMark (codes "[") left → 1 ≤ room
      → inner 0 ls ≡ (Ok i, right ∷ rest) → IsMark (codes "]") right → primary room inner place (l ∷ left ∷ ls) ≡ (Ok (e.Index place called i), rest)
  unfolding select select_by part_if mark_if expect sees first part_of
  read_index place l left right ls rest called i known opens some read closes =
      let none : part_of (mark_of right) ≡ None = ap part_of (bytes_of (codes "]") right closes) in
      at_select place l left ls called known opens some ∙ rw (read, none, closes)

  pub read_select : (place : Place) (l left mark right : Lexeme) (ls mid rest : List Lexeme) (called : List ℕ) (part : Part) (i j : Expr) → name_of l ≡ Some called → IsMark (codes "[") left → 1 ≤ room
      → inner 0 ls ≡ (Ok i, mark ∷ mid) → part_of (mark_of mark) ≡ Some part → inner 0 mid ≡ (Ok j, right ∷ rest) → IsMark (codes "]") right
      → primary room inner place (l ∷ left ∷ ls) ≡ (Ok (e.Select part place called i j), rest)
  unfolding select select_by part_if mark_if expect sees first
  read_select place l left mark right ls mid rest called part i j known opens some read seen second closes =
      at_select place l left ls called known opens some ∙ rw (read, seen, second, closes)

  at_group : (place : Place) (l : Lexeme) (ls : List Lexeme) (m : ℕ) (ms : List ℕ) → mark_of l ≡ m ∷ ms → primary room inner place (l ∷ ls) ≡ group room inner place (l ∷ ls)
  unfolding primary primary_by number_if name_if name_by first
  at_group place l ls m ms bytes =
      ap (λ o. primary_by room inner place o (l ∷ ls)) (marked_number l m ms bytes) ∙ ap (λ o. name_by room inner place o (l ∷ ls)) (marked_name l m ms bytes)

  pub read_brackets : (place : Place) (left right : Lexeme) (ls rest : List Lexeme) (i : Expr) → IsMark (codes "(") left → 1 ≤ room
      → inner 0 ls ≡ (Ok i, right ∷ rest) → IsMark (codes ")") right → primary room inner place (left ∷ ls) ≡ (Ok (e.Brackets place i), rest)
  unfolding group brackets expect sees first
  read_brackets place left right ls rest i opens some read closes =
      let fits = le-leb 1 room some in
      at_group place left ls 40 [] (bytes_of (codes "(") left opens) ∙ rw (opens, fits, read, closes)

  not_round : (l : Lexeme) → IsMark (codes "{") l → is_mark (codes "(") l ≡ false
  unfolding is_mark
  not_round l opens = ap (λ b. bytes_eq b (codes "(")) (bytes_of (codes "{") l opens)

  at_braces : (place : Place) (left : Lexeme) (ls : List Lexeme) → IsMark (codes "{") left → 1 ≤ room → primary room inner place (left ∷ ls) ≡ braces room inner place (left ∷ ls)
  unfolding group braced sees first
  at_braces place left ls opens some =
      let fits = le-leb 1 room some in
      let other = not_round left opens in
      at_group place left ls 123 [] (bytes_of (codes "{") left opens) ∙ rw (other, opens, fits)

  see : (m : List ℕ) (r : Lexeme) (rest : List Lexeme) → IsMark m r → sees m (first (r ∷ rest)) ≡ true
  unfolding sees first
  see m r rest closes = closes

  pub read_concat : (place : Place) (left right : Lexeme) (ls mid rest : List Lexeme) (x : Expr) (xs : List Expr) → IsMark (codes "{") left → 1 ≤ room
      → inner 0 ls ≡ (Ok x, mid) → sees (codes "{") (first mid) ≡ false → others_from room inner (length mid) mid ≡ (Ok xs, right ∷ rest) → IsMark (codes "}") right
      → primary room inner place (left ∷ ls) ≡ (Ok (e.Concat place (x ∷ xs)), rest)
  unfolding braces concat others expect
  read_concat place left right ls mid rest x xs opens some read unopened further closes =
      let seen : sees (codes "}") (first (right ∷ rest)) ≡ true = see (codes "}") right rest closes in
      at_braces place left ls opens some ∙ rw (read, unopened, further, seen)

  pub read_repeat : (place : Place) (left inside outer right : Lexeme) (ls next mid rest : List Lexeme) (c x : Expr) (xs : List Expr) → IsMark (codes "{") left → 1 ≤ room
      → inner 0 ls ≡ (Ok c, inside ∷ next) → IsMark (codes "{") inside → inner 0 next ≡ (Ok x, mid) → others_from room inner (length mid) mid ≡ (Ok xs, outer ∷ right ∷ rest)
      → IsMark (codes "}") outer → IsMark (codes "}") right → primary room inner place (left ∷ ls) ≡ (Ok (e.Repeat place c (x ∷ xs)), rest)
  unfolding braces repeat others expect
  read_repeat place left inside outer right ls next mid rest c x xs opens some count opened read further closes ends =
      let again = see (codes "{") inside next opened in
      let one = see (codes "}") outer (right ∷ rest) closes in
      let two = see (codes "}") right rest ends in
      at_braces place left ls opens some ∙ rw (count, again, read, further, one, two)

  pub read_primary : (level : ℕ) (place : Place) (l : Lexeme) (ls : List Lexeme) → unary_of (mark_of l) ≡ None → operand room inner level place (l ∷ ls) ≡ primary room inner place (l ∷ ls)
  unfolding operand operand_by first
  read_primary level place l ls none = ap (λ o. operand_by room inner place o (l ∷ ls)) (no_unary level l none)

  pub read_unary : (level : ℕ) (place : Place) (mark : Lexeme) (op : Unary) (ls rest : List Lexeme) (u : Expr) → level ≤ 12 → unary_of (mark_of mark) ≡ Some op → 1 ≤ room
      → inner 13 ls ≡ (Ok u, rest) → operand room inner level place (mark ∷ ls) ≡ (Ok (e.Unary place op u), rest)
  unfolding operand operand_by negated unary_at mark_if first
  read_unary level place mark op ls rest u low known some read =
      let fits = le-leb 1 room some in
      let may = le-leb level 12 low in
      rw (may, known, fits, read)

  pub read_choice : (place : Place) (test a b : Expr) (question colon : Lexeme) (ls mid rest : List Lexeme) → inner 0 ls ≡ (Ok a, colon ∷ mid) → IsMark (codes ":") colon → inner 0 mid ≡ (Ok b, rest)
      → choice room inner place test (question ∷ ls) ≡ (Ok (e.Conditional place test a b), rest)
  unfolding choice expect
  read_choice place test a b question colon ls mid rest one between two =
      let seen = see (codes ":") colon mid between in
      rw (one, seen, two)

  pub climb_end : (n level : ℕ) (place : Place) (left : Expr) (ls : List Lexeme) → 1 ≤ n → next_at level (first ls) ≡ End → climb room inner n level place left ls ≡ (Ok left, ls)
  unfolding climb step_by
  climb_end zero level place left ls some done = absurd (omega arith)
  climb_end (suc n) level place left ls some done = rw done

  pub climb_choice : (n level : ℕ) (place : Place) (left : Expr) (ls : List Lexeme) → 1 ≤ n → next_at level (first ls) ≡ Question → depth left ≤ room → climb room inner n level place left ls ≡ choice room inner place left ls
  unfolding climb step_by
  climb_choice zero level place left ls some asks shallow = absurd (omega arith)
  climb_choice (suc n) level place left ls some asks shallow =
      let fits = le-leb (depth left) room shallow in
      rw (asks, fits)

  pub read_more : (m : ℕ) (comma : Lexeme) (ls mid rest : List Lexeme) (y : Expr) (ys : List Expr) → IsMark (codes ",") comma → inner 0 ls ≡ (Ok y, mid) → others_from room inner m mid ≡ (Ok ys, rest)
      → others_from room inner (suc m) (comma ∷ ls) ≡ (Ok (y ∷ ys), rest)
  unfolding others_from sees first
  read_more m comma ls mid rest y ys seen read further = rw (seen, read, further)

  pub read_right : (op : Binary) (mark : Lexeme) (ls : List Lexeme) → right room inner op (mark ∷ ls) ≡ inner (level_of op + 1) ls
  unfolding right
  read_right op mark ls = refl
