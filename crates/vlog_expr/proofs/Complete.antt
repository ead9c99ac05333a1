-- What is spelled is read, whatever follows that doesn't go on with it.
use Rattle.std.proofs.Common.{◌≡◌, ℕ, zero, suc, ◌+◌, ◌-◌, ◌<◌, ◌≤◌, max, Bool, true, false, List, [], ◌∷◌, ◌++◌, length, drop, Option, Some, None, Result, Ok, Err, refl, sym, ap, ◌∙◌, subst, append_assoc, length-append, arith}
use Rattle.std.specs.Prelude.{codes}
use Rattle.std.specs.Str.{bytes_eq}
use Rattle.std.proofs.lemmas.Bool.{leb-true, leb-false, le-leb}
use Rattle.rdc_outside.specs.declared.source.Place.{Place}
use Rattle.vlog_tree.specs.declared.expr.Expr.{Expr}
use Rattle.vlog_tree.specs.declared.expr.Expr.TheVariants as e
use Rattle.vlog_tree.specs.declared.operator.Binary.{Binary}
use Rattle.vlog_tree.specs.Lexemes.{Lexeme, IsMark, is_mark, mark_of, start}
use Rattle.vlog_tree.specs.Names.{name_of}
use Rattle.vlog_tree.specs.Numbers.{number_of}
use Rattle.vlog_tree.specs.Operators.{level_of, unary_of, unary_of_one, unary_of_two, binary_of, binary_of_one}
use Rattle.vlog_tree.specs.Expressions.{Spells, SpellsList, number, name, index, select, brackets, concat, repeat, unary, binary, conditional, one, more}
use Rattle.vlog_tree.specs.Depth.{depth, deepest_of}
use Rattle.vlog_tree.proofs.DepthLemmas.{depth-Number, depth-Name, depth-Index, depth-Select, depth-Brackets, depth-Concat, depth-Repeat, depth-Unary, depth-Binary, depth-Conditional, deepest-nil, deepest-cons, deepest-one}
use Rattle.vlog_expr.specs.declared.cursor.Next.{Next}
use Rattle.vlog_expr.specs.declared.cursor.Next.TheVariants.{Operator, Question, End}
use Rattle.vlog_expr.specs.Reading.{Reader, first, onward, sees, mark_if, place_if}
use Rattle.vlog_expr.specs.Exprs.{next_at, operator_from, operand, right, climb, whole, others_from, expr}
use Rattle.vlog_expr.proofs.ClimbLemmas.{one_more}
use Rattle.vlog_expr.proofs.OthersLemmas.{read_shorter, no_other, one_other, behind}
use Rattle.vlog_expr.proofs.NextLemmas.{some_level, low_level, is_bytes, next_is, next_operator, next_question}
use Rattle.vlog_expr.proofs.MarkLemmas.{Quiet, bytes_of, numbered, called_mark, ends_at, quiet_round, quiet_square, quiet_brace, quiet_open, quiet_comma, quiet_colon, quiet_part}
use Rattle.vlog_expr.proofs.OpenLemmas.{ends_open, open-Name, open-Unary, open-Binary, open-Conditional}
use Rattle.vlog_expr.proofs.SpelledLemmas.{Sized, sized, sized_list, start_same}
use Rattle.vlog_expr.proofs.Forward.{read_number, read_name, read_index, read_select, read_brackets, read_concat, read_repeat, read_primary, read_unary, read_choice, read_more, read_right, climb_end, climb_choice}

-- no operator goes on with what is spelled at a level
pub record Follows (level : ℕ) (rest : List Lexeme) : Type 0 where
  pub loose : level ≡ 0 → next_at 0 (first rest) ≡ End
  pub tight : next_at (level + 1) (first rest) ≡ End

-- no select goes on with it
abbrev pub Unopened : Expr → List Lexeme → Type 0
Unopened x rest = ends_open x ≡ true → sees (codes "[") (first rest) ≡ false

-- the reader comes to where the expression is read, and goes on behind it
pub record Reached (room level : ℕ) (us : List Lexeme) (x : Expr) (rest : List Lexeme) : Type 0 where
  pub turns : ℕ
  pub enough : room + 2 ≤ depth x + turns
  pub goes : expr (suc room) level (us ++ rest) ≡ climb room (expr room) turns level (start us) x rest

abbrev pub Completes : ℕ → List Lexeme → Expr → Type 0
Completes j us x = (room level : ℕ) (rest : List Lexeme) → level ≤ j → depth x ≤ suc room → Follows j rest → Unopened x rest → Reached room level us x rest

moved : {room level : ℕ} {us vs : List Lexeme} {x y : Expr} {rest : List Lexeme} → Reached room level us x rest → vs ≡ us → y ≡ x → Reached room level vs y rest
moved {room = room} {level = level} {us = us} {x = x} {y = y} {rest = rest} r e f =
    subst (λ z. Reached room level z y rest) (sym e) (subst (λ z. Reached room level us z rest) (sym f) r)

-- a part that something follows
pub part_read : {j : ℕ} {us : List Lexeme} {x : Expr} → Completes j us x → 1 ≤ depth x → (d level : ℕ) (rest : List Lexeme) → level ≤ j → depth x ≤ d → Follows j rest → Unopened x rest → next_at level (first rest) ≡ End
    → expr d level (us ++ rest) ≡ (Ok x, rest)
part_read {us = us} {x = x} c some zero level rest low shallow follows unopened done = absurd (omega arith)
part_read {us = us} {x = x} c some (suc room) level rest low shallow follows unopened done =
    let r = c room level rest low shallow follows unopened in
    r.goes ∙ climb_end room (expr room) r.turns level (start us) x rest (let enough = r.enough in omega arith) done

-- a part that a quiet mark follows
inside_read : {us : List Lexeme} {x : Expr} → Completes 0 us x → 1 ≤ depth x → (d : ℕ) (r : Lexeme) (rest : List Lexeme) → depth x ≤ d → Quiet r → expr d 0 (us ++ r ∷ rest) ≡ (Ok x, r ∷ rest)
unfolding first
inside_read c some d r rest shallow q =
    part_read c some d 0 (r ∷ rest) (omega arith) shallow (record { loose = λ e. q.ends 0; tight = q.ends 1 }) (λ open_end. q.opens) (q.ends 0)

-- an expression that is its first operand
first_reached : (room level : ℕ) (l : Lexeme) (us : List Lexeme) (x : Expr) (rest : List Lexeme) → operand room (expr room) level l.place (l ∷ (us ++ rest)) ≡ (Ok x, rest) → Reached room level (l ∷ us) x rest
unfolding expr whole first place_if start
first_reached room level l us x rest h = record {
  turns = room + 2;
  enough = omega arith;
  goes = ap (λ o. onward o.0 o.1 (climb room (expr room) (room + 2) level l.place)) h;
}

start_at : (ls : List Lexeme) (l : Lexeme) (us : List Lexeme) → ls ≡ l ∷ us → start ls ≡ l.place
unfolding start
start_at ls l us e = ap start e

no_sign : (l : Lexeme) → mark_of l ≡ [] → unary_of (mark_of l) ≡ None
unfolding unary_of
no_sign l e = ap unary_of e

no_round : (l : Lexeme) → IsMark (codes "(") l → unary_of (mark_of l) ≡ None
unfolding unary_of unary_of_one
no_round l m = ap unary_of (bytes_of (codes "(") l m)

no_curly : (l : Lexeme) → IsMark (codes "{") l → unary_of (mark_of l) ≡ None
unfolding unary_of unary_of_one
no_curly l m = ap unary_of (bytes_of (codes "{") l m)

-- an operator of a lower level
lower_end : (k : ℕ) (l : Option Lexeme) (o : Binary) → binary_of (mark_if l) ≡ Some o → level_of o ≤ k → next_at (k + 1) l ≡ End
lower_end k l o known low = by (next_at (k + 1) l) refl
  where
    by : (next : Next) → next_at (k + 1) l ≡ next → next_at (k + 1) l ≡ End
    by End seen = seen
    by Question seen = let none = (next_question (k + 1) l seen).0 in absurd (omega arith)
    by (Operator p) seen =
        let found = next_operator (k + 1) l p seen in
        let same : o ≡ p = let both = sym known ∙ found.known in cc in
        let high = found.high in
        absurd (omega (arith, ap level_of same))

-- what is no operator of a level is none of a higher one
pub higher_end : (j k : ℕ) (l : Option Lexeme) → next_at j l ≡ End → j ≤ k → 1 ≤ k → next_at k l ≡ End
higher_end j k l done le some = by (next_at k l) refl
  where
    by : (next : Next) → next_at k l ≡ next → next_at k l ≡ End
    by End seen = seen
    by Question seen = let none = (next_question k l seen).0 in absurd (omega arith)
    by (Operator o) seen = let found = next_operator k l o seen in let here = next_is j l o found.known (let high = found.high in omega arith) in cc

-- no operator is of such a level
top_end : (k : ℕ) (l : Option Lexeme) → 12 ≤ k → next_at k l ≡ End
top_end k l high = by (next_at k l) refl
  where
    by : (next : Next) → next_at k l ≡ next → next_at k l ≡ End
    by End seen = seen
    by Question seen = let none = (next_question k l seen).0 in absurd (omega arith)
    by (Operator o) seen = let found = next_operator k l o seen in let above = found.high in let low = low_level o in absurd (omega arith)

unseen : (m other : List ℕ) (r : Lexeme) → IsMark m r → bytes_eq m other ≡ false → sees other (Some r) ≡ false
unfolding sees is_mark
unseen m other r marks differ = ap (λ b. bytes_eq b other) (bytes_of m r marks) ∙ differ

-- no `[` is an operator
unopened_operator : (l : Lexeme) (o : Binary) → binary_of (mark_of l) ≡ Some o → sees (codes "[") (Some l) ≡ false
unfolding sees is_mark binary_of binary_of_one
unopened_operator l o known = by (bytes_eq (mark_of l) (codes "[")) refl
  where
    by : (b : Bool) → bytes_eq (mark_of l) (codes "[") ≡ b → bytes_eq (mark_of l) (codes "[") ≡ false
    by true seen = let none = ap binary_of (is_bytes (mark_of l) (codes "[") seen) in cc
    by false seen = seen

-- a question mark is an operator of no level
asking : (l : Lexeme) → IsMark (codes "?") l → (k : ℕ) → next_at (k + 1) (Some l) ≡ End
unfolding mark_if binary_of binary_of_one
asking l asks k = by (next_at (k + 1) (Some l)) refl
  where
    by : (next : Next) → next_at (k + 1) (Some l) ≡ next → next_at (k + 1) (Some l) ≡ End
    by End seen = seen
    by Question seen = let none = (next_question (k + 1) (Some l) seen).0 in absurd (omega arith)
    by (Operator o) seen = let found = (next_operator (k + 1) (Some l) o seen).known in let none = ap binary_of (bytes_of (codes "?") l asks) in cc

asked : (l : Lexeme) → IsMark (codes "?") l → next_at 0 (Some l) ≡ Question
unfolding next_at sees
asked l asks = rw asks

-- a list, up to the mark behind it
record ListRead (d : ℕ) (ls : List Lexeme) (es : List Expr) (rest : List Lexeme) : Type 0 where
  member : Expr
  members : List Expr
  mid : List Lexeme
  all : es ≡ member ∷ members
  read : expr d 0 ls ≡ (Ok member, mid)
  further : (n : ℕ) → length mid ≤ n → others_from d (expr d) n mid ≡ (Ok members, rest)
  unbraced : sees (codes "{") (first mid) ≡ false

further_by : (d : ℕ) (comma : Lexeme) (ls : List Lexeme) (fs : List Expr) (rest : List Lexeme) → IsMark (codes ",") comma → ListRead d ls fs rest
    → (n : ℕ) → length (comma ∷ ls) ≤ n → others_from d (expr d) n (comma ∷ ls) ≡ (Ok fs, rest)
further_by d comma ls fs rest commas t zero le = absurd (omega arith)
further_by d comma ls fs rest commas t (suc m) le =
    let less = read_shorter d 0 ls (Ok t.member) t.mid t.read in
    read_more d (expr d) m comma ls t.mid rest t.member t.members commas t.read (t.further m (omega arith)) ∙ ap (λ es. (Ok es, rest)) (sym t.all)

mutual
  unfolding first mark_if

  pub complete : {j : ℕ} {us : List Lexeme} {x : Expr} → Spells j us x → Completes j us x
  complete {us = us} (number l n known is xe) room level rest low shallow follows unopened =
      moved (first_reached room level l [] (e.Number l.place n) rest (read_primary room (expr room) level l.place l rest (no_sign l (numbered l n known)) ∙ read_number room (expr room) l.place l rest n known))
      is (xe ∙ ap (λ p. e.Number p n) (start_at us l [] is))
  complete {us = us} (name l called known is xe) room level rest low shallow follows unopened =
      moved (first_reached room level l [] (e.Name l.place called) rest
      (read_primary room (expr room) level l.place l rest (no_sign l (called_mark l called known)) ∙ read_name room (expr room) l.place l rest called known (unopened (ap ends_open xe ∙ open-Name (start us) called))))
      is (xe ∙ ap (λ p. e.Name p called) (start_at us l [] is))
  complete {us = us} (index l left close called is i known opens inside closes parts xe) room level rest low shallow follows unopened =
      let deep = ap depth xe ∙ depth-Index (start us) called i in
      let s = sized inside in
      let some = s.some in
      let us' = is ++ close ∷ [] in
      let read = ap (expr room 0) (append_assoc is (close ∷ []) rest) ∙ inside_read (complete inside) s.some room close rest (omega arith) (quiet_square close closes) in
      moved (first_reached room level l (left ∷ us') (e.Index l.place called i) rest
      (read_primary room (expr room) level l.place l (left ∷ (us' ++ rest)) (no_sign l (called_mark l called known))
      ∙ read_index room (expr room) l.place l left close (us' ++ rest) rest called i known opens (omega arith) read closes))
      parts (xe ∙ ap (λ p. e.Index p called i) (start_at us l (left ∷ us') parts))
  complete {us = us} (select l left mark close called part is js i j known opens inside seen second closes parts xe) room level rest low shallow follows unopened =
      let deep = ap depth xe ∙ depth-Select (start us) called part i j in
      let s = sized inside in
      let some = s.some in
      let t = sized second in
      let vs = js ++ close ∷ [] in
      let us' = is ++ mark ∷ vs in
      let read = ap (expr room 0) (append_assoc is (mark ∷ vs) rest) ∙ inside_read (complete inside) s.some room mark (vs ++ rest) (omega arith) (quiet_part mark part seen) in
      let reads = ap (expr room 0) (append_assoc js (close ∷ []) rest) ∙ inside_read (complete second) t.some room close rest (omega arith) (quiet_square close closes) in
      moved (first_reached room level l (left ∷ us') (e.Select part l.place called i j) rest
      (read_primary room (expr room) level l.place l (left ∷ (us' ++ rest)) (no_sign l (called_mark l called known))
      ∙ read_select room (expr room) l.place l left mark close (us' ++ rest) (vs ++ rest) rest called part i j known opens (omega arith) read seen reads closes))
      parts (xe ∙ ap (λ p. e.Select part p called i j) (start_at us l (left ∷ us') parts))
  complete {us = us} (brackets left close is i opens inside closes parts xe) room level rest low shallow follows unopened =
      let deep = ap depth xe ∙ depth-Brackets (start us) i in
      let s = sized inside in
      let some = s.some in
      let us' = is ++ close ∷ [] in
      let read = ap (expr room 0) (append_assoc is (close ∷ []) rest) ∙ inside_read (complete inside) s.some room close rest (omega arith) (quiet_round close closes) in
      moved (first_reached room level left us' (e.Brackets left.place i) rest
      (read_primary room (expr room) level left.place left (us' ++ rest) (no_round left opens)
      ∙ read_brackets room (expr room) left.place left close (us' ++ rest) rest i opens (omega arith) read closes))
      parts (xe ∙ ap (λ p. e.Brackets p i) (start_at us left us' parts))
  complete {us = us} (concat left close is es opens inside closes parts xe) room level rest low shallow follows unopened =
      let deep = ap depth xe ∙ depth-Concat (start us) es in
      let s = sized_list inside in
      let some = s.some in
      let us' = is ++ close ∷ [] in
      let t = complete_list inside room close rest (omega arith) (quiet_brace close closes) (unseen (codes "}") (codes ",") close closes refl) (unseen (codes "}") (codes "{") close closes refl) in
      let read = ap (expr room 0) (append_assoc is (close ∷ []) rest) ∙ t.read in
      moved (first_reached room level left us' (e.Concat left.place (t.member ∷ t.members)) rest
      (read_primary room (expr room) level left.place left (us' ++ rest) (no_curly left opens)
      ∙ read_concat room (expr room) left.place left close (us' ++ rest) t.mid rest t.member t.members opens (omega arith) read t.unbraced (t.further (length t.mid) (omega arith)) closes))
      parts (xe ∙ (ap (λ p. e.Concat p es) (start_at us left us' parts) ∙ ap (λ z. e.Concat left.place z) t.all))
  complete {us = us} (repeat left open_inner outer close zs is c es opens count opened inside closed closes parts xe) room level rest low shallow follows unopened =
      let deep = ap depth xe ∙ depth-Repeat (start us) c es in
      let s = sized count in
      let some = s.some in
      let u = sized_list inside in
      let vs = is ++ outer ∷ close ∷ [] in
      let us' = zs ++ open_inner ∷ vs in
      let first_read = ap (expr room 0) (append_assoc zs (open_inner ∷ vs) rest) ∙ inside_read (complete count) s.some room open_inner (vs ++ rest) (omega arith) (quiet_open open_inner opened) in
      let t = complete_list inside room outer (close ∷ rest) (omega arith) (quiet_brace outer closed) (unseen (codes "}") (codes ",") outer closed refl) (unseen (codes "}") (codes "{") outer closed refl) in
      let read = ap (expr room 0) (append_assoc is (outer ∷ close ∷ []) rest) ∙ t.read in
      moved (first_reached room level left us' (e.Repeat left.place c (t.member ∷ t.members)) rest
      (read_primary room (expr room) level left.place left (us' ++ rest) (no_curly left opens)
      ∙ read_repeat room (expr room) left.place left open_inner outer close (us' ++ rest) (vs ++ rest) t.mid rest c t.member t.members opens (omega arith) first_read opened read (t.further (length t.mid) (omega arith)) closed closes))
      parts (xe ∙ (ap (λ p. e.Repeat p c es) (start_at us left us' parts) ∙ ap (λ z. e.Repeat left.place c z) t.all))
  complete {us = us} (unary mark op us' u top known inside parts xe) room level rest low shallow follows unopened =
      let deep = ap depth xe ∙ depth-Unary (start us) op u in
      let s = sized inside in
      let some = s.some in
      let read = part_read (complete inside) s.some room 13 rest (omega arith) (omega arith) (record { loose = λ z. absurd (omega arith); tight = top_end (13 + 1) (first rest) (omega arith) })
      (λ open_end. unopened (ap ends_open xe ∙ (open-Unary (start us) op u ∙ open_end))) (top_end 13 (first rest) (omega arith)) in
      moved (first_reached room level mark us' (e.Unary mark.place op u) rest (read_unary room (expr room) level mark.place mark op (us' ++ rest) rest u (omega arith) known (omega arith) read))
      parts (xe ∙ ap (λ p. e.Unary p op u) (start_at us mark us' parts))
  complete {j = j} {us = us} (binary mark op xs ys a b top left_part known right_part parts xe) room level rest low shallow follows unopened =
      let deep = ap depth xe ∙ depth-Binary (start us) op a b in
      let k = level_of op in
      let some = some_level op in
      let s = sized left_part in
      let t = sized right_part in
      let later = higher_end (j + 1) (k + 1) (first rest) follows.tight (omega arith) (omega arith) in
      let read = part_read (complete right_part) t.some room (k + 1) rest (omega arith) (omega arith)
      (record { loose = λ z. absurd (omega arith); tight = higher_end (j + 1) (k + 1 + 1) (first rest) follows.tight (omega arith) (omega arith) })
      (λ open_end. unopened (ap ends_open xe ∙ (open-Binary (start us) op a b ∙ open_end))) later in
      let r = complete left_part room level (mark ∷ (ys ++ rest)) (omega arith) (omega arith)
      (record { loose = λ z. absurd (omega arith); tight = lower_end k (Some mark) op known (omega arith) }) (λ open_end. unopened_operator mark op known) in
      let enough = r.enough in
      let place = start xs in
      let turn : suc (r.turns - 1) ≡ r.turns = omega arith in
      let next = next_is level (Some mark) op known (omega arith) in
      let begins : start us ≡ start xs = ap start parts ∙ start_same left_part (mark ∷ ys) in
      let built = depth-Binary place op a b in
      moved (record {
        turns = r.turns - 1;
        enough = omega arith;
        goes = ap (expr (suc room) level) (append_assoc xs (mark ∷ ys) rest)
            ∙ (r.goes
            ∙ (ap (λ n. climb room (expr room) n level place a (mark ∷ (ys ++ rest))) (sym turn)
            ∙ (one_more room (expr room) (r.turns - 1) level place a op b (mark ∷ (ys ++ rest)) rest next (omega arith) (read_right room (expr room) op mark (ys ++ rest) ∙ read)
            ∙ ap (λ p. climb room (expr room) (r.turns - 1) level p (e.Binary place op a b) rest) (sym (start_same left_part (mark ∷ ys))))));
      }) parts (xe ∙ ap (λ p. e.Binary p op a b) begins)
  complete {j = j} {us = us} {x = x} (conditional question colon xs ys zs test a b none left_part asks middle colons last parts xe) room level rest low shallow follows unopened =
      let deep = ap depth xe ∙ depth-Conditional (start us) test a b in
      let lowest : level ≡ 0 = omega arith in
      let s = sized left_part in
      let t = sized middle in
      let u = sized last in
      let done = follows.loose none in
      let begins : start us ≡ start xs = ap start parts ∙ start_same left_part (question ∷ (ys ++ colon ∷ zs)) in
      let place = start xs in
      let read_a = inside_read (complete middle) t.some room colon (zs ++ rest) (omega arith) (quiet_colon colon colons) in
      let read_b = part_read (complete last) u.some room 0 rest (omega arith) (omega arith) (record { loose = λ z. done; tight = higher_end 0 (0 + 1) (first rest) done (omega arith) (omega arith) })
      (λ open_end. unopened (ap ends_open xe ∙ (open-Conditional (start us) test a b ∙ open_end))) done in
      let r = complete left_part room 0 (question ∷ (ys ++ colon ∷ (zs ++ rest))) (omega arith) (omega arith)
      (record { loose = λ z. absurd (omega arith); tight = asking question asks 1 }) (λ open_end. unseen (codes "?") (codes "[") question asks refl) in
      let enough = r.enough in
      let chosen = read_choice room (expr room) place test a b question colon (ys ++ colon ∷ (zs ++ rest)) (zs ++ rest) rest read_a colons read_b in
      let vs = ys ++ colon ∷ zs in
      subst (λ z. Reached room z us x rest) (sym lowest) (moved (record {
        turns = room + 2;
        enough = omega arith;
        goes = ap (expr (suc room) 0) (append_assoc xs (question ∷ vs) rest ∙ ap (λ z. xs ++ question ∷ z) (append_assoc ys (colon ∷ zs) rest))
            ∙ (r.goes
            ∙ (climb_choice room (expr room) r.turns 0 place test (question ∷ (ys ++ colon ∷ (zs ++ rest))) (omega arith) (asked question asks) (omega arith)
            ∙ (chosen ∙ sym (climb_end room (expr room) (room + 2) 0 (start (xs ++ question ∷ vs)) (e.Conditional place test a b) rest (omega arith) done))));
      }) parts (xe ∙ ap (λ p. e.Conditional p test a b) begins))

  complete_list : {ls : List Lexeme} {es : List Expr} → SpellsList ls es → (d : ℕ) (r : Lexeme) (rest : List Lexeme) → deepest_of depth es ≤ d → Quiet r → sees (codes ",") (Some r) ≡ false → sees (codes "{") (Some r) ≡ false
      → ListRead d (ls ++ r ∷ rest) es (r ∷ rest)
  complete_list (one x spelled es) d r rest shallow q uncomma unbrace =
      let deep = ap (deepest_of depth) es ∙ deepest-one x in
      record {
        member = x;
        members = [];
        mid = r ∷ rest;
        all = es;
        read = inside_read (complete spelled) (sized spelled).some d r rest (omega arith) q;
        further = λ n le. no_other d (expr d) n (r ∷ rest) uncomma;
        unbraced = unbrace;
      }
  complete_list (more comma is js x fs spelled commas others parts es) d r rest shallow q uncomma unbrace =
      let deep = ap (deepest_of depth) es ∙ deepest-cons x fs in
      let t = complete_list others d r rest (omega arith) q uncomma unbrace in
      record {
        member = x;
        members = fs;
        mid = comma ∷ (js ++ r ∷ rest);
        all = es;
        read = ap (expr d 0) (ap (λ z. z ++ r ∷ rest) parts ∙ append_assoc is (comma ∷ js) (r ∷ rest))
            ∙ inside_read (complete spelled) (sized spelled).some d comma (js ++ r ∷ rest) (omega arith) (quiet_comma comma commas);
        further = further_by d comma (js ++ r ∷ rest) fs (r ∷ rest) commas t;
        unbraced = unseen (codes ",") (codes "{") comma commas refl;
      }
