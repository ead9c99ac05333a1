-- The reader of targets is exact.
--     Aim room us x next              us spells the target x, which is no deeper than the room, and no select of it follows
use Rattle.std.proofs.Common.{◌≡◌, ℕ, zero, suc, ◌≤◌, Bool, true, false, List, [], ◌∷◌, ◌++◌, Option, Some, None, refl, sym, ap, ◌∙◌, subst, append-nil, arith}
use Rattle.std.specs.Str.{bytes_eq}
use Rattle.std.specs.Prelude.{codes}
use Rattle.rdc_outside.specs.declared.source.Place.{Place}
use Rattle.vlog_tree.specs.declared.expr.Expr.{Expr}
use Rattle.vlog_tree.specs.declared.expr.Expr.TheVariants as e
use Rattle.vlog_tree.specs.declared.expr.Part.{Part}
use Rattle.vlog_tree.specs.Lexemes.{Lexeme, IsMark, is_mark, mark_of, mark_in, start}
use Rattle.vlog_tree.specs.Names.{name_of}
use Rattle.vlog_tree.specs.Operators.{part_of}
use Rattle.vlog_tree.specs.Expressions as t
use Rattle.vlog_tree.specs.Expressions.{SpellsPlain, SpellsTarget, SpellsTargets}
use Rattle.vlog_tree.specs.Depth.{depth, deepest_of}
use Rattle.vlog_tree.proofs.DepthLemmas.{depth-Name, depth-Index, depth-Select, depth-Concat, deepest-cons, deepest-one}
use Rattle.vlog_expr.specs.declared.stuck.Stuck.TheVariants.{Wrong, Deep}
use Rattle.vlog_expr.specs.Reading.{Reader, mark_if, place_if, name_if, sees}
use Rattle.vlog_expr.specs.Exprs.{part_if}
use Rattle.vlog_expr.proofs.MarkLemmas.{bytes_of, marked_name, quiet_square, quiet_comma, quiet_brace, quiet_part}
use Rattle.vlog_expr.proofs.OpenLemmas.{ends_open, open-Name, open-Index, open-Select, open-Concat}
use Rattle.vlog_expr.proofs.PlainLemmas.{quiet_ended}
use Rattle.vlog_expr.proofs.SpelledLemmas.{sized}
use Rattle.vlog_stmt.specs.Lists.{Keeps}
use Rattle.vlog_stmt.specs.Targets.{begins_target, no_target, index_end, part_end, select, named, members, braced, whole_target, target}
use Rattle.vlog_stmt.proofs.TargetsSteady.{target_keeps}
use Rattle.vlog_stmt.proofs.Exact.{Spelling, front, Exact, Nothing, Never, Known, there, absent as unknown, Behind, Roomy, Row, Choose, exact_as, exact_pure, exact_stop, exact_at, exact_known, exact_mark, exact_if, exact_within, ◌>>=◌}
use Rattle.vlog_stmt.proofs.ManyExact.{Many, stopped, more, Commas, exact_commas}
use Rattle.vlog_stmt.proofs.PiecesExact.{Value, exact_value}

pub record Aim (room : ℕ) (us : List Lexeme) (x : Expr) (next : Option Lexeme) : Type 0 where
  pub spelled : SpellsTarget us x
  pub shallow : depth x ≤ room
  pub closed : ends_open x ≡ true → sees (codes "[") next ≡ false

-- a target is some depth
pub target_some : {us : List Lexeme} {x : Expr} → SpellsTarget us x → 1 ≤ depth x
target_some {us = us} (t.name l called known is x) = let d = ap depth x ∙ depth-Name (start us) called in omega arith
target_some {us = us} (t.index l left right called is i known opens inside closes parts x) = let d = ap depth x ∙ depth-Index (start us) called i in omega arith
target_some {us = us} (t.select l left mark right called part is js i j known opens fst seen snd closes parts x) = let d = ap depth x ∙ depth-Select (start us) called part i j in omega arith
target_some {us = us} (t.concat left right is es opens inside closes parts x) = let d = ap depth x ∙ depth-Concat (start us) es in omega arith

-- the place of the first lexeme
pub placed : (us : List Lexeme) (l : Lexeme) (ls : List Lexeme) (next : Option Lexeme) → us ≡ l ∷ ls → place_if (front us next) ≡ start us
unfolding place_if start
placed us l ls next is = ap (λ z. place_if (front z next)) is ∙ sym (ap start is)

-- targets with commas between
record Aims (room : ℕ) (us : List Lexeme) (es : List Expr) : Type 0 where
  spelled : SpellsTargets us es
  shallow : deepest_of depth es ≤ room

aims_many : (room : ℕ) (is vs : List Lexeme) (x : Expr) (xs : List Expr) (next : Option Lexeme) → SpellsTarget is x → depth x ≤ room → Many (Behind (IsMark (codes ",")) (Aim room)) (sees (codes ",")) vs xs next → Aims room (is ++ vs) (x ∷ xs)
aims_many room is vs x xs next s low (stopped off none is_none) =
    let deep = ap (λ z. deepest_of depth (x ∷ z)) is_none ∙ deepest-one x in
    record { spelled = t.one x (subst (λ z. SpellsTarget z x) (cc (append-nil is)) s) (ap (λ z. x ∷ z) is_none); shallow = omega arith }
aims_many room is vs x xs next s low (more js ks y ys on b m parts same) =
    let a = aims_many room b.others ks y ys next b.spelled.spelled b.spelled.shallow m in
    let deep = ap (λ z. deepest_of depth (x ∷ z)) same ∙ deepest-cons x (y ∷ ys) in let rest = a.shallow in
    record { spelled = t.more b.lexeme is (b.others ++ ks) x (y ∷ ys) s b.is a.spelled (rw (parts, b.parts) refl) (ap (λ z. x ∷ z) same); shallow = omega arith }

sees_mark : (m : List ℕ) (o : Option Lexeme) (l : Lexeme) → o ≡ Some l → IsMark m l → sees m o ≡ true
unfolding sees
sees_mark m o l is marks = ap (sees m) is ∙ marks

-- what is behind a target in a concatenation
record Parted (room : ℕ) (us : List Lexeme) (es : List Expr) (right : Lexeme) : Type 0 where
  is : List Lexeme
  vs : List Lexeme
  x : Expr
  xs : List Expr
  parts : us ≡ is ++ vs
  one : Aim room is x (front vs (Some right))
  others : Many (Behind (IsMark (codes ",")) (Aim room)) (sees (codes ",")) vs xs (Some right)
  all : es ≡ x ∷ xs

no_comma : (r : Lexeme) → IsMark (codes "}") r → sees (codes ",") (Some r) ≡ false
unfolding sees is_mark
no_comma r closes = ap (λ b. bytes_eq b (codes ",")) (bytes_of (codes "}") r closes)

parted : (room : ℕ) (us : List Lexeme) (es : List Expr) (right : Lexeme) → IsMark (codes "}") right → SpellsTargets us es → deepest_of depth es ≤ room → Parted room us es right
parted room us es right closes (t.one x s all) low =
    let deep = ap (deepest_of depth) all ∙ deepest-one x in
    record {
      is = us;
      vs = [];
      x = x;
      xs = [];
      parts = sym (append-nil us);
      one = record { spelled = s; shallow = omega arith; closed = λ o. (quiet_brace right closes).opens };
      others = stopped (no_comma right closes) refl refl;
      all = all;
    }
parted room us es right closes (t.more comma is js x xs s marks o parts all) low =
    let deep = ap (deepest_of depth) all ∙ deepest-cons x xs in
    let p = parted room js xs right closes o (omega arith) in
    record {
      is = is;
      vs = comma ∷ js;
      x = x;
      xs = xs;
      parts = parts;
      one = record { spelled = s; shallow = omega arith; closed = λ o. (quiet_comma comma marks).opens };
      others = more (comma ∷ p.is) p.vs p.x p.xs (sees_mark (codes ",") (Some comma) comma refl marks) (record { lexeme = comma; others = p.is; is = marks; parts = refl; spelled = p.one }) p.others (ap (λ z. comma ∷ z) p.parts) p.all;
      all = all;
    }

module _ (room : ℕ) where
  abbrev SelectC : Place → List ℕ → Spelling Expr
  SelectC place called = Behind (IsMark (codes "[")) (Row (Value room) (λ i. Known part_if (λ part. Row (Value room) (λ j. Behind (IsMark (codes "]")) (Nothing (e.Select part place called i j)))) (Behind (IsMark (codes "]")) (Nothing (e.Index place called i)))))

  abbrev NamedC : Place → List ℕ → Spelling Expr
  NamedC place called us x next = Choose (sees (codes "[") (front us next)) (Roomy room (SelectC place called)) (Nothing (e.Name place called)) us x next

  abbrev MembersC : Place → Spelling Expr
  MembersC place = Behind (IsMark (codes "{")) (Row (Commas (Aim room)) (λ es. Behind (IsMark (codes "}")) (Nothing (e.Concat place es))))

  abbrev BracedC : Place → Spelling Expr
  BracedC place us x next = Choose (sees (codes "{") (front us next)) (Roomy room (MembersC place)) Never us x next

  abbrev TargetC : Spelling Expr
  TargetC us x next = Known name_if (NamedC (place_if (front us next))) (BracedC (place_if (front us next))) us x next

  module _ (inner : Reader Expr) (each : Exact inner (Aim room)) (keeps : Keeps inner) where
    exact_select : (place : Place) (called : List ℕ) → Exact (select room inner place called) (SelectC place called)
    unfolding select part_end index_end part_if part_of mark_if mark_in
    exact_select place called =
        let built = exact_mark (codes "[") (exact_value room >>= (λ i. exact_known part_if refl (λ part. exact_value room >>= (λ j. exact_mark (codes "]") (exact_pure (e.Select part place called i j)))) (exact_mark (codes "]") (exact_pure (e.Index place called i))))) in built

    exact_named : (place : Place) (called : List ℕ) → Exact (named room inner place called) (NamedC place called)
    unfolding named
    exact_named place called =
        let built = exact_at (sees (codes "[")) (λ there. exact_if there (exact_within room (exact_select place called)) (exact_pure (e.Name place called))) in built

    exact_members : (place : Place) → Exact (members room inner place) (MembersC place)
    unfolding members
    exact_members place = let built = exact_mark (codes "{") (exact_commas each keeps >>= (λ es. exact_mark (codes "}") (exact_pure (e.Concat place es)))) in built

    exact_braced : (place : Place) → Exact (braced room inner place) (BracedC place)
    unfolding braced
    exact_braced place = let built = exact_at (sees (codes "{")) (λ there. exact_if there (exact_within room (exact_members place)) (exact_stop Wrong)) in built

    exact_parts : Exact (whole_target room inner) TargetC
    unfolding whole_target name_if
    exact_parts = let built = exact_at place_if (λ place. exact_known name_if refl (exact_named place) (exact_braced place)) in built

  known_part : (mark : Lexeme) (part : Part) → part_if (Some mark) ≡ Some part → part_of (mark_of mark) ≡ Some part
  unfolding part_if mark_if
  known_part mark part seen = seen

  select_to : (place : Place) (us : List Lexeme) (l left : Lexeme) (is ws : List Lexeme) (called : List ℕ) (i x : Expr) (next : Option Lexeme)
      → name_of l ≡ Some called → IsMark (codes "[") left → SpellsPlain is i → depth i ≤ room → us ≡ l ∷ left ∷ (is ++ ws) → place ≡ start us
      → Known part_if (λ part. Row (Value room) (λ j. Behind (IsMark (codes "]")) (Nothing (e.Select part place called i j)))) (Behind (IsMark (codes "]")) (Nothing (e.Index place called i))) ws x next → Aim (suc room) us x next
  select_to place us l left is ws called i x next known opens fst low whole at (there part mark js seen parts row) =
      let close = row.two in
      let second = row.one in
      let n = close.spelled in
      let all : x ≡ e.Select part (start us) called i row.mid = n.same ∙ ap (λ z. e.Select part z called i row.mid) at in
      let deep = ap depth all ∙ depth-Select (start us) called part i row.mid in
      let lower = second.shallow in
      record {
        spelled = t.select l left mark close.lexeme called part is row.left i row.mid known opens fst (known_part mark part seen) second.spelled close.is (rw (whole, parts, row.parts, close.parts, n.none) refl) all;
        shallow = omega arith;
        closed = λ o. (let no = sym o ∙ (ap ends_open all ∙ open-Select (start us) called part i row.mid) in cc);
      }
  select_to place us l left is ws called i x next known opens fst low whole at (unknown seen close) =
      let n = close.spelled in
      let all : x ≡ e.Index (start us) called i = n.same ∙ ap (λ z. e.Index z called i) at in
      let deep = ap depth all ∙ depth-Index (start us) called i in
      record {
        spelled = t.index l left close.lexeme called is i known opens fst close.is (rw (whole, close.parts, n.none) refl) all;
        shallow = omega arith;
        closed = λ o. (let no = sym o ∙ (ap ends_open all ∙ open-Index (start us) called i) in cc);
      }

  named_to : (place : Place) (us : List Lexeme) (l : Lexeme) (vs : List Lexeme) (called : List ℕ) (x : Expr) (next : Option Lexeme) (b : Bool) → name_of l ≡ Some called → us ≡ l ∷ vs → place ≡ start us
      → sees (codes "[") (front vs next) ≡ b → Choose b (Roomy room (SelectC place called)) (Nothing (e.Name place called)) vs x next → Aim (suc room) us x next
  named_to place us l vs called x next true known parts at seen r =
      let s = r.spelled in let row = s.spelled in let v = row.one in
      select_to place us l s.lexeme row.left row.right called row.mid x next known s.is v.spelled v.shallow (rw (parts, s.parts, row.parts) refl) at row.two
  named_to place us l vs called x next false known parts at seen n =
      let all : x ≡ e.Name (start us) called = n.same ∙ ap (λ z. e.Name z called) at in
      let deep = ap depth all ∙ depth-Name (start us) called in
      record { spelled = t.name l called known (parts ∙ ap (λ z. l ∷ z) n.none) all; shallow = omega arith; closed = λ o. ap (λ z. sees (codes "[") (front z next)) (sym n.none) ∙ seen }

  braced_to : (place : Place) (us : List Lexeme) (x : Expr) (next : Option Lexeme) (b : Bool) → place ≡ place_if (front us next) → Choose b (Roomy room (MembersC place)) Never us x next → Aim (suc room) us x next
  braced_to place us x next true at r =
      let s = r.spelled in let row = s.spelled in let c = row.one in let d = c.two in let close = row.two in let n = close.spelled in let m = d.two in let fst = c.one in
      let aims = aims_many room c.left d.left c.mid d.mid (front d.right (front row.right next)) fst.spelled fst.shallow d.one in
      let same : row.left ≡ c.left ++ d.left = rw (c.parts, d.parts, m.none, append-nil d.left) refl in
      let all : x ≡ e.Concat (start us) row.mid = n.same ∙ ap (λ z. e.Concat z row.mid) (at ∙ placed us s.lexeme s.others next s.parts) in
      let deep = ap depth all ∙ depth-Concat (start us) row.mid in
      let inside = ap (deepest_of depth) m.same in let low = aims.shallow in
      record {
        spelled = t.concat s.lexeme close.lexeme row.left row.mid s.is (subst (λ z. SpellsTargets z row.mid) (sym same) (subst (λ z. SpellsTargets (c.left ++ d.left) z) (sym m.same) aims.spelled)) close.is (rw (s.parts, row.parts, close.parts, n.none) refl) all;
        shallow = omega arith;
        closed = λ o. (let no = sym o ∙ (ap ends_open all ∙ open-Concat (start us) row.mid) in cc);
      }
  braced_to place us x next false at never = absurd never.never

  whole_to : (us : List Lexeme) (x : Expr) (next : Option Lexeme) → TargetC us x next → Aim (suc room) us x next
  unfolding name_if
  whole_to us x next (there called l vs seen parts s) = named_to (place_if (front us next)) us l vs called x next (sees (codes "[") (front vs next)) seen parts (placed us l vs next parts) refl s
  whole_to us x next (unknown seen s) = braced_to (place_if (front us next)) us x next (sees (codes "{") (front us next)) refl s

  open_square : (place : Place) (left : Lexeme) (ls : List Lexeme) (called : List ℕ) (x : Expr) (next : Option Lexeme) → IsMark (codes "[") left → 1 ≤ room → SelectC place called (left ∷ ls) x next → NamedC place called (left ∷ ls) x next
  unfolding sees
  open_square place left ls called x next opens some s = subst (λ b. Choose b (Roomy room (SelectC place called)) (Nothing (e.Name place called)) (left ∷ ls) x next) (sym opens) (record { some = some; spelled = s })

  no_part : (right : Lexeme) (next : Option Lexeme) → IsMark (codes "]") right → part_if (front (right ∷ []) next) ≡ None
  unfolding part_if mark_if part_of
  no_part right next closes = ap part_of (bytes_of (codes "]") right closes)

  whole_from : (us : List Lexeme) (x : Expr) (next : Option Lexeme) → SpellsTarget us x → depth x ≤ suc room → (ends_open x ≡ true → sees (codes "[") next ≡ false) → TargetC us x next
  unfolding name_if sees part_if mark_if
  whole_from us x next (t.name l called known is all) low closed =
      let unseen = closed (ap ends_open all ∙ open-Name (start us) called) in
      there called l [] known is (subst (λ b. Choose b (Roomy room (SelectC (place_if (front us next)) called)) (Nothing (e.Name (place_if (front us next)) called)) [] x next) (sym unseen)
      (record { none = refl; same = all ∙ ap (λ z. e.Name z called) (sym (placed us l [] next is)) }))
  whole_from us x next (t.index l left right called is i known opens inside closes parts all) low closed =
      let deep = ap depth all ∙ depth-Index (start us) called i in let some = (sized inside.spells).some in
      there called l (left ∷ (is ++ right ∷ [])) known parts (open_square (place_if (front us next)) left (is ++ right ∷ []) called x next opens (omega arith) (record {
        lexeme = left;
        others = is ++ right ∷ [];
        is = opens;
        parts = refl;
        spelled = record {
          left = is;
          right = right ∷ [];
          mid = i;
          parts = refl;
          one = record { spelled = inside; shallow = omega arith; ended = quiet_ended i right (quiet_square right closes) };
          two = unknown (no_part right next closes) (record { lexeme = right; others = []; is = closes; parts = refl; spelled = record { none = refl; same = all ∙ ap (λ z. e.Index z called i) (sym (placed us l (left ∷ (is ++ right ∷ [])) next parts)) } });
        };
      }))
  whole_from us x next (t.select l left mark right called part is js i j known opens fst seen snd closes parts all) low closed =
      let deep = ap depth all ∙ depth-Select (start us) called part i j in let some = (sized fst.spells).some in
      let ws = is ++ mark ∷ (js ++ right ∷ []) in
      there called l (left ∷ ws) known parts (open_square (place_if (front us next)) left ws called x next opens (omega arith) (record {
        lexeme = left;
        others = ws;
        is = opens;
        parts = refl;
        spelled = record {
          left = is;
          right = mark ∷ (js ++ right ∷ []);
          mid = i;
          parts = refl;
          one = record { spelled = fst; shallow = omega arith; ended = quiet_ended i mark (quiet_part mark part seen) };
          two = there part mark (js ++ right ∷ []) seen refl (record {
            left = js;
            right = right ∷ [];
            mid = j;
            parts = refl;
            one = record { spelled = snd; shallow = omega arith; ended = quiet_ended j right (quiet_square right closes) };
            two = record { lexeme = right; others = []; is = closes; parts = refl; spelled = record { none = refl; same = all ∙ ap (λ z. e.Select part z called i j) (sym (placed us l (left ∷ ws) next parts)) } };
          });
        };
      }))
  whole_from us x next (t.concat left right is es opens inside closes parts all) low closed =
      let deep = ap depth all ∙ depth-Concat (start us) es in
      let p = parted room is es right closes inside (omega arith) in let fst = p.one in let some = target_some fst.spelled in let least = fst.shallow in
      let seen : sees (codes "{") (front us next) ≡ true = ap (λ z. sees (codes "{") (front z next)) parts ∙ opens in
      let place = place_if (front us next) in
      unknown (ap (λ z. name_if (front z next)) parts ∙ marked_name left 123 [] (bytes_of (codes "{") left opens))
      (subst (λ b. Choose b (Roomy room (MembersC place)) Never us x next) (sym seen) (record {
        some = omega arith;
        spelled = record {
          lexeme = left;
          others = is ++ right ∷ [];
          is = opens;
          parts = parts;
          spelled = record {
            left = is;
            right = right ∷ [];
            mid = es;
            parts = refl;
            one = record { left = p.is; right = p.vs; mid = p.x; parts = p.parts; one = p.one; two = record { left = p.vs; right = []; mid = p.xs; parts = sym (append-nil p.vs); one = p.others; two = record { none = refl; same = p.all } } };
            two = record { lexeme = right; others = []; is = closes; parts = refl; spelled = record { none = refl; same = all ∙ ap (λ z. e.Concat z es) (sym (placed us left (is ++ right ∷ []) next parts)) } };
          };
        };
      }))

never_aim : (b : Bool) (us : List Lexeme) (x : Expr) (next : Option Lexeme) → Choose b Never Never us x next → Aim zero us x next
never_aim true us x next n = absurd n.never
never_aim false us x next n = absurd n.never

-- targets no deeper than the number
pub exact_target : (room : ℕ) → Exact (target room) (Aim room)
unfolding target no_target
exact_target zero =
    let built = exact_at begins_target (λ there. exact_if there (exact_stop Deep) (exact_stop Wrong)) in
    exact_as (Aim zero) built (λ us x next n. never_aim (begins_target (front us next)) us x next n)
    (λ us x next a. let some = target_some a.spelled in let low = a.shallow in absurd (omega arith))
exact_target (suc room) =
    let built = exact_parts room (target room) (exact_target room) (target_keeps room) in
    exact_as (Aim (suc room)) built (whole_to room) (λ us x next a. whole_from room us x next a.spelled a.shallow a.closed)
