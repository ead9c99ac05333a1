-- The reader of statements is exact.
--     exact_stmt room                 it answers what the lexemes in front spell, no deeper than the room, and all that is
use Rattle.std.proofs.Common.{◌≡◌, ℕ, zero, suc, ◌≤◌, Bool, true, false, List, [], ◌∷◌, ◌++◌, Option, Some, None, refl, sym, ap, ◌∙◌, subst, append-nil, arith}
use Rattle.std.specs.Prelude.{codes}
use Rattle.rdc_outside.specs.declared.source.Place.{Place}
use Rattle.vlog_tree.specs.declared.expr.Expr.{Expr}
use Rattle.vlog_tree.specs.declared.stmt.Assigns.{Assigns}
use Rattle.vlog_tree.specs.declared.stmt.Matching.{Matching}
use Rattle.vlog_tree.specs.declared.stmt.Matching.TheVariants as m
use Rattle.vlog_tree.specs.declared.stmt.Arm.{Arm}
use Rattle.vlog_tree.specs.declared.stmt.Stmt.{Stmt}
use Rattle.vlog_tree.specs.declared.stmt.Stmt.TheVariants as s
use Rattle.vlog_tree.specs.Lexemes.{Lexeme, IsMark, IsWord, mark_of, start}
use Rattle.vlog_tree.specs.Expressions.{SpellsPlain, SpellsTarget}
use Rattle.vlog_tree.specs.Expressions as t
use Rattle.vlog_tree.specs.Statements.{SpellsStmt, SpellsArms, IsMatching, assigns_of}
use Rattle.vlog_tree.specs.Statements as g
use Rattle.vlog_tree.specs.Depth.{depth, depth_of_stmt}
use Rattle.vlog_expr.specs.declared.stuck.Stuck.TheVariants.{Wrong, Deep}
use Rattle.vlog_expr.specs.Reading.{Reader, place_if, mark_if, sees_word}
use Rattle.vlog_expr.proofs.MarkLemmas.{Quiet}
use Rattle.vlog_expr.proofs.PlainLemmas.{quiet_ended}
use Rattle.vlog_expr.proofs.MarkLemmas.{quiet_round}
use Rattle.vlog_expr.proofs.SpelledLemmas.{sized}
use Rattle.vlog_stmt.specs.declared.form.Form.{Form}
use Rattle.vlog_stmt.specs.declared.form.Form.TheVariants as form
use Rattle.vlog_stmt.specs.Lists.{Eats}
use Rattle.vlog_stmt.specs.Statements.{assigns_if, form_if, labelled, assigned, assign, otherwise, branch, cases, repeated, by_form, whole_stmt, deep_by, stmt}
use Rattle.vlog_stmt.proofs.StmtsSteady.{stmt_eats, labelled_eats}
use Rattle.vlog_stmt.proofs.StmtDepths.{depth-Empty, depth-Assign, depth-If-alone, depth-If-else, depth-Case, depth-For}
use Rattle.vlog_stmt.proofs.Exact.{Spelling, front, Exact, Nothing, Never, Known, there, absent as unknown, Behind, Either, with, without, Roomy, Row, exact_as, exact_pure, exact_stop, exact_at, exact_known, exact_mark, exact_word, exact_took_word, exact_within, ◌>>=◌}
use Rattle.vlog_stmt.proofs.PiecesExact.{Value, exact_value}
use Rattle.vlog_stmt.proofs.HeaderExact.{Header, exact_header, quiet_semi}
use Rattle.vlog_stmt.proofs.TargetsExact.{Aim, exact_target, target_some}
use Rattle.vlog_stmt.proofs.ArmsExact.{Opens, placed_at, ArmsC, exact_read, items_read}
use Rattle.vlog_stmt.proofs.ItemsExact.{items_spelled}
use Rattle.vlog_stmt.proofs.StmtForms.{stmt_some, seen_word, form_semi, form_begin, form_of_if, form_case, form_casez, form_for, form_name, form_brace, assigns_closed, known_assigns, is_seen, shut}
use Rattle.vlog_stmt.proofs.BlocksExact.{BlockC, exact_block, block_to, block_from}

module _ (room : ℕ) (inner : Reader Stmt) (each : Exact inner (Opens room)) (eats : Eats inner) (arm_eats : (matching : Matching) → Eats (labelled room inner matching)) where
  OtherwiseC : Place → Expr → Stmt → Spelling Stmt
  OtherwiseC place test a = Either (sees_word (codes "else")) (Row (Opens room) (λ b. Nothing (s.If place test a (Some b)))) (Nothing (s.If place test a None))

  BranchC : Place → Spelling Stmt
  BranchC place = Behind (IsWord (codes "if")) (Behind (IsMark (codes "(")) (Row (Value room) (λ test. Behind (IsMark (codes ")")) (Row (Opens room) (λ a. OtherwiseC place test a)))))

  CasesC : Place → List ℕ → Matching → Spelling Stmt
  CasesC place word matching = Behind (IsWord word) (Behind (IsMark (codes "(")) (Row (Value room) (λ selector. Behind (IsMark (codes ")"))
      (Row (ArmsC room inner each matching (arm_eats matching)) (λ items. Behind (IsWord (codes "endcase")) (Nothing (s.Case place matching selector items)))))))

  RepeatedC : Place → Spelling Stmt
  RepeatedC place = Behind (IsWord (codes "for")) (Row (Header room) (λ head. Row (Opens room) (λ body. Nothing (s.For place head body))))

  AssignC : Place → Spelling Stmt
  AssignC place = Row (Aim room) (λ t. Known assigns_if (λ by. Row (Value room) (λ v. Behind (IsMark (codes ";")) (Nothing (s.Assign place t by v)))) Never)

  FormC : Place → Form → Spelling Stmt
  FormC place form.Empty = Behind (IsMark (codes ";")) (Nothing (s.Empty place))
  FormC place form.Block = BlockC room place
  FormC place form.If = Roomy room (BranchC place)
  FormC place form.Case = Roomy room (CasesC place (codes "case") m.Exact)
  FormC place form.Casez = Roomy room (CasesC place (codes "casez") m.Wildcard)
  FormC place form.For = Roomy room (RepeatedC place)
  FormC place form.Target = Roomy room (AssignC place)
  FormC place form.Other = Never

  exact_otherwise : (place : Place) (test : Expr) (a : Stmt) → Exact (otherwise room inner place test a) (OtherwiseC place test a)
  unfolding otherwise OtherwiseC
  exact_otherwise place test a = let built = exact_took_word (codes "else") (each >>= (λ b. exact_pure (s.If place test a (Some b)))) (exact_pure (s.If place test a None)) in built

  exact_branch : (place : Place) → Exact (branch room inner place) (BranchC place)
  unfolding branch BranchC
  exact_branch place =
      let built = exact_word (codes "if") (exact_mark (codes "(") (exact_value room >>= (λ test. exact_mark (codes ")") (each >>= (λ a. exact_otherwise place test a))))) in built

  exact_cases : (place : Place) (word : List ℕ) (matching : Matching) → Exact (cases room inner place word matching) (CasesC place word matching)
  unfolding cases CasesC
  exact_cases place word matching =
      let built = exact_word word (exact_mark (codes "(") (exact_value room >>= (λ selector. exact_mark (codes ")") (exact_read room inner each matching (arm_eats matching) >>= (λ items. exact_word (codes "endcase") (exact_pure (s.Case place matching selector items))))))) in built

  exact_repeated : (place : Place) → Exact (repeated room inner place) (RepeatedC place)
  unfolding repeated RepeatedC
  exact_repeated place = let built = exact_word (codes "for") (exact_header room >>= (λ head. each >>= (λ body. exact_pure (s.For place head body)))) in built

  exact_assign : (place : Place) → Exact (assign room inner place) (AssignC place)
  unfolding assign assigned AssignC assigns_if assigns_of mark_if
  exact_assign place =
      let built = exact_target room >>= (λ t. exact_known assigns_if refl (λ by. exact_value room >>= (λ v. exact_mark (codes ";") (exact_pure (s.Assign place t by v)))) (exact_stop Wrong)) in built

  exact_by_form : (place : Place) (f : Form) → Exact (by_form room inner place f) (FormC place f)
  unfolding by_form FormC
  exact_by_form place form.Empty = let built = exact_mark (codes ";") (exact_pure (s.Empty place)) in built
  exact_by_form place form.Block = exact_block room inner each eats place
  exact_by_form place form.If = exact_within room (exact_branch place)
  exact_by_form place form.Case = exact_within room (exact_cases place (codes "case") m.Exact)
  exact_by_form place form.Casez = exact_within room (exact_cases place (codes "casez") m.Wildcard)
  exact_by_form place form.For = exact_within room (exact_repeated place)
  exact_by_form place form.Target = exact_within room (exact_assign place)
  exact_by_form place form.Other = exact_stop Wrong

  WholeC : Spelling Stmt
  WholeC us x next = FormC (place_if (front us next)) (form_if (front us next)) us x next

  exact_whole : Exact (whole_stmt room inner) WholeC
  unfolding whole_stmt WholeC
  exact_whole = let built = exact_at place_if (λ place. exact_at form_if (λ f. exact_by_form place f)) in built

  branch_to : (us : List Lexeme) (x : Stmt) (next : Option Lexeme) (word left right : Lexeme) (cs is vs : List Lexeme) (test : Expr) (a : Stmt) → IsWord (codes "if") word → IsMark (codes "(") left → Value room cs test (Some right) → IsMark (codes ")") right
      → Opens room is a (front vs next) → us ≡ word ∷ left ∷ (cs ++ right ∷ (is ++ vs)) → OtherwiseC (place_if (front us next)) test a vs x next → Opens (suc room) us x next
  unfolding OtherwiseC
  branch_to us x next word left right cs is vs test a w p v r o whole (with l ws seen parts row) =
      let b = row.one in let n = row.two in
      let all : x ≡ s.If (start us) test a (Some row.mid) = n.same ∙ ap (λ z. s.If z test a (Some row.mid)) (placed_at us [] word (left ∷ (cs ++ right ∷ (is ++ vs))) next whole) in
      let d = ap depth_of_stmt all ∙ depth-If-else (start us) test a row.mid in let low = v.shallow in let lower = o.shallow in let lowest = b.shallow in
      record {
        open_if = b.open_if;
        spelled = g.if_else word left right l cs is row.left test a row.mid w p v.spelled r (shut o.open_if (front vs next) o.spelled o.closed (ap (λ z. sees_word (codes "else") (front z next)) parts ∙ seen)) (is_seen l seen) b.spelled (rw (whole, parts, row.parts, n.none, append-nil row.left) refl) all;
        shallow = omega arith;
        closed = λ h. ap (λ z. sees_word (codes "else") (front z next)) (sym n.none) ∙ b.closed h;
      }
  branch_to us x next word left right cs is vs test a w p v r o whole (without unseen n) =
      let all : x ≡ s.If (start us) test a None = n.same ∙ ap (λ z. s.If z test a None) (placed_at us [] word (left ∷ (cs ++ right ∷ (is ++ vs))) next whole) in
      let d = ap depth_of_stmt all ∙ depth-If-alone (start us) test a in let low = v.shallow in let lower = o.shallow in
      record {
        open_if = true;
        spelled = g.if_alone word left right cs is o.open_if test a w p v.spelled r o.spelled refl (rw (whole, n.none, append-nil is) refl) all;
        shallow = omega arith;
        closed = λ h. ap (λ z. sees_word (codes "else") (front z next)) (sym n.none) ∙ unseen;
      }

  cases_to : (us : List Lexeme) (x : Stmt) (next : Option Lexeme) (word : List ℕ) (matching : Matching) → ((l : Lexeme) → IsWord word l → IsMatching l matching) → CasesC (place_if (front us next)) word matching us x next → Opens (suc room) us x next
  unfolding CasesC
  cases_to us x next word matching matches b =
      let c = b.spelled in let row = c.spelled in let v = row.one in let e = row.two in let y = e.spelled in let last = y.two in let n = last.spelled in
      let i = items_read room inner each matching (arm_eats matching) y.left y.mid (front y.right next) y.one in
      let all : x ≡ s.Case (start us) matching row.mid y.mid = n.same ∙ ap (λ z. s.Case z matching row.mid y.mid) (placed_at us [] b.lexeme b.others next b.parts) in
      let d = ap depth_of_stmt all ∙ depth-Case (start us) matching row.mid y.mid in let low = v.shallow in let lower = i.shallow in
      record {
        open_if = false;
        spelled = g.cases b.lexeme c.lexeme e.lexeme last.lexeme row.left y.left matching i.has row.mid y.mid (matches b.lexeme b.is) c.is v.spelled e.is i.spelled last.is refl (rw (b.parts, c.parts, row.parts, e.parts, y.parts, last.parts, n.none) refl) all;
        shallow = omega arith;
        closed = λ o. cc;
      }

  repeated_to : (us : List Lexeme) (x : Stmt) (next : Option Lexeme) → RepeatedC (place_if (front us next)) us x next → Opens (suc room) us x next
  unfolding RepeatedC
  repeated_to us x next b =
      let row = b.spelled in let h = row.one in let y = row.two in let o = y.one in let n = y.two in
      let all : x ≡ s.For (start us) row.mid y.mid = n.same ∙ ap (λ z. s.For z row.mid y.mid) (placed_at us [] b.lexeme b.others next b.parts) in
      let d = ap depth_of_stmt all ∙ depth-For (start us) row.mid y.mid in let low = h.shallow in let lower = o.shallow in
      record {
        open_if = o.open_if;
        spelled = g.loop b.lexeme row.left y.left row.mid y.mid b.is h.spelled o.spelled (rw (b.parts, row.parts, y.parts, n.none, append-nil y.left) refl) all;
        shallow = omega arith;
        closed = λ k. ap (λ z. sees_word (codes "else") (front z next)) (sym n.none) ∙ o.closed k;
      }

  assign_by : (us : List Lexeme) (x : Stmt) (next : Option Lexeme) (ts vs : List Lexeme) (t : Expr) (o : Option Lexeme) → Aim room ts t o → us ≡ ts ++ vs
      → Known assigns_if (λ by. Row (Value room) (λ v. Behind (IsMark (codes ";")) (Nothing (s.Assign (place_if (front us next)) t by v)))) Never vs x next → Opens (suc room) us x next
  assign_by us x next ts vs t o aim whole (there by mark ws seen parts row) =
      let v = row.one in let last = row.two in let n = last.spelled in
      let all : x ≡ s.Assign (start us) t by row.mid = n.same ∙ ap (λ z. s.Assign z t by row.mid) (placed_at us ts mark ws next (whole ∙ ap (λ z. ts ++ z) parts)) in
      let d = ap depth_of_stmt all ∙ depth-Assign (start us) t by row.mid in let low = aim.shallow in let lower = v.shallow in
      record {
        open_if = false;
        spelled = g.assign mark last.lexeme ts row.left t row.mid by aim.spelled (known_assigns mark by seen) v.spelled last.is refl (rw (whole, parts, row.parts, last.parts, n.none) refl) all;
        shallow = omega arith;
        closed = λ k. cc;
      }
  assign_by us x next ts vs t o aim whole (unknown seen never) = absurd never.never

  form_to : (us : List Lexeme) (x : Stmt) (next : Option Lexeme) (f : Form) → FormC (place_if (front us next)) f us x next → Opens (suc room) us x next
  unfolding FormC BranchC AssignC
  form_to us x next form.Empty b =
      let n = b.spelled in
      let all : x ≡ s.Empty (start us) = n.same ∙ ap (λ z. s.Empty z) (placed_at us [] b.lexeme b.others next b.parts) in
      let d = ap depth_of_stmt all ∙ depth-Empty (start us) in
      record { open_if = false; spelled = g.empty b.lexeme b.is refl (b.parts ∙ ap (λ z. b.lexeme ∷ z) n.none) all; shallow = omega arith; closed = λ o. cc }
  form_to us x next form.Block b = block_to room us x next b
  form_to us x next form.If r =
      let b = r.spelled in let c = b.spelled in let row = c.spelled in let e = row.two in let y = e.spelled in
      branch_to us x next b.lexeme c.lexeme e.lexeme row.left y.left y.right row.mid y.mid b.is c.is (subst (λ z. Value room row.left row.mid (front z next)) e.parts row.one) e.is y.one (rw (b.parts, c.parts, row.parts, e.parts, y.parts) refl) y.two
  form_to us x next form.Case r = cases_to us x next (codes "case") m.Exact (λ l is. g.exact is refl) r.spelled
  form_to us x next form.Casez r = cases_to us x next (codes "casez") m.Wildcard (λ l is. g.wildcard is refl) r.spelled
  form_to us x next form.For r = repeated_to us x next r.spelled
  form_to us x next form.Target r = let a = r.spelled in assign_by us x next a.left a.right a.mid (front a.right next) a.one a.parts a.two
  form_to us x next form.Other never = absurd never.never

  -- what is spelled, by its form
  formed : (us : List Lexeme) (x : Stmt) (next : Option Lexeme) (f : Form) → form_if (front us next) ≡ f → FormC (place_if (front us next)) f us x next → WholeC us x next
  unfolding WholeC
  formed us x next f is c = subst (λ z. FormC (place_if (front us next)) z us x next) (sym is) c

  valued : (us : List Lexeme) (x : Expr) (r : Lexeme) → SpellsPlain us x → depth x ≤ room → Quiet r → Value room us x (Some r)
  valued us x r sp low q = record { spelled = sp; shallow = low; ended = quiet_ended x r q }

  branch_from : (us : List Lexeme) (x : Stmt) (next : Option Lexeme) (word left right : Lexeme) (cs is vs : List Lexeme) (test : Expr) (a : Stmt) → IsWord (codes "if") word → IsMark (codes "(") left → SpellsPlain cs test → IsMark (codes ")") right
      → us ≡ word ∷ left ∷ (cs ++ right ∷ (is ++ vs)) → depth test ≤ room → Opens room is a (front vs next) → OtherwiseC (place_if (front us next)) test a vs x next → BranchC (place_if (front us next)) us x next
  unfolding BranchC
  branch_from us x next word left right cs is vs test a w p q r parts low o rest = record {
    lexeme = word;
    others = left ∷ (cs ++ right ∷ (is ++ vs));
    is = w;
    parts = parts;
    spelled = record {
      lexeme = left;
      others = cs ++ right ∷ (is ++ vs);
      is = p;
      parts = refl;
      spelled = record {
        left = cs;
        right = right ∷ (is ++ vs);
        mid = test;
        parts = refl;
        one = valued cs test right q low (quiet_round right r);
        two = record { lexeme = right; others = is ++ vs; is = r; parts = refl; spelled = record { left = is; right = vs; mid = a; parts = refl; one = o; two = rest } };
      };
    };
  }

  cases_from : (us : List Lexeme) (x : Stmt) (next : Option Lexeme) (kind : List ℕ) (word left right end : Lexeme) (cs is : List Lexeme) (matching : Matching) (has : Bool) (selector : Expr) (arms : List (Arm Stmt))
      → IsWord kind word → IsMark (codes "(") left → SpellsPlain cs selector → IsMark (codes ")") right → SpellsArms matching has is arms → IsWord (codes "endcase") end
      → us ≡ word ∷ left ∷ (cs ++ right ∷ (is ++ end ∷ [])) → x ≡ s.Case (start us) matching selector arms → depth_of_stmt x ≤ suc room → Roomy room (CasesC (place_if (front us next)) kind matching) us x next
  unfolding CasesC
  cases_from us x next kind word left right end cs is matching has selector arms w p q r t u parts same low =
      let d = ap depth_of_stmt same ∙ depth-Case (start us) matching selector arms in let some = (sized q.spells).some in
      record {
        some = omega arith;
        spelled = record {
          lexeme = word;
          others = left ∷ (cs ++ right ∷ (is ++ end ∷ []));
          is = w;
          parts = parts;
          spelled = record {
            lexeme = left;
            others = cs ++ right ∷ (is ++ end ∷ []);
            is = p;
            parts = refl;
            spelled = record {
              left = cs;
              right = right ∷ (is ++ end ∷ []);
              mid = selector;
              parts = refl;
              one = valued cs selector right q (omega arith) (quiet_round right r);
              two = record {
                lexeme = right;
                others = is ++ end ∷ [];
                is = r;
                parts = refl;
                spelled = record {
                  left = is;
                  right = end ∷ [];
                  mid = arms;
                  parts = refl;
                  one = items_spelled room inner each matching end u (arm_eats matching) has is arms t (omega arith);
                  two = record { lexeme = end; others = []; is = u; parts = refl; spelled = record { none = refl; same = same ∙ ap (λ z. s.Case z matching selector arms) (sym (placed_at us [] word (left ∷ (cs ++ right ∷ (is ++ end ∷ []))) next parts)) } };
                };
              };
            };
          };
        };
      }

  target_form : {ts : List Lexeme} {t : Expr} (vs : List Lexeme) (next : Option Lexeme) → SpellsTarget ts t → form_if (front (ts ++ vs) next) ≡ form.Target
  target_form vs next (t.name l called known is same) = ap (λ z. form_if (front (z ++ vs) next)) is ∙ form_name l called known
  target_form vs next (t.index l left right called is i known opens inside closes parts same) = ap (λ z. form_if (front (z ++ vs) next)) parts ∙ form_name l called known
  target_form vs next (t.select l left mark right called part is js i j known opens fst seen snd closes parts same) = ap (λ z. form_if (front (z ++ vs) next)) parts ∙ form_name l called known
  target_form vs next (t.concat left right is es opens inside closes parts same) = ap (λ z. form_if (front (z ++ vs) next)) parts ∙ form_brace left opens

  assign_from : (us : List Lexeme) (x : Stmt) (next : Option Lexeme) (mark semi : Lexeme) (ts vs : List Lexeme) (target value : Expr) (by : Assigns) → SpellsTarget ts target → assigns_of (mark_of mark) ≡ Some by → SpellsPlain vs value → IsMark (codes ";") semi
      → us ≡ ts ++ mark ∷ (vs ++ semi ∷ []) → x ≡ s.Assign (start us) target by value → depth_of_stmt x ≤ suc room → Roomy room (AssignC (place_if (front us next))) us x next
  unfolding AssignC assigns_if mark_if
  assign_from us x next mark semi ts vs target value by aimed known sp ends parts same low =
      let d = ap depth_of_stmt same ∙ depth-Assign (start us) target by value in let some = target_some aimed in
      record {
        some = omega arith;
        spelled = record {
          left = ts;
          right = mark ∷ (vs ++ semi ∷ []);
          mid = target;
          parts = parts;
          one = record { spelled = aimed; shallow = omega arith; closed = λ o. assigns_closed mark by known };
          two = there by mark (vs ++ semi ∷ []) known refl (record {
            left = vs;
            right = semi ∷ [];
            mid = value;
            parts = refl;
            one = valued vs value semi sp (omega arith) (quiet_semi semi ends);
            two = record { lexeme = semi; others = []; is = ends; parts = refl; spelled = record { none = refl; same = same ∙ ap (λ z. s.Assign z target by value) (sym (placed_at us ts mark (vs ++ semi ∷ []) next parts)) } };
          });
        };
      }

  whole_from : (us : List Lexeme) (x : Stmt) (next : Option Lexeme) (open_if : Bool) → SpellsStmt open_if us x → depth_of_stmt x ≤ suc room → (open_if ≡ true → sees_word (codes "else") next ≡ false) → WholeC us x next
  unfolding FormC OtherwiseC RepeatedC
  whole_from us x next open_if (g.empty semi is o parts same) low closed =
      formed us x next form.Empty (ap (λ z. form_if (front z next)) parts ∙ form_semi semi is)
      (record { lexeme = semi; others = []; is = is; parts = parts; spelled = record { none = refl; same = same ∙ ap (λ z. s.Empty z) (sym (placed_at us [] semi [] next parts)) } })
  whole_from us x next open_if (g.block begin end ns is name ss w named inside last o parts same) low closed =
      formed us x next form.Block (ap (λ z. form_if (front z next)) parts ∙ form_begin begin w) (block_from room us x next begin end ns is name ss w named inside last parts same low)
  whole_from us x next open_if (g.assign mark semi ts vs target value by aimed known sp ends o parts same) low closed =
      formed us x next form.Target (ap (λ z. form_if (front z next)) parts ∙ target_form (mark ∷ (vs ++ semi ∷ [])) next aimed) (assign_from us x next mark semi ts vs target value by aimed known sp ends parts same low)
  whole_from us x next open_if (g.if_alone word left right cs is within test chosen w p q r sp o parts same) low closed =
      let d = ap depth_of_stmt same ∙ depth-If-alone (start us) test chosen in let some = (sized q.spells).some in
      let unseen = closed o in
      let whole : us ≡ word ∷ left ∷ (cs ++ right ∷ (is ++ [])) = parts ∙ ap (λ z. word ∷ left ∷ (cs ++ right ∷ z)) (sym (append-nil is)) in
      formed us x next form.If (ap (λ z. form_if (front z next)) parts ∙ form_of_if word w)
      (record {
        some = omega arith;
        spelled = branch_from us x next word left right cs is [] test chosen w p q r whole (omega arith) (record { open_if = within; spelled = sp; shallow = omega arith; closed = λ h. unseen })
            (without unseen (record { none = refl; same = same ∙ ap (λ z. s.If z test chosen None) (sym (placed_at us [] word (left ∷ (cs ++ right ∷ is)) next parts)) }));
      })
  whole_from us x next open_if (g.if_else word left right otherwise cs is js test chosen rest w p q r sp u sq parts same) low closed =
      let d = ap depth_of_stmt same ∙ depth-If-else (start us) test chosen rest in let some = (sized q.spells).some in
      formed us x next form.If (ap (λ z. form_if (front z next)) parts ∙ form_of_if word w)
      (record {
        some = omega arith;
        spelled = branch_from us x next word left right cs is (otherwise ∷ js) test chosen w p q r parts (omega arith) (record { open_if = false; spelled = sp; shallow = omega arith; closed = λ h. cc })
            (with otherwise js (seen_word (codes "else") otherwise u) refl (record {
              left = js;
              right = [];
              mid = rest;
              parts = sym (append-nil js);
              one = record { open_if = open_if; spelled = sq; shallow = omega arith; closed = closed };
              two = record { none = refl; same = same ∙ ap (λ z. s.If z test chosen (Some rest)) (sym (placed_at us [] word (left ∷ (cs ++ right ∷ (is ++ otherwise ∷ js))) next parts)) };
            }));
      })
  whole_from us x next open_if (g.cases word left right end cs is matching has selector arms (g.exact w same_m) p q r t u o parts same) low closed =
      let all : x ≡ s.Case (start us) m.Exact selector arms = same ∙ ap (λ z. s.Case (start us) z selector arms) same_m in
      formed us x next form.Case (ap (λ z. form_if (front z next)) parts ∙ form_case word w)
      (cases_from us x next (codes "case") word left right end cs is m.Exact has selector arms w p q r (subst (λ z. SpellsArms z has is arms) same_m t) u parts all low)
  whole_from us x next open_if (g.cases word left right end cs is matching has selector arms (g.wildcard w same_m) p q r t u o parts same) low closed =
      let all : x ≡ s.Case (start us) m.Wildcard selector arms = same ∙ ap (λ z. s.Case (start us) z selector arms) same_m in
      formed us x next form.Casez (ap (λ z. form_if (front z next)) parts ∙ form_casez word w)
      (cases_from us x next (codes "casez") word left right end cs is m.Wildcard has selector arms w p q r (subst (λ z. SpellsArms z has is arms) same_m t) u parts all low)
  whole_from us x next open_if (g.loop word hs is header body w p q parts same) low closed =
      let d = ap depth_of_stmt same ∙ depth-For (start us) header body in let some = stmt_some q in
      formed us x next form.For (ap (λ z. form_if (front z next)) parts ∙ form_for word w)
      (record {
        some = omega arith;
        spelled = record {
          lexeme = word;
          others = hs ++ is;
          is = w;
          parts = parts;
          spelled = record {
            left = hs;
            right = is;
            mid = header;
            parts = refl;
            one = record { spelled = p; shallow = omega arith };
            two = record {
              left = is;
              right = [];
              mid = body;
              parts = sym (append-nil is);
              one = record { open_if = open_if; spelled = q; shallow = omega arith; closed = closed };
              two = record { none = refl; same = same ∙ ap (λ z. s.For z header body) (sym (placed_at us [] word (hs ++ is) next parts)) };
            };
          };
        };
      })

  whole_to : (us : List Lexeme) (x : Stmt) (next : Option Lexeme) → WholeC us x next → Opens (suc room) us x next
  unfolding WholeC
  whole_to us x next c = form_to us x next (form_if (front us next)) c

  pub exact_deeper : Exact (whole_stmt room inner) (Opens (suc room))
  exact_deeper = exact_as (Opens (suc room)) exact_whole whole_to (λ us x next o. whole_from us x next o.open_if o.spelled o.shallow o.closed)

exact_deep_by : (f : Form) → Exact (deep_by f) Never
unfolding deep_by
exact_deep_by form.Empty = exact_stop Deep
exact_deep_by form.Block = exact_stop Deep
exact_deep_by form.If = exact_stop Deep
exact_deep_by form.Case = exact_stop Deep
exact_deep_by form.Casez = exact_stop Deep
exact_deep_by form.For = exact_stop Deep
exact_deep_by form.Target = exact_stop Deep
exact_deep_by form.Other = exact_stop Wrong

-- statements no deeper than the number
pub exact_stmt : (room : ℕ) → Exact (stmt room) (Opens room)
unfolding stmt
exact_stmt zero =
    let built = exact_at form_if exact_deep_by in
    exact_as (Opens zero) built (λ us x next n. absurd n.never) (λ us x next o. let some = stmt_some o.spelled in let low = o.shallow in absurd (omega arith))
exact_stmt (suc room) = let built = exact_deeper room (stmt room) (exact_stmt room) (stmt_eats room) (labelled_eats room) in built
