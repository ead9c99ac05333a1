-- Case items that are spelled are read, in front of `endcase`.
use Rattle.std.proofs.Common.{◌≡◌, ℕ, ◌≤◌, Bool, true, false, List, [], ◌∷◌, ◌++◌, Option, Some, refl, sym, ap, ◌∙◌, subst, append_assoc, append-nil, arith}
use Rattle.std.specs.Prelude.{codes}
use Rattle.rdc_outside.specs.declared.source.Place.{Place}
use Rattle.vlog_tree.specs.declared.expr.Expr.{Expr}
use Rattle.vlog_tree.specs.declared.stmt.Matching.{Matching}
use Rattle.vlog_tree.specs.declared.stmt.Arm.{Arm}
use Rattle.vlog_tree.specs.declared.stmt.Stmt.{Stmt}
use Rattle.vlog_tree.specs.Lexemes.{Lexeme, IsMark, IsWord, start}
use Rattle.vlog_tree.specs.Statements.{SpellsStmt, SpellsLabels, SpellsArms, MayColon}
use Rattle.vlog_tree.specs.Statements as g
use Rattle.vlog_tree.specs.Depth.{depth, deepest_of, depth_of_stmt}
use Rattle.vlog_expr.specs.Reading.{Reader, sees_word}
use Rattle.vlog_stmt.specs.Lists.{Eats}
use Rattle.vlog_stmt.specs.Statements.{before_arm, labelled}
use Rattle.vlog_stmt.proofs.WordLemmas.{other_word}
use Rattle.vlog_stmt.proofs.StmtDepths.{arm_depth, arm-is, deepest_one}
use Rattle.vlog_stmt.proofs.Exact.{front, front-append, Exact, Nothing, Choose}
use Rattle.vlog_stmt.proofs.ManyExact.{Many, stopped, more}
use Rattle.vlog_stmt.proofs.LabelsExact.{labels_start}
use Rattle.vlog_stmt.proofs.ArmsExact.{Opens, start_more, no_else, label_goes, end_stops, default_stops, Labelled, Default, DefaultsC, BehindC, ArmsC}

-- the depths of a case item's parts
record Low (room : ℕ) (labels : List Expr) (body : Stmt) (others : List (Arm Stmt)) : Type 0 where
  labelled : deepest_of depth labels ≤ room
  within : depth_of_stmt body ≤ room
  behind : deepest_of arm_depth others ≤ room

lower : (room : ℕ) (xs : List (Arm Stmt)) (place : Place) (labels : List Expr) (body : Stmt) (others : List (Arm Stmt)) → xs ≡ record { place = place; labels = labels; body = body } ∷ others → deepest_of arm_depth xs ≤ room → Low room labels body others
lower room xs place labels body others all low =
    let d = ap (deepest_of arm_depth) all ∙ deepest_one arm_depth (record { place = place; labels = labels; body = body }) others in
    let e = arm-is place labels body in
    record { labelled = omega arith; within = omega arith; behind = omega arith }

seen_word : (w : List ℕ) (l : Lexeme) → IsWord w l → sees_word w (Some l) ≡ true
unfolding sees_word
seen_word w l is = is

-- no `else` in front of case items
else_behind : (matching : Matching) (has : Bool) (js : List Lexeme) (ys : List (Arm Stmt)) (r : Lexeme) → IsWord (codes "endcase") r → SpellsArms matching has js ys → sees_word (codes "else") (front js (Some r)) ≡ false
else_behind matching has js ys r ends (g.no_arms h none all) = ap (λ z. sees_word (codes "else") (front z (Some r))) none ∙ other_word (codes "endcase") (codes "else") r ends refl
else_behind matching has js ys r ends (g.labelled colon es is ks open_if labels body others spelled marks stmt rest parts all) =
    ap (λ z. sees_word (codes "else") (front z (Some r))) parts ∙ no_else es (colon ∷ (is ++ ks)) (Some r) (labels_start matching es labels spelled)
else_behind matching has js ys r ends (g.default word cs is ks open_if body others worded may stmt rest h parts all) =
    ap (λ z. sees_word (codes "else") (front z (Some r))) parts ∙ other_word (codes "default") (codes "else") word worded refl

module _ (room : ℕ) (inner : Reader Stmt) (each : Exact inner (Opens room)) (matching : Matching) (r : Lexeme) (ends : IsWord (codes "endcase") r) where
  piece : (us es : List Lexeme) (colon : Lexeme) (is js : List Lexeme) (open_if : Bool) (labels : List Expr) (body : Stmt) (next : Option Lexeme)
      → SpellsLabels matching es labels → deepest_of depth labels ≤ room → IsMark (codes ":") colon → SpellsStmt open_if is body → depth_of_stmt body ≤ room → sees_word (codes "else") next ≡ false → us ≡ es ++ colon ∷ (is ++ js)
      → Labelled room inner each matching (es ++ colon ∷ is) (record { place = start us; labels = labels; body = body }) next
  piece us es colon is js open_if labels body next spelled low marks stmt lower other parts = record {
    colon = colon;
    es = es;
    is = is;
    labels = labels;
    body = body;
    spelled = record { spelled = spelled; shallow = low };
    marks = marks;
    here = record { open_if = open_if; spelled = stmt; shallow = lower; closed = λ o. other };
    parts = refl;
    all = ap (λ z. record { place = z; labels = labels; body = body }) (ap start (parts ∙ sym (append_assoc es (colon ∷ is) js)) ∙ start_more (es ++ colon ∷ is) es colon is js refl);
  }

  without_default : (has : Bool) → has ≡ false → (us : List Lexeme) (xs : List (Arm Stmt)) → SpellsArms matching has us xs → deepest_of arm_depth xs ≤ room → Many (Labelled room inner each matching) (before_arm false) us xs (Some r)
  without_default has none us xs (g.no_arms h nil all) low = stopped (end_stops false r ends) nil all
  without_default has none us xs (g.labelled colon es is js open_if labels body others spelled marks stmt rest parts all) low =
      let l = lower room xs (start us) labels body others all low in
      more (es ++ colon ∷ is) js (record { place = start us; labels = labels; body = body }) others
      (ap (λ z. before_arm false (front z (Some r))) parts ∙ label_goes false es (colon ∷ (is ++ js)) (Some r) (labels_start matching es labels spelled))
      (piece us es colon is js open_if labels body (front js (Some r)) spelled l.labelled marks stmt l.within (else_behind matching has js others r ends rest) parts)
      (without_default has none js others rest l.behind) (parts ∙ sym (append_assoc es (colon ∷ is) js)) all
  without_default has none us xs (g.default word cs is js open_if body others worded may stmt rest h parts all) low = let never = sym h ∙ none in cc

  data Tail (us : List Lexeme) (zs : List (Arm Stmt)) : Type 0 where
    no_default : us ≡ [] → zs ≡ [] → Tail us zs
    a_default : (word : Lexeme) (vs is js : List Lexeme) (x : Arm Stmt) (ws : List (Arm Stmt)) → IsWord (codes "default") word → is ≡ word ∷ vs → us ≡ is ++ js → Default room inner each matching is x (front js (Some r))
        → Many (Labelled room inner each matching) (before_arm false) js ws (Some r) → zs ≡ x ∷ ws → Tail us zs

  record Split (us : List Lexeme) (xs : List (Arm Stmt)) : Type 0 where
    left : List Lexeme
    right : List Lexeme
    ys : List (Arm Stmt)
    zs : List (Arm Stmt)
    parts : us ≡ left ++ right
    fronts : Many (Labelled room inner each matching) (before_arm true) left ys (front right (Some r))
    tail : Tail right zs
    all : xs ≡ ys ++ zs

  split : (has : Bool) (us : List Lexeme) (xs : List (Arm Stmt)) → SpellsArms matching has us xs → deepest_of arm_depth xs ≤ room → Split us xs
  split has us xs (g.no_arms h nil all) low = record { left = []; right = []; ys = []; zs = []; parts = nil; fronts = stopped (end_stops true r ends) refl refl; tail = no_default refl refl; all = all }
  split has us xs (g.labelled colon es is js open_if labels body others spelled marks stmt rest parts all) low =
      let l = lower room xs (start us) labels body others all low in
      let s = split has js others rest l.behind in
      let x : Arm Stmt = record { place = start us; labels = labels; body = body } in
      let next : front js (Some r) ≡ front s.left (front s.right (Some r)) = ap (λ z. front z (Some r)) s.parts ∙ front-append s.left s.right (Some r) in
      record {
        left = (es ++ colon ∷ is) ++ s.left;
        right = s.right;
        ys = x ∷ s.ys;
        zs = s.zs;
        parts = parts ∙ (sym (append_assoc es (colon ∷ is) js) ∙ (ap (λ z. (es ++ colon ∷ is) ++ z) s.parts ∙ sym (append_assoc (es ++ colon ∷ is) s.left s.right)));
        fronts = more (es ++ colon ∷ is) s.left x s.ys
            (ap (λ z. before_arm true (front z (front s.right (Some r)))) (append_assoc es (colon ∷ is) s.left) ∙ label_goes true es ((colon ∷ is) ++ s.left) (front s.right (Some r)) (labels_start matching es labels spelled))
            (piece us es colon is js open_if labels body (front s.left (front s.right (Some r))) spelled l.labelled marks stmt l.within (ap (λ o. sees_word (codes "else") o) (sym next) ∙ else_behind matching has js others r ends rest) parts)
            s.fronts refl refl;
        tail = s.tail;
        all = all ∙ ap (λ z. x ∷ z) s.all;
      }
  split has us xs (g.default word cs is js open_if body others worded may stmt rest h parts all) low =
      let l = lower room xs (start us) [] body others all low in
      let x : Arm Stmt = record { place = start us; labels = []; body = body } in
      let whole : us ≡ (word ∷ (cs ++ is)) ++ js = parts ∙ ap (λ z. word ∷ z) (sym (append_assoc cs is js)) in
      record {
        left = [];
        right = us;
        ys = [];
        zs = xs;
        parts = refl;
        fronts = stopped (ap (λ z. before_arm true (front z (Some r))) parts ∙ default_stops word worded) refl refl;
        tail = a_default word (cs ++ is) (word ∷ (cs ++ is)) js x others worded refl whole
            (record {
              word = word;
              cs = cs;
              is = is;
              body = body;
              worded = worded;
              may = may;
              here = record { open_if = open_if; spelled = stmt; shallow = l.within; closed = λ o. else_behind matching false js others r ends rest };
              parts = refl;
              all = ap (λ z. record { place = z; labels = []; body = body }) (ap start whole ∙ start_more (word ∷ (cs ++ is)) [] word (cs ++ is) js refl);
            })
            (without_default false refl js others rest l.behind) all;
        all = refl;
      }

  module _ (eats : Eats (labelled room inner matching)) where
    tail_from : (us : List Lexeme) (xs ys zs : List (Arm Stmt)) → Tail us zs → xs ≡ ys ++ zs → BehindC room inner each matching eats ys us xs (Some r)
    unfolding BehindC DefaultsC
    tail_from us xs ys zs (no_default nil none) all =
        let unseen : sees_word (codes "default") (front us (Some r)) ≡ false = ap (λ z. sees_word (codes "default") (front z (Some r))) nil ∙ other_word (codes "endcase") (codes "default") r ends refl in
        subst (λ b. Choose b (DefaultsC room inner each matching eats ys) (Nothing ys) us xs (Some r)) (sym unseen) (record { none = nil; same = all ∙ (ap (λ z. ys ++ z) none ∙ append-nil ys) })
    tail_from us xs ys zs (a_default word vs is js x ws worded at parts d m same) all =
        let seen : sees_word (codes "default") (front us (Some r)) ≡ true = ap (λ z. sees_word (codes "default") (front z (Some r))) (parts ∙ ap (λ z. z ++ js) at) ∙ seen_word (codes "default") word worded in
        subst (λ b. Choose b (DefaultsC room inner each matching eats ys) (Nothing ys) us xs (Some r)) (sym seen)
        (record { left = is; right = js; mid = x; parts = parts; one = d; two = record { left = js; right = []; mid = ws; parts = sym (append-nil js); one = m; two = record { none = refl; same = all ∙ ap (λ z. ys ++ z) same } } })

    pub items_spelled : (has : Bool) (us : List Lexeme) (xs : List (Arm Stmt)) → SpellsArms matching has us xs → deepest_of arm_depth xs ≤ room → ArmsC room inner each matching eats us xs (Some r)
    unfolding ArmsC
    items_spelled has us xs s low =
        let p = split has us xs s low in
        record { left = p.left; right = p.right; mid = p.ys; parts = p.parts; one = p.fronts; two = tail_from p.right xs p.ys p.zs p.tail p.all }
