-- The reader of case items is exact in front of `endcase`. A statement in them is a parameter.
--     Opens room us s next            us spells the statement s, no deeper than the room, and no `else` behind it belongs to it
--     exact_arms                      case items
use Rattle.std.proofs.Common.{◌≡◌, ℕ, ◌≤◌, Bool, true, false, List, [], ◌∷◌, ◌++◌, Option, Some, refl, sym, ap, ◌∙◌, subst, append_assoc, append-nil, arith}
use Rattle.std.specs.Prelude.{◌==◌, codes}
use Rattle.rdc_outside.specs.declared.source.Place.{Place}
use Rattle.vlog_tree.specs.declared.expr.Expr.{Expr}
use Rattle.vlog_tree.specs.declared.stmt.Matching.{Matching}
use Rattle.vlog_tree.specs.declared.stmt.Arm.{Arm}
use Rattle.vlog_tree.specs.declared.stmt.Stmt.{Stmt}
use Rattle.vlog_tree.specs.Lexemes.{Lexeme, IsMark, IsWord, start}
use Rattle.vlog_tree.specs.Reserved.{is_reserved, reserved_with}
use Rattle.vlog_tree.specs.Statements.{SpellsStmt, SpellsArms, MayColon}
use Rattle.vlog_tree.specs.Statements as g
use Rattle.vlog_tree.specs.Depth.{depth, deepest_of, depth_of_stmt}
use Rattle.vlog_expr.specs.Reading.{Reader, place_if, sees, sees_word}
use Rattle.vlog_stmt.specs.Lists.{Eats}
use Rattle.vlog_stmt.specs.Statements.{before, before_arm, labelled, default, arms_behind, arms}
use Rattle.vlog_stmt.proofs.StmtsSteady.{choice_keeps}
use Rattle.vlog_stmt.proofs.WordLemmas.{other_word}
use Rattle.vlog_stmt.proofs.FirstLemmas.{Starts, fine_word}
use Rattle.vlog_stmt.proofs.StmtDepths.{arm_depth, arm-is, deepest_one, deepest_none}
use Rattle.vlog_stmt.proofs.StmtBegins.{begins, no_colon_at}
use Rattle.vlog_stmt.proofs.Exact.{Spelling, front, Exact, Nothing, Behind, Either, with, without, Row, Choose, exact_as, exact_pure, exact_at, exact_word, exact_mark, exact_may, exact_if, ◌>>=◌}
use Rattle.vlog_stmt.proofs.ManyExact.{Many, stopped, more, Commas, exact_many, exact_commas}
use Rattle.vlog_stmt.proofs.LabelsExact.{Choice, exact_choice, Labels, labels_read, labels_spelled}

pub record Opens (room : ℕ) (us : List Lexeme) (s : Stmt) (next : Option Lexeme) : Type 0 where
  pub open_if : Bool
  pub spelled : SpellsStmt open_if us s
  pub shallow : depth_of_stmt s ≤ room
  pub closed : open_if ≡ true → sees_word (codes "else") next ≡ false

-- the place of the first lexeme
pub placed_at : (us fst : List Lexeme) (l : Lexeme) (ls : List Lexeme) (next : Option Lexeme) → us ≡ fst ++ l ∷ ls → place_if (front us next) ≡ start us
unfolding place_if start
placed_at us [] l ls next is = ap (λ z. place_if (front z next)) is ∙ sym (ap start is)
placed_at us (m ∷ ms) l ls next is = ap (λ z. place_if (front z next)) is ∙ sym (ap start is)

pub start_more : (us fst : List Lexeme) (l : Lexeme) (ls vs : List Lexeme) → us ≡ fst ++ l ∷ ls → start (us ++ vs) ≡ start us
unfolding start
start_more us [] l ls vs is = ap (λ z. start (z ++ vs)) is ∙ sym (ap start is)
start_more us (m ∷ ms) l ls vs is = ap (λ z. start (z ++ vs)) is ∙ sym (ap start is)

-- what a label begins with is no such word
module _ (w : ℕ) (ws : List ℕ) (plain : (w == 92) ≡ false) (reserved : is_reserved (w ∷ ws) ≡ true) where
  no_label_word : (us vs : List Lexeme) (next : Option Lexeme) → Starts us → sees_word (w ∷ ws) (front (us ++ vs) next) ≡ false
  no_label_word us vs next s = ap (λ z. sees_word (w ∷ ws) (front (z ++ vs) next)) s.is ∙ fine_word w ws s.lexeme s.fine plain reserved

pub no_else : (us vs : List Lexeme) (next : Option Lexeme) → Starts us → sees_word (codes "else") (front (us ++ vs) next) ≡ false
unfolding is_reserved reserved_with
no_else us vs next s = no_label_word 101 (codes "lse") refl refl us vs next s

no_endcase : (us vs : List Lexeme) (next : Option Lexeme) → Starts us → sees_word (codes "endcase") (front (us ++ vs) next) ≡ false
unfolding is_reserved reserved_with
no_endcase us vs next s = no_label_word 101 (codes "ndcase") refl refl us vs next s

no_default : (us vs : List Lexeme) (next : Option Lexeme) → Starts us → sees_word (codes "default") (front (us ++ vs) next) ≡ false
unfolding is_reserved reserved_with
no_default us vs next s = no_label_word 100 (codes "efault") refl refl us vs next s

pub label_goes : (in_front : Bool) (us vs : List Lexeme) (next : Option Lexeme) → Starts us → before_arm in_front (front (us ++ vs) next) ≡ true
unfolding before_arm before
label_goes true us vs next s = let a = no_endcase us vs next s in let b = no_default us vs next s in rw (a, b) refl
label_goes false us vs next s = let a = no_endcase us vs next s in rw a refl

pub end_stops : (in_front : Bool) (r : Lexeme) → IsWord (codes "endcase") r → before_arm in_front (Some r) ≡ false
unfolding before_arm before sees_word
end_stops in_front r ends = rw ends refl

default_seen : (l : Lexeme) → IsWord (codes "default") l → sees_word (codes "default") (Some l) ≡ true
unfolding sees_word
default_seen l is = is

pub default_stops : (r : Lexeme) → IsWord (codes "default") r → before_arm true (Some r) ≡ false
unfolding before_arm before
default_stops r is =
    let seen = default_seen r is in
    let other : sees_word (codes "endcase") (Some r) ≡ false = other_word (codes "default") (codes "endcase") r is refl in rw (other, seen) refl

module _ (room : ℕ) (inner : Reader Stmt) (each : Exact inner (Opens room)) (matching : Matching) where
  -- L(expr) ":" stmt
  pub record Labelled (us : List Lexeme) (x : Arm Stmt) (next : Option Lexeme) : Type 0 where
    pub colon : Lexeme
    pub es : List Lexeme
    pub is : List Lexeme
    pub labels : List Expr
    pub body : Stmt
    pub spelled : Labels matching room es labels
    pub marks : IsMark (codes ":") colon
    pub here : Opens room is body next
    pub parts : us ≡ es ++ colon ∷ is
    pub all : x ≡ record { place = start us; labels = labels; body = body }

  LabelledC : Spelling (Arm Stmt)
  LabelledC us x next = Row (Commas (Choice room matching)) (λ labels. Behind (IsMark (codes ":")) (Row (Opens room) (λ body. Nothing (record { place = place_if (front us next); labels = labels; body = body })))) us x next

  labelled_to : (us : List Lexeme) (x : Arm Stmt) (next : Option Lexeme) → LabelledC us x next → Labelled us x next
  unfolding LabelledC
  labelled_to us x next r =
      let s = r.two in let row = s.spelled in let n = row.two in
      let whole : us ≡ r.left ++ s.lexeme ∷ row.left = rw (r.parts, s.parts, row.parts, n.none, append-nil row.left) refl in
      record {
        colon = s.lexeme;
        es = r.left;
        is = row.left;
        labels = r.mid;
        body = row.mid;
        spelled = labels_read room matching r.left r.mid (front r.right next) r.one;
        marks = s.is;
        here = subst (λ z. Opens room row.left row.mid (front z next)) n.none row.one;
        parts = whole;
        all = n.same ∙ ap (λ z. record { place = z; labels = r.mid; body = row.mid }) (placed_at us r.left s.lexeme row.left next whole);
      }

  labelled_from : (us : List Lexeme) (x : Arm Stmt) (next : Option Lexeme) → Labelled us x next → LabelledC us x next
  unfolding LabelledC
  labelled_from us x next a = record {
    left = a.es;
    right = a.colon ∷ a.is;
    mid = a.labels;
    parts = a.parts;
    one = labels_spelled room matching a.es a.labels a.colon a.marks a.spelled;
    two = record {
      lexeme = a.colon;
      others = a.is;
      is = a.marks;
      parts = refl;
      spelled = record {
        left = a.is;
        right = [];
        mid = a.body;
        parts = sym (append-nil a.is);
        one = a.here;
        two = record { none = refl; same = a.all ∙ ap (λ z. record { place = z; labels = a.labels; body = a.body }) (sym (placed_at us a.es a.colon a.is next a.parts)) };
      };
    };
  }

  exact_labelled : Exact (labelled room inner matching) Labelled
  unfolding labelled LabelledC
  exact_labelled =
      let built = exact_at place_if (λ place. exact_commas (exact_choice room matching) (choice_keeps room matching) >>= (λ labels. exact_mark (codes ":") (each >>= (λ body. exact_pure (record { place = place; labels = labels; body = body }))))) in
      exact_as Labelled built labelled_to labelled_from

  -- "default" [ ":" ] stmt
  pub record Default (us : List Lexeme) (x : Arm Stmt) (next : Option Lexeme) : Type 0 where
    pub word : Lexeme
    pub cs : List Lexeme
    pub is : List Lexeme
    pub body : Stmt
    pub worded : IsWord (codes "default") word
    pub may : MayColon cs
    pub here : Opens room is body next
    pub parts : us ≡ word ∷ (cs ++ is)
    pub all : x ≡ record { place = start us; labels = []; body = body }

  BodyC : Place → Spelling (Arm Stmt)
  BodyC place = Row (Opens room) (λ body. Nothing (record { place = place; labels = []; body = body }))

  DefaultC : Spelling (Arm Stmt)
  DefaultC us x next = Behind (IsWord (codes "default")) (Either (sees (codes ":")) (BodyC (place_if (front us next))) (BodyC (place_if (front us next)))) us x next

  default_by : (us : List Lexeme) (x : Arm Stmt) (next : Option Lexeme) (word : Lexeme) (vs : List Lexeme) → IsWord (codes "default") word → us ≡ word ∷ vs
      → Either (sees (codes ":")) (BodyC (place_if (front us next))) (BodyC (place_if (front us next))) vs x next → Default us x next
  unfolding BodyC sees
  default_by us x next word vs w at (with colon ws marks parts r) =
      let n = r.two in
      record {
        word = word;
        cs = colon ∷ [];
        is = r.left;
        body = r.mid;
        worded = w;
        may = g.with colon marks refl;
        here = subst (λ z. Opens room r.left r.mid (front z next)) n.none r.one;
        parts = rw (at, parts, r.parts, n.none, append-nil r.left) refl;
        all = n.same ∙ ap (λ z. record { place = z; labels = []; body = r.mid }) (placed_at us [] word vs next at);
      }
  default_by us x next word vs w at (without unseen r) =
      let n = r.two in
      record {
        word = word;
        cs = [];
        is = r.left;
        body = r.mid;
        worded = w;
        may = g.without refl;
        here = subst (λ z. Opens room r.left r.mid (front z next)) n.none r.one;
        parts = rw (at, r.parts, n.none, append-nil r.left) refl;
        all = n.same ∙ ap (λ z. record { place = z; labels = []; body = r.mid }) (placed_at us [] word vs next at);
      }

  body_from : (us : List Lexeme) (a : Arm Stmt) (next : Option Lexeme) (is : List Lexeme) (body : Stmt) → Opens room is body next → a ≡ record { place = place_if (front us next); labels = []; body = body } → BodyC (place_if (front us next)) is a next
  unfolding BodyC
  body_from us a next is body o all = record { left = is; right = []; mid = body; parts = sym (append-nil is); one = o; two = record { none = refl; same = all } }

  colon_from : (us : List Lexeme) (x : Arm Stmt) (next : Option Lexeme) (cs is : List Lexeme) (body : Stmt) → MayColon cs → Opens room is body next → x ≡ record { place = place_if (front us next); labels = []; body = body }
      → Either (sees (codes ":")) (BodyC (place_if (front us next))) (BodyC (place_if (front us next))) (cs ++ is) x next
  unfolding sees
  colon_from us x next cs is body (g.with colon marks parts) o all = with colon is marks (ap (λ z. z ++ is) parts) (body_from us x next is body o all)
  colon_from us x next cs is body (g.without none) o all =
      let here : cs ++ is ≡ is = ap (λ z. z ++ is) none in
      let unseen : sees (codes ":") (front is next) ≡ false = ap (λ z. sees (codes ":") (front z next)) (sym (append-nil is)) ∙ no_colon_at is [] next (begins o.spelled) in
      without (ap (λ z. sees (codes ":") (front z next)) here ∙ unseen) (subst (λ z. BodyC (place_if (front us next)) z x next) (sym here) (body_from us x next is body o all))

  exact_default : Exact (default room inner) Default
  unfolding default DefaultC BodyC
  exact_default =
      let built = exact_at place_if (λ place. exact_word (codes "default") (exact_may (codes ":") (each >>= (λ body. exact_pure (record { place = place; labels = []; body = body }))))) in
      exact_as Default built (λ us x next b. default_by us x next b.lexeme b.others b.is b.parts b.spelled)
      (λ us x next d. record {
        lexeme = d.word;
        others = d.cs ++ d.is;
        is = d.worded;
        parts = d.parts;
        spelled = colon_from us x next d.cs d.is d.body d.may d.here (d.all ∙ ap (λ z. record { place = z; labels = []; body = d.body }) (sym (placed_at us [] d.word (d.cs ++ d.is) next d.parts)));
      })

  module _ (eats : Eats (labelled room inner matching)) where
    unfoldable pub DefaultsC : List (Arm Stmt) → Spelling (List (Arm Stmt))
    DefaultsC xs = Row Default (λ x. Row (Many Labelled (before_arm false)) (λ ys. Nothing (xs ++ x ∷ ys)))

    unfoldable pub BehindC : List (Arm Stmt) → Spelling (List (Arm Stmt))
    BehindC xs us ys next = Choose (sees_word (codes "default") (front us next)) (DefaultsC xs) (Nothing xs) us ys next

    unfoldable pub ArmsC : Spelling (List (Arm Stmt))
    ArmsC = Row (Many Labelled (before_arm true)) BehindC

    exact_behind_arms : (xs : List (Arm Stmt)) → Exact (arms_behind room inner matching xs) (BehindC xs)
    unfolding arms_behind BehindC DefaultsC
    exact_behind_arms xs =
        let built = exact_at (sees_word (codes "default")) (λ there. exact_if there (exact_default >>= (λ x. exact_many Labelled (before_arm false) (labelled room inner matching) exact_labelled eats >>= (λ ys. exact_pure (xs ++ x ∷ ys)))) (exact_pure xs)) in built

    pub exact_read : Exact (arms room inner matching) ArmsC
    unfolding arms ArmsC
    exact_read = let built = exact_many Labelled (before_arm true) (labelled room inner matching) exact_labelled eats >>= exact_behind_arms in built

    -- case items, no deeper than the room
    record Spelled (has : Bool) (us : List Lexeme) (xs : List (Arm Stmt)) : Type 0 where
      spelled : SpellsArms matching has us xs
      shallow : deepest_of arm_depth xs ≤ room

    no_spelled : Spelled false [] []
    no_spelled = let d = deepest_none arm_depth in record { spelled = g.no_arms refl refl refl; shallow = omega arith }

    arm_low : (x : Arm Stmt) (ys : List (Arm Stmt)) (place : Place) (labels : List Expr) (body : Stmt) → x ≡ record { place = place; labels = labels; body = body } → deepest_of depth labels ≤ room → depth_of_stmt body ≤ room → deepest_of arm_depth ys ≤ room
        → deepest_of arm_depth (x ∷ ys) ≤ room
    arm_low x ys place labels body is a b c = let d = deepest_one arm_depth x ys in let e = ap arm_depth is ∙ arm-is place labels body in omega arith

    with_labels : (has : Bool) (goes : Option Lexeme → Bool) (us vs : List Lexeme) (xs ys : List (Arm Stmt)) (next : Option Lexeme) → Many Labelled goes us xs next → Spelled has vs ys → Spelled has (us ++ vs) (xs ++ ys)
    with_labels has goes us vs xs ys next (stopped off none is_none) s = subst (λ z. Spelled has (z ++ vs) (xs ++ ys)) (sym none) (subst (λ z. Spelled has vs (z ++ ys)) (sym is_none) s)
    with_labels has goes us vs xs ys next (more is js x zs on a m parts same) s =
        let t = with_labels has goes js vs zs ys next m s in
        let o = a.here in let l = a.spelled in
        let whole : us ++ vs ≡ is ++ (js ++ vs) = ap (λ z. z ++ vs) parts ∙ append_assoc is js vs in
        let at : start (us ++ vs) ≡ start is = ap start whole ∙ start_more is a.es a.colon a.is (js ++ vs) a.parts in
        let first : x ≡ record { place = start (us ++ vs); labels = a.labels; body = a.body } = a.all ∙ ap (λ z. record { place = z; labels = a.labels; body = a.body }) (sym at) in
        record {
          spelled = g.labelled a.colon a.es a.is (js ++ vs) o.open_if a.labels a.body (zs ++ ys) l.spelled a.marks o.spelled t.spelled (whole ∙ (ap (λ z. z ++ (js ++ vs)) a.parts ∙ append_assoc a.es (a.colon ∷ a.is) (js ++ vs))) (ap (λ z. z ++ ys) same ∙ ap (λ z. z ∷ (zs ++ ys)) first);
          shallow = subst (λ z. deepest_of arm_depth (z ++ ys) ≤ room) (sym same) (arm_low x (zs ++ ys) (start is) a.labels a.body a.all l.shallow o.shallow t.shallow);
        }

    pub record Items (us : List Lexeme) (xs : List (Arm Stmt)) : Type 0 where
      pub has : Bool
      pub spelled : SpellsArms matching has us xs
      pub shallow : deepest_of arm_depth xs ≤ room

    behind_to : (xs : List (Arm Stmt)) (us vs : List Lexeme) (ys : List (Arm Stmt)) (next : Option Lexeme) (b : Bool) → Many Labelled (before_arm true) us xs (front vs next) → Choose b (DefaultsC xs) (Nothing xs) vs ys next → Items (us ++ vs) ys
    unfolding DefaultsC
    behind_to xs us vs ys next true m r =
        let d = r.one in let o = d.here in let row = r.two in let n = row.two in
        let t = with_labels false (before_arm false) row.left [] row.mid [] (front row.right next) row.one no_spelled in
        let low = t.shallow in let none = deepest_none depth in
        let behind : vs ≡ r.left ++ (row.left ++ []) = r.parts ∙ ap (λ z. r.left ++ z) (row.parts ∙ ap (λ z. row.left ++ z) n.none) in
        let at : start (r.left ++ (row.left ++ [])) ≡ start r.left = start_more r.left [] d.word (d.cs ++ d.is) (row.left ++ []) d.parts in
        let second : Spelled true (r.left ++ (row.left ++ [])) (r.mid ∷ (row.mid ++ [])) = record {
          spelled = g.default d.word d.cs d.is (row.left ++ []) o.open_if d.body (row.mid ++ []) d.worded d.may o.spelled t.spelled refl
              (ap (λ z. z ++ (row.left ++ [])) d.parts ∙ ap (λ z. d.word ∷ z) (append_assoc d.cs d.is (row.left ++ []))) (ap (λ z. z ∷ (row.mid ++ [])) (d.all ∙ ap (λ z. record { place = z; labels = []; body = d.body }) (sym at)));
          shallow = arm_low r.mid (row.mid ++ []) (start r.left) [] d.body d.all (omega arith) o.shallow low;
        } in
        let got = with_labels true (before_arm true) us (r.left ++ (row.left ++ [])) xs (r.mid ∷ (row.mid ++ [])) (front vs next) m second in
        let same : ys ≡ xs ++ r.mid ∷ (row.mid ++ []) = n.same ∙ ap (λ z. xs ++ r.mid ∷ z) (sym (append-nil row.mid)) in
        record {
          has = true;
          spelled = subst (λ z. SpellsArms matching true (us ++ z) ys) (sym behind) (subst (λ z. SpellsArms matching true (us ++ (r.left ++ (row.left ++ []))) z) (sym same) got.spelled);
          shallow = subst (λ z. deepest_of arm_depth z ≤ room) (sym same) got.shallow;
        }
    behind_to xs us vs ys next false m n =
        let got = with_labels false (before_arm true) us [] xs [] (front vs next) m no_spelled in
        let same : ys ≡ xs ++ [] = n.same ∙ sym (append-nil xs) in
        record {
          has = false;
          spelled = subst (λ z. SpellsArms matching false (us ++ z) ys) (sym n.none) (subst (λ z. SpellsArms matching false (us ++ []) z) (sym same) got.spelled);
          shallow = subst (λ z. deepest_of arm_depth z ≤ room) (sym same) got.shallow;
        }

    pub items_read : (us : List Lexeme) (xs : List (Arm Stmt)) (next : Option Lexeme) → ArmsC us xs next → Items us xs
    unfolding ArmsC BehindC
    items_read us xs next r = subst (λ z. Items z xs) (sym r.parts) (behind_to r.mid r.left r.right xs next (sees_word (codes "default") (front r.right next)) r.one r.two)
