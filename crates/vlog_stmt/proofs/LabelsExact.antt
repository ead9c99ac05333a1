-- The reader of a case item's labels is exact in front of a colon.
--     Labels matching room us es      us spells the labels, no deeper than the room
use Rattle.std.proofs.Common.{◌≡◌, ℕ, ◌≤◌, List, [], ◌∷◌, ◌++◌, Option, Some, refl, sym, ap, ◌∙◌, subst, append-nil, arith}
use Rattle.std.specs.Prelude.{codes}
use Rattle.vlog_tree.specs.declared.expr.Expr.{Expr}
use Rattle.vlog_tree.specs.declared.stmt.Matching.{Matching}
use Rattle.vlog_tree.specs.declared.stmt.Matching.TheVariants as m
use Rattle.vlog_tree.specs.Lexemes.{Lexeme, IsMark}
use Rattle.vlog_tree.specs.Lists.{SpellsCommas, one, more as further}
use Rattle.vlog_tree.specs.Expressions.{Spells, SpellsList, SpellsPlain}
use Rattle.vlog_tree.specs.Expressions as t
use Rattle.vlog_tree.specs.Statements.{SpellsLabels}
use Rattle.vlog_tree.specs.Depth.{depth, deepest_of}
use Rattle.vlog_tree.proofs.DepthLemmas.{deepest-cons, deepest-one}
use Rattle.vlog_expr.specs.Reading.{sees}
use Rattle.vlog_expr.proofs.MarkLemmas.{Quiet, quiet_comma, quiet_colon}
use Rattle.vlog_expr.proofs.PlainLemmas.{quiet_ended}
use Rattle.vlog_stmt.specs.Statements.{choice}
use Rattle.vlog_stmt.proofs.WordLemmas.{other_mark}
use Rattle.vlog_stmt.proofs.FirstLemmas.{Starts, list_starts, plain_list_to, plain_list_from}
use Rattle.vlog_stmt.proofs.Exact.{Spelling, front, Exact, Behind}
use Rattle.vlog_stmt.proofs.ManyExact.{Many, stopped, more, Commas}
use Rattle.vlog_stmt.proofs.PiecesExact.{Value, Wild, exact_value, exact_wild}

-- one label
Label : Matching → List Lexeme → Expr → Type 0
Label m.Exact us x = SpellsPlain us x
Label m.Wildcard us x = Spells 0 us x

pub Choice : ℕ → Matching → Spelling Expr
Choice room m.Exact = Value room
Choice room m.Wildcard = Wild room

pub exact_choice : (room : ℕ) (matching : Matching) → Exact (choice room matching) (Choice room matching)
unfolding choice Choice
exact_choice room m.Exact = exact_value room
exact_choice room m.Wildcard = exact_wild room

choice_label : (room : ℕ) (matching : Matching) (us : List Lexeme) (x : Expr) (next : Option Lexeme) → Choice room matching us x next → Label matching us x × (depth x ≤ room)
unfolding Choice Label
choice_label room m.Exact us x next v = (v.spelled, v.shallow)
choice_label room m.Wildcard us x next v = (v.spelled, v.shallow)

label_choice : (room : ℕ) (matching : Matching) (us : List Lexeme) (x : Expr) (r : Lexeme) → Label matching us x → depth x ≤ room → Quiet r → Choice room matching us x (Some r)
unfolding Choice Label
label_choice room m.Exact us x r s low q = record { spelled = s; shallow = low; ended = quiet_ended x r q }
label_choice room m.Wildcard us x r s low q = record { spelled = s; shallow = low; ended = quiet_ended x r q }

list_to : {us : List Lexeme} {es : List Expr} → SpellsCommas (λ vs x. Spells 0 vs x) us es → SpellsList us es
list_to (one x s all) = t.one x s all
list_to (further comma is js x ys s marks o parts all) = t.more comma is js x ys s marks (list_to o) parts all

list_from : {us : List Lexeme} {es : List Expr} → SpellsList us es → SpellsCommas (λ vs x. Spells 0 vs x) us es
list_from (t.one x s all) = one x s all
list_from (t.more comma is js x ys s marks o parts all) = further comma is js x ys s marks (list_from o) parts all

labels_to : (matching : Matching) (us : List Lexeme) (es : List Expr) → SpellsCommas (Label matching) us es → SpellsLabels matching us es
unfolding Label SpellsLabels
labels_to m.Exact us es c = plain_list_to c
labels_to m.Wildcard us es c = list_to c

labels_from : (matching : Matching) (us : List Lexeme) (es : List Expr) → SpellsLabels matching us es → SpellsCommas (Label matching) us es
unfolding Label SpellsLabels
labels_from m.Exact us es s = plain_list_from s
labels_from m.Wildcard us es s = list_from s

pub labels_start : (matching : Matching) (us : List Lexeme) (es : List Expr) → SpellsLabels matching us es → Starts us
unfolding SpellsLabels
labels_start m.Exact us es s = list_starts s.spells
labels_start m.Wildcard us es s = list_starts s

pub record Labels (matching : Matching) (room : ℕ) (us : List Lexeme) (es : List Expr) : Type 0 where
  pub spelled : SpellsLabels matching us es
  pub shallow : deepest_of depth es ≤ room

record Listed (matching : Matching) (room : ℕ) (us : List Lexeme) (es : List Expr) : Type 0 where
  spelled : SpellsCommas (Label matching) us es
  shallow : deepest_of depth es ≤ room

module _ (room : ℕ) (matching : Matching) where
  listed : (is vs : List Lexeme) (x : Expr) (xs : List Expr) (next : Option Lexeme) → Label matching is x → depth x ≤ room → Many (Behind (IsMark (codes ",")) (Choice room matching)) (sees (codes ",")) vs xs next → Listed matching room (is ++ vs) (x ∷ xs)
  listed is vs x xs next s low (stopped off none is_none) =
      let deep = ap (λ z. deepest_of depth (x ∷ z)) is_none ∙ deepest-one x in
      record { spelled = one x (subst (λ z. Label matching z x) (sym (ap (λ z. is ++ z) none ∙ append-nil is)) s) (ap (λ z. x ∷ z) is_none); shallow = omega arith }
  listed is vs x xs next s low (more js ks y ys on b m parts same) =
      let c = choice_label room matching b.others y (front ks next) b.spelled in
      let a = listed b.others ks y ys next c.0 c.1 m in
      let deep = ap (λ z. deepest_of depth (x ∷ z)) same ∙ deepest-cons x (y ∷ ys) in let rest = a.shallow in
      record { spelled = further b.lexeme is (b.others ++ ks) x (y ∷ ys) s b.is a.spelled (rw (parts, b.parts) refl) (ap (λ z. x ∷ z) same); shallow = omega arith }

  pub labels_read : (us : List Lexeme) (es : List Expr) (next : Option Lexeme) → Commas (Choice room matching) us es next → Labels matching room us es
  labels_read us es next c =
      let d = c.two in let n = d.two in
      let f = choice_label room matching c.left c.mid (front c.right next) c.one in
      let a = listed c.left d.left c.mid d.mid (front d.right next) f.0 f.1 d.one in
      let same : us ≡ c.left ++ d.left = rw (c.parts, d.parts, n.none, append-nil d.left) refl in
      let got : Labels matching room (c.left ++ d.left) (c.mid ∷ d.mid) = record { spelled = labels_to matching (c.left ++ d.left) (c.mid ∷ d.mid) a.spelled; shallow = a.shallow } in
      subst (λ z. Labels matching room z es) (sym same) (subst (λ z. Labels matching room (c.left ++ d.left) z) (sym n.same) got)

  record Parted (us : List Lexeme) (es : List Expr) (colon : Lexeme) : Type 0 where
    is : List Lexeme
    vs : List Lexeme
    x : Expr
    xs : List Expr
    parts : us ≡ is ++ vs
    first : Choice room matching is x (front vs (Some colon))
    others : Many (Behind (IsMark (codes ",")) (Choice room matching)) (sees (codes ",")) vs xs (Some colon)
    all : es ≡ x ∷ xs

  parted : (us : List Lexeme) (es : List Expr) (colon : Lexeme) → IsMark (codes ":") colon → SpellsCommas (Label matching) us es → deepest_of depth es ≤ room → Parted us es colon
  unfolding sees
  parted us es colon marked (one x s all) low =
      let deep = ap (deepest_of depth) all ∙ deepest-one x in
      record {
        is = us;
        vs = [];
        x = x;
        xs = [];
        parts = sym (append-nil us);
        first = label_choice room matching us x colon s (omega arith) (quiet_colon colon marked);
        others = stopped (other_mark (codes ":") (codes ",") colon marked refl) refl refl;
        all = all;
      }
  parted us es colon marked (further comma is js x xs s marks o parts all) low =
      let deep = ap (deepest_of depth) all ∙ deepest-cons x xs in
      let p = parted js xs colon marked o (omega arith) in
      record {
        is = is;
        vs = comma ∷ js;
        x = x;
        xs = xs;
        parts = parts;
        first = label_choice room matching is x comma s (omega arith) (quiet_comma comma marks);
        others = more (comma ∷ p.is) p.vs p.x p.xs marks (record { lexeme = comma; others = p.is; is = marks; parts = refl; spelled = p.first }) p.others (ap (λ z. comma ∷ z) p.parts) p.all;
        all = all;
      }

  pub labels_spelled : (us : List Lexeme) (es : List Expr) (colon : Lexeme) → IsMark (codes ":") colon → Labels matching room us es → Commas (Choice room matching) us es (Some colon)
  labels_spelled us es colon marked s =
      let p = parted us es colon marked (labels_from matching us es s.spelled) s.shallow in
      record { left = p.is; right = p.vs; mid = p.x; parts = p.parts; one = p.first; two = record { left = p.vs; right = []; mid = p.xs; parts = sym (append-nil p.vs); one = p.others; two = record { none = refl; same = p.all } } }
