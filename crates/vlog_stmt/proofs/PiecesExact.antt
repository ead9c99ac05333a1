-- Readers of values, names and labels are exact.
--     Value room us x next            us spells the expression x without z digits, which is no deeper than the room and ended
--     Name us i next                  us is the name i
--     Label room us o next            us is `:` and a name, or nothing, where no `:` follows
use Rattle.std.proofs.Common.{◌≡◌, ℕ, ◌≤◌, Bool, true, false, List, [], ◌∷◌, ◌++◌, Option, Some, None, refl, sym, ap, ◌∙◌, subst, arith}
use Rattle.std.specs.Prelude.{codes}
use Rattle.rdc_outside.specs.declared.source.Place.{Place}
use Rattle.vlog_tree.specs.declared.ident.Ident.{Ident}
use Rattle.vlog_tree.specs.declared.expr.Expr.{Expr}
use Rattle.vlog_tree.specs.Lexemes.{Lexeme, IsMark}
use Rattle.vlog_tree.specs.Names.{IsIdent}
use Rattle.vlog_tree.specs.Expressions.{Spells, SpellsPlain}
use Rattle.vlog_tree.specs.Lists.{SpellsOptional, SpellsLabel, absent, present, label as a_label}
use Rattle.vlog_tree.specs.Depth.{depth, depth_of_label}
use Rattle.vlog_expr.specs.declared.stuck.Stuck.TheVariants.{Wrong}
use Rattle.vlog_expr.specs.Reading.{place_if, name_if, sees}
use Rattle.vlog_expr.specs.Exprs.{expr}
use Rattle.vlog_expr.proofs.PlainLemmas.{Ended, any_sound, any_read, plain_sound, plain_read}
use Rattle.vlog_stmt.specs.Lists.{ident, label}
use Rattle.vlog_stmt.specs.Targets.{value}
use Rattle.vlog_stmt.proofs.Exact.{front, Exact, Nothing, Never, Known, there, absent as unknown, Behind, Roomy, Row, Choose, exact_as, exact_pure, exact_stop, exact_at, exact_known, exact_mark, exact_if, exact_within, ◌>>=◌}

pub record Value (room : ℕ) (us : List Lexeme) (x : Expr) (next : Option Lexeme) : Type 0 where
  pub spelled : SpellsPlain us x
  pub shallow : depth x ≤ room
  pub ended : Ended x next

pub exact_value : (room : ℕ) → Exact (value room) (Value room)
exact_value room = record {
  sound = λ ls x rest h. (let t = plain_sound room ls x rest h in record { us = t.taken; parts = t.parts; spelled = record { spelled = t.spelled; shallow = t.shallow; ended = t.ended } });
  complete = λ us rest x s. plain_read room us rest x s.spelled s.shallow s.ended;
}

-- the same with z digits
pub record Wild (room : ℕ) (us : List Lexeme) (x : Expr) (next : Option Lexeme) : Type 0 where
  pub spelled : Spells 0 us x
  pub shallow : depth x ≤ room
  pub ended : Ended x next

pub exact_wild : (room : ℕ) → Exact (expr room 0) (Wild room)
exact_wild room = record {
  sound = λ ls x rest h. (let t = any_sound room ls x rest h in record { us = t.taken; parts = t.parts; spelled = record { spelled = t.spelled; shallow = t.shallow; ended = t.ended } });
  complete = λ us rest x s. any_read room us rest x s.spelled s.shallow s.ended;
}

pub record Name (us : List Lexeme) (i : Ident) (next : Option Lexeme) : Type 0 where
  pub lexeme : Lexeme
  pub is : IsIdent lexeme i
  pub parts : us ≡ lexeme ∷ []

at_place : Place → List ℕ → Ident
at_place place name = record { place = place; name = name }

name_to : (us : List Lexeme) (i : Ident) (next : Option Lexeme) → Known name_if (λ name. Nothing (at_place (place_if (front us next)) name)) Never us i next → Name us i next
unfolding name_if place_if at_place
name_to us i next (there name l vs seen parts n) = record {
  lexeme = l;
  is = record {
    name = seen ∙ ap (λ z. Some z) (sym (ap (λ j. j.name) n.same));
    place = ap (λ j. j.place) n.same ∙ ap (λ z. place_if (front z next)) parts;
  };
  parts = parts ∙ ap (λ z. l ∷ z) n.none;
}
name_to us i next (unknown seen n) = absurd n.never

name_back : (us : List Lexeme) (i : Ident) (next : Option Lexeme) → Name us i next → Known name_if (λ name. Nothing (at_place (place_if (front us next)) name)) Never us i next
unfolding name_if place_if at_place
name_back us i next n =
    there i.name n.lexeme [] n.is.name n.parts
    (record { none = refl; same = ap (λ p. record { place = p; name = i.name }) (n.is.place ∙ sym (ap (λ z. place_if (front z next)) n.parts)) })

pub exact_ident : Exact ident Name
unfolding ident name_if at_place
exact_ident =
    let built = exact_at place_if (λ place. exact_known name_if refl (λ name. exact_pure (at_place place name)) (exact_stop Wrong)) in
    exact_as Name built name_to name_back

pub record Label (room : ℕ) (us : List Lexeme) (o : Option Ident) (next : Option Lexeme) : Type 0 where
  pub spelled : SpellsOptional SpellsLabel us o
  pub shallow : depth_of_label o ≤ room
  pub ended : o ≡ None → sees (codes ":") next ≡ false

abbrev Labelled : ℕ → List Lexeme → Option Ident → Option Lexeme → Type 0
Labelled room = Roomy room (Behind (IsMark (codes ":")) (Row Name (λ i. Nothing (Some i))))

label_to : (room : ℕ) (us : List Lexeme) (o : Option Ident) (next : Option Lexeme) (b : Bool) → sees (codes ":") (front us next) ≡ b → Choose b (Labelled room) (Nothing None) us o next → Label room us o next
unfolding depth_of_label
label_to room us o next true seen r =
    let row = r.spelled.spelled in
    let name = row.one in
    let nothing = row.two in
    let some = r.some in
    record {
      spelled = present row.mid (a_label r.spelled.lexeme name.lexeme r.spelled.is name.is
          (r.spelled.parts ∙ ap (λ z. r.spelled.lexeme ∷ z) (row.parts ∙ (ap (λ z. z ++ row.right) name.parts ∙ ap (λ z. name.lexeme ∷ z) nothing.none)))) nothing.same;
      shallow = subst (λ z. depth_of_label z ≤ room) (sym nothing.same) (omega arith);
      ended = λ none. (let no = sym none ∙ nothing.same in cc);
    }
label_to room us o next false seen n = record {
  spelled = absent n.none n.same;
  shallow = subst (λ z. depth_of_label z ≤ room) (sym n.same) (omega arith);
  ended = λ none. ap (λ z. sees (codes ":") (front z next)) (sym n.none) ∙ seen;
}

back_by : (room : ℕ) (us : List Lexeme) (o : Option Ident) (next : Option Lexeme) → depth_of_label o ≤ room → (o ≡ None → sees (codes ":") next ≡ false) → SpellsOptional SpellsLabel us o
    → Choose (sees (codes ":") (front us next)) (Labelled room) (Nothing None) us o next
unfolding depth_of_label sees
back_by room us o next shallow ended (absent none is) =
    let unseen : sees (codes ":") (front us next) ≡ false = ap (λ z. sees (codes ":") (front z next)) none ∙ ended is in
    subst (λ b. Choose b (Labelled room) (Nothing None) us o next) (sym unseen) (record { none = none; same = is })
back_by room us o next shallow ended (present i (a_label colon l colons named parts) is) =
    let seen : sees (codes ":") (front us next) ≡ true = ap (λ z. sees (codes ":") (front z next)) parts ∙ colons in
    let some : depth_of_label (Some i) ≤ room = subst (λ z. depth_of_label z ≤ room) is shallow in
    subst (λ b. Choose b (Labelled room) (Nothing None) us o next) (sym seen) (record {
      some = some;
      spelled = record {
        lexeme = colon;
        others = l ∷ [];
        is = colons;
        parts = parts;
        spelled = record { left = l ∷ []; right = []; mid = i; parts = refl; one = record { lexeme = l; is = named; parts = refl }; two = record { none = refl; same = is } };
      };
    })

label_back : (room : ℕ) (us : List Lexeme) (o : Option Ident) (next : Option Lexeme) → Label room us o next → Choose (sees (codes ":") (front us next)) (Labelled room) (Nothing None) us o next
label_back room us o next s = back_by room us o next s.shallow s.ended s.spelled

pub exact_label : (room : ℕ) → Exact (label room) (Label room)
unfolding label
exact_label room =
    let built = exact_at (sees (codes ":")) (λ there. exact_if there (exact_within room (exact_mark (codes ":") (exact_ident >>= (λ i. exact_pure (Some i))))) (exact_pure None)) in
    exact_as (Label room) built (λ us o next r. label_to room us o next (sees (codes ":") (front us next)) refl r) (label_back room)
