-- Pieces with commas between, and pieces up to a word.
use Rattle.std.proofs.Common.{◌≡◌, ℕ, zero, suc, ◌<◌, ◌≤◌, max, Bool, true, false, List, [], ◌∷◌, ◌++◌, length, drop, Option, Some, None, Ok, refl, sym, ap, ◌∙◌, subst, append_assoc, append-nil, length-append, arith}
use Rattle.std.specs.Prelude.{if◌then◌else◌, codes}
use Rattle.vlog_tree.specs.Lexemes.{Lexeme, IsMark, IsWord, is_mark, is_word}
use Rattle.vlog_tree.specs.Names.{IsIdent}
use Rattle.vlog_tree.specs.Lists.{SpellsCommas, one, more, SpellsOptional, absent, present, SpellsIdent}
use Rattle.vlog_tree.specs.Lists as g
use Rattle.vlog_tree.specs.Depth.{deepest, deepest_of}
use Rattle.vlog_expr.specs.Reading.{Outcome, Reader, first, onward, pure, sees, sees_word}
use Rattle.vlog_expr.proofs.Inversion.{went, gave}
use Rattle.vlog_parse.specs.Lists.{ident, optional, others_from, others, commas, until_from, until}
use Rattle.vlog_parse.proofs.Exact.{Spelling, front, front_first, Took, Exact, exact_as, Row, ◌>>=◌, Done, exact_pure, Maybe, with, without, exact_optional, exact_said, exact_name, of_parts, call, done}

-- { "," piece }
pub data Others {A : Type 0} (S : Spelling A) : List Lexeme → List A → Option Lexeme → Type 0 where
  ended : {us : List Lexeme} {xs : List A} {next : Option Lexeme} → us ≡ [] → xs ≡ [] → sees (codes ",") next ≡ false → Others S us xs next
  further : {us : List Lexeme} {xs : List A} {next : Option Lexeme} (comma : Lexeme) (is js : List Lexeme) (x : A) (ys : List A)
      → IsMark (codes ",") comma → S is x (front js next) → Others S js ys next → us ≡ comma ∷ (is ++ js) → xs ≡ x ∷ ys → Others S us xs next

module _ {A : Type 0} (p : Reader A) (S C : Spelling A) (e : Exact p S C) where
  -- one more piece, and what follows
  turn : ℕ → Reader (List A)
  turn n = λ ls. onward (p ls).0 (p ls).1 (λ x ls'. onward (others_from n p ls').0 (others_from n p ls').1 (λ xs. pure (x ∷ xs)))

  took_none : (ls : List Lexeme) (xs : List A) (rest : List Lexeme) → ◌≡◌ {A = Outcome (List A)} (Ok [], ls) (Ok xs, rest) → sees (codes ",") (first ls) ≡ false → Took (Others S) ls xs rest
  took_none ls xs rest h unseen =
      let g = gave [] ls xs rest h in
      record { taken = []; parts = g.left; spelled = ended refl g.same (ap (λ z. sees (codes ",") (first z)) (sym g.left) ∙ unseen) }

  turn_took : (n : ℕ) → ((ls : List Lexeme) (xs : List A) (rest : List Lexeme) → length ls ≤ n → others_from n p ls ≡ (Ok xs, rest) → Took (Others S) ls xs rest)
      → (l : Lexeme) (ls : List Lexeme) (there : Bool) → is_mark (codes ",") l ≡ there → (xs : List A) (rest : List Lexeme) → length ls ≤ n
      → (if there then (λ zs. turn n (drop 1 zs)) else pure []) (l ∷ ls) ≡ (Ok xs, rest) → Took (Others S) (l ∷ ls) xs rest
  unfolding turn sees first
  turn_took n again l ls false is xs rest few h = took_none (l ∷ ls) xs rest h is
  turn_took n again l ls true is xs rest few h =
      let mid = (p ls).1 in
      let w = went (p ls).0 mid (λ x ls'. onward (others_from n p ls').0 (others_from n p ls').1 (λ xs. pure (x ∷ xs))) xs rest h in
      let s = e.sound ls w.answer mid (ap (λ v. (v, mid)) w.was) in
      let v = went (others_from n p mid).0 (others_from n p mid).1 (λ ys. pure (w.answer ∷ ys)) xs rest w.onwards in
      let less : length mid ≤ n = omega (arith, ap length s.parts, length-append s.taken mid) in
      let g = gave (w.answer ∷ v.answer) (others_from n p mid).1 xs rest v.onwards in
      let t = again mid v.answer (others_from n p mid).1 less (ap (λ z. (z, (others_from n p mid).1)) v.was) in
      let whole : mid ≡ t.taken ++ rest = t.parts ∙ ap (λ z. t.taken ++ z) g.left in
      record {
        taken = l ∷ (s.taken ++ t.taken);
        parts = ap (λ z. l ∷ z) (s.parts ∙ (ap (λ z. s.taken ++ z) whole ∙ sym (append_assoc s.taken t.taken rest)));
        spelled = further l s.taken t.taken w.answer v.answer is
            (subst (S s.taken w.answer) (ap first whole ∙ front_first t.taken rest) s.spelled)
            (subst (λ z. Others S t.taken v.answer (first z)) g.left t.spelled) refl g.same;
      }

  others_took : (n : ℕ) (ls : List Lexeme) (xs : List A) (rest : List Lexeme) → length ls ≤ n → others_from n p ls ≡ (Ok xs, rest) → Took (Others S) ls xs rest
  unfolding others_from turn first sees
  others_took zero [] xs rest few h = took_none [] xs rest h refl
  others_took zero (l ∷ ls) xs rest few h = absurd (omega arith)
  others_took (suc n) [] xs rest few h = took_none [] xs rest h refl
  others_took (suc n) (l ∷ ls) xs rest few h = turn_took n (others_took n) l ls (is_mark (codes ",") l) refl xs rest (omega arith) h

  one_more : (n : ℕ) (l : Lexeme) (ls : List Lexeme) (x : A) (mid : List Lexeme) (ys : List A) (rest : List Lexeme) → IsMark (codes ",") l → p ls ≡ (Ok x, mid) → others_from n p mid ≡ (Ok ys, rest)
      → others_from (suc n) p (l ∷ ls) ≡ (Ok (x ∷ ys), rest)
  unfolding others_from first sees
  one_more n l ls x mid ys rest marks read tail = rw (marks, read, tail)

  others_read : (n : ℕ) (us : List Lexeme) (xs : List A) (rest : List Lexeme) → length (us ++ rest) ≤ n → Others C us xs (first rest) → others_from n p (us ++ rest) ≡ (Ok xs, rest)
  unfolding others_from
  others_read zero us xs rest few (ended none is unseen) = ap (λ z. (Ok [], z ++ rest)) none ∙ ap (λ z. (Ok z, rest)) (sym is)
  others_read (suc n) us xs rest few (ended none is unseen) =
      ap (λ z. others_from (suc n) p (z ++ rest)) none ∙ (rw unseen (ap (λ z. (Ok z, rest)) (sym is)))
  others_read zero us xs rest few (further comma is js x ys marks s o parts all) = absurd (omega (arith, ap (λ z. length (z ++ rest)) parts))
  others_read (suc n) us xs rest few (further comma is js x ys marks s o parts all) =
      let here : (is ++ js) ++ rest ≡ is ++ (js ++ rest) = append_assoc is js rest in
      let read : p (is ++ (js ++ rest)) ≡ (Ok x, js ++ rest) = e.complete is x (js ++ rest) (subst (C is x) (sym (front_first js rest)) s) in
      let less : length (js ++ rest) ≤ n = omega (arith, ap (λ z. length (z ++ rest)) parts, ap length here, length-append is (js ++ rest)) in
      let tail : others_from n p (js ++ rest) ≡ (Ok ys, rest) = others_read n js ys rest less o in
      ap (λ z. others_from (suc n) p (z ++ rest)) parts ∙ (one_more n comma ((is ++ js) ++ rest) x (js ++ rest) ys rest marks (ap p here ∙ read) tail ∙ ap (λ z. (Ok z, rest)) (sym all))

  pub exact_others : Exact (others p) (Others S) (Others C)
  unfolding others
  exact_others = record {
    sound = λ ls xs rest h. others_took (length ls) ls xs rest (omega arith) h;
    complete = λ us xs rest d. others_read (length (us ++ rest)) us xs rest (omega arith) d;
  }

-- piece { "," piece }
pub data Commas {A : Type 0} (S : Spelling A) : List Lexeme → List A → Option Lexeme → Type 0 where
  only : {us : List Lexeme} {xs : List A} {next : Option Lexeme} (x : A) → S us x next → sees (codes ",") next ≡ false → xs ≡ x ∷ [] → Commas S us xs next
  several : {us : List Lexeme} {xs : List A} {next : Option Lexeme} (comma : Lexeme) (is js : List Lexeme) (x : A) (ys : List A)
      → IsMark (codes ",") comma → S is x (Some comma) → Commas S js ys next → us ≡ is ++ comma ∷ js → xs ≡ x ∷ ys → Commas S us xs next

commas_to : {A : Type 0} (S : Spelling A) (us is js : List Lexeme) (x : A) (xs ys : List A) (next : Option Lexeme)
    → S is x (front js next) → Others S js ys next → us ≡ is ++ js → xs ≡ x ∷ ys → Commas S us xs next
commas_to S us is js x xs ys next s (ended none all unseen) parts whole =
    only x (subst (λ z. S z x next) (sym (append-nil is) ∙ (ap (λ z. is ++ z) (sym none) ∙ sym parts)) (subst (λ z. S is x (front z next)) none s)) unseen (whole ∙ ap (λ z. x ∷ z) all)
commas_to S us is js x xs ys next s (further comma is' js' x' ys' marks s' o parts' all) parts whole =
    several comma is (is' ++ js') x ys marks (subst (λ z. S is x (front z next)) parts' s) (commas_to S (is' ++ js') is' js' x' ys ys' next s' o refl all)
    (parts ∙ ap (λ z. is ++ z) parts') whole

-- a piece, and others behind it
record Headed {A : Type 0} (S : Spelling A) (us : List Lexeme) (xs : List A) (next : Option Lexeme) : Type 0 where
  one : List Lexeme
  two : List Lexeme
  head : A
  tail : List A
  is : us ≡ one ++ two
  here : S one head (front two next)
  behind : Others S two tail next
  all : xs ≡ head ∷ tail

commas_from : {A : Type 0} (C : Spelling A) {us : List Lexeme} {xs : List A} {next : Option Lexeme} → Commas C us xs next → Headed C us xs next
commas_from C {us = us} (only x s unseen all) = record { one = us; two = []; head = x; tail = []; is = sym (append-nil us); here = s; behind = ended refl refl unseen; all = all }
commas_from C (several comma is js x ys marks s o parts all) =
    let h = commas_from C o in
    record { one = is; two = comma ∷ js; head = x; tail = ys; is = parts; here = s; behind = further comma h.one h.two h.head h.tail marks h.here h.behind (ap (λ z. comma ∷ z) h.is) h.all; all = all }

pub exact_commas : {A : Type 0} {p : Reader A} {S C : Spelling A} → Exact p S C → Exact (commas p) (Commas S) (Commas C)
unfolding commas
exact_commas {p = p} {S = S} {C = C} e =
    exact_as (e >>= (λ x. exact_others p S C e >>= (λ xs. exact_pure (x ∷ xs)))) to from
  where
    to : (us : List Lexeme) (xs : List _) (next : Option Lexeme) → Row S (λ x. Row (Others S) (λ ys. Done (x ∷ ys))) us xs next → Commas S us xs next
    to us xs next r =
        let q = r.behind in
        let none : q.one ≡ r.two = sym (append-nil q.one) ∙ (ap (λ z. q.one ++ z) (sym q.behind.none) ∙ sym q.is) in
        commas_to S us r.one r.two r.answer xs q.answer next r.here (subst (λ z. Others S z q.answer next) none (subst (λ z. Others S q.one q.answer (front z next)) q.behind.none q.here)) r.is q.behind.is

    from : (us : List Lexeme) (xs : List _) (next : Option Lexeme) → Commas C us xs next → Row C (λ x. Row (Others C) (λ ys. Done (x ∷ ys))) us xs next
    from us xs next c =
        let h = commas_from C c in
        record { one = h.one; two = h.two; answer = h.head; is = h.is; here = h.here; behind = record { one = h.two; two = []; answer = h.tail; is = sym (append-nil h.two); here = h.behind; behind = record { none = refl; is = h.all } } }

-- { piece } and the word
pub data Until {A : Type 0} (w : List ℕ) (S : Spelling A) : List Lexeme → List A → Option Lexeme → Type 0 where
  ends : {us : List Lexeme} {xs : List A} {next : Option Lexeme} (l : Lexeme) → IsWord w l → us ≡ l ∷ [] → xs ≡ [] → Until w S us xs next
  goes : {us : List Lexeme} {xs : List A} {next : Option Lexeme} (is js : List Lexeme) (x : A) (ys : List A)
      → sees_word w (front (is ++ js) next) ≡ false → S is x (front js next) → Until w S js ys next → us ≡ is ++ js → xs ≡ x ∷ ys → Until w S us xs next

module _ {A : Type 0} (w : List ℕ) (p : Reader A) (S C : Spelling A) (e : Exact p S C)
    (some : (us : List Lexeme) (a : A) (next : Option Lexeme) → S us a next → 1 ≤ length us) (more : (us : List Lexeme) (a : A) (next : Option Lexeme) → C us a next → 1 ≤ length us) where
  piece : ℕ → Reader (List A)
  piece n = λ ls. onward (p ls).0 (p ls).1 (λ x ls'. onward (until_from n w p ls').0 (until_from n w p ls').1 (λ xs. pure (x ∷ xs)))

  last_took : (l : Lexeme) (ls : List Lexeme) (xs : List A) (rest : List Lexeme) → ◌≡◌ {A = Outcome (List A)} (Ok [], ls) (Ok xs, rest) → IsWord w l → Took (Until w S) (l ∷ ls) xs rest
  last_took l ls xs rest h is = let g = gave [] ls xs rest h in record { taken = l ∷ []; parts = ap (λ z. l ∷ z) g.left; spelled = ends l is refl g.same }

  Again : ℕ → Type 0
  Again n = (ls : List Lexeme) (xs : List A) (rest : List Lexeme) → length ls < n → until_from n w p ls ≡ (Ok xs, rest) → Took (Until w S) ls xs rest

  piece_took : (n : ℕ) → Again n → (ls : List Lexeme) → sees_word w (first ls) ≡ false → (xs : List A) (rest : List Lexeme) → length ls ≤ n → piece n ls ≡ (Ok xs, rest) → Took (Until w S) ls xs rest
  unfolding piece Again
  piece_took n again ls unseen xs rest few h =
      let mid = (p ls).1 in
      let q = went (p ls).0 mid (λ x ls'. onward (until_from n w p ls').0 (until_from n w p ls').1 (λ xs. pure (x ∷ xs))) xs rest h in
      let s = e.sound ls q.answer mid (ap (λ v. (v, mid)) q.was) in
      let v = went (until_from n w p mid).0 (until_from n w p mid).1 (λ ys. pure (q.answer ∷ ys)) xs rest q.onwards in
      let long = some s.taken q.answer (first mid) s.spelled in
      let less : length mid < n = omega (arith, ap length s.parts, length-append s.taken mid) in
      let g = gave (q.answer ∷ v.answer) (until_from n w p mid).1 xs rest v.onwards in
      let t = again mid v.answer (until_from n w p mid).1 less (ap (λ z. (z, (until_from n w p mid).1)) v.was) in
      let whole : mid ≡ t.taken ++ rest = t.parts ∙ ap (λ z. t.taken ++ z) g.left in
      let all : ls ≡ (s.taken ++ t.taken) ++ rest = s.parts ∙ (ap (λ z. s.taken ++ z) whole ∙ sym (append_assoc s.taken t.taken rest)) in
      record {
        taken = s.taken ++ t.taken;
        parts = all;
        spelled = goes s.taken t.taken q.answer v.answer
            (ap (sees_word w) (sym (front_first (s.taken ++ t.taken) rest) ∙ ap first (sym all)) ∙ unseen)
            (subst (S s.taken q.answer) (ap first whole ∙ front_first t.taken rest) s.spelled)
            (subst (λ z. Until w S t.taken v.answer (first z)) g.left t.spelled) refl g.same;
      }

  word_took : (n : ℕ) → Again n → (l : Lexeme) (ls : List Lexeme) (there : Bool) → is_word w l ≡ there → (xs : List A) (rest : List Lexeme) → length (l ∷ ls) ≤ n
      → (if there then (λ zs. pure [] (drop 1 zs)) else piece n) (l ∷ ls) ≡ (Ok xs, rest) → Took (Until w S) (l ∷ ls) xs rest
  unfolding sees_word first
  word_took n again l ls true is xs rest few h = last_took l ls xs rest h is
  word_took n again l ls false is xs rest few h = piece_took n again (l ∷ ls) is xs rest few h

  until_took : (n : ℕ) → Again n
  unfolding until_from piece first sees_word Again
  until_took zero ls xs rest few h = absurd (omega arith)
  until_took (suc n) [] xs rest few h = piece_took n (until_took n) [] refl xs rest (omega arith) h
  until_took (suc n) (l ∷ ls) xs rest few h = word_took n (until_took n) l ls (is_word w l) refl xs rest (omega arith) h

  next_piece : (n : ℕ) (ls : List Lexeme) (x : A) (mid : List Lexeme) (ys : List A) (rest : List Lexeme) → sees_word w (first ls) ≡ false → p ls ≡ (Ok x, mid) → until_from n w p mid ≡ (Ok ys, rest)
      → until_from (suc n) w p ls ≡ (Ok (x ∷ ys), rest)
  unfolding until_from
  next_piece n ls x mid ys rest unseen read tail = rw (unseen, read, tail)

  last_read : (n : ℕ) (l : Lexeme) (rest : List Lexeme) → IsWord w l → until_from (suc n) w p (l ∷ rest) ≡ (Ok [], rest)
  unfolding until_from first sees_word
  last_read n l rest is = rw is

  until_read : (n : ℕ) (us : List Lexeme) (xs : List A) (rest : List Lexeme) → length (us ++ rest) < n → Until w C us xs (first rest) → until_from n w p (us ++ rest) ≡ (Ok xs, rest)
  until_read zero us xs rest few u = absurd (omega arith)
  until_read (suc n) us xs rest few (ends l is parts all) = ap (λ z. until_from (suc n) w p (z ++ rest)) parts ∙ (last_read n l rest is ∙ ap (λ z. (Ok z, rest)) (sym all))
  until_read (suc n) us xs rest few (goes is js x ys unseen s o parts all) =
      let here : us ++ rest ≡ is ++ (js ++ rest) = ap (λ z. z ++ rest) parts ∙ append_assoc is js rest in
      let read : p (is ++ (js ++ rest)) ≡ (Ok x, js ++ rest) = e.complete is x (js ++ rest) (subst (C is x) (sym (front_first js rest)) s) in
      let long = more is x (front js (first rest)) s in
      let less : length (js ++ rest) < n = omega (arith, ap length here, length-append is (js ++ rest)) in
      let tail : until_from n w p (js ++ rest) ≡ (Ok ys, rest) = until_read n js ys rest less o in
      next_piece n (us ++ rest) x (js ++ rest) ys rest (ap (λ z. sees_word w (first (z ++ rest))) parts ∙ (ap (sees_word w) (front_first (is ++ js) rest) ∙ unseen)) (ap p here ∙ read) tail
      ∙ ap (λ z. (Ok z, rest)) (sym all)

  pub exact_until : Exact (until w p) (Until w S) (Until w C)
  unfolding until Again
  exact_until = record {
    sound = λ ls xs rest h. until_took (suc (length ls)) ls xs rest (omega arith) h;
    complete = λ us xs rest d. until_read (suc (length (us ++ rest))) us xs rest (omega arith) d;
  }

-- what is spelled, no deeper than the number
pub record Fits {A : Type 0} (G : List Lexeme → A → Type 0) (d : A → ℕ) (room : ℕ) (us : List Lexeme) (a : A) (next : Option Lexeme) : Type 0 where
  pub spelled : G us a
  pub shallow : d a ≤ room

-- and such a lexeme behind it
pub record Before {A : Type 0} (N : Option Lexeme → Type 0) (S : Spelling A) (us : List Lexeme) (a : A) (next : Option Lexeme) : Type 0 where
  pub said : S us a next
  pub ahead : N next

pub deepest_one : {A : Type 0} (d : A → ℕ) (x : A) (ys : List A) → deepest_of d (x ∷ ys) ≡ max (d x) (deepest_of d ys)
unfolding deepest
deepest_one d x ys = refl

pub deepest_none : {A : Type 0} (d : A → ℕ) → deepest_of d [] ≡ 0
unfolding deepest
deepest_none d = refl

pub list_to : {A : Type 0} (G : List Lexeme → A → Type 0) (d : A → ℕ) (room : ℕ) {us : List Lexeme} {xs : List A} {next : Option Lexeme} → Commas (Fits G d room) us xs next → Fits (SpellsCommas G) (deepest_of d) room us xs next
list_to G d room (only x s unseen all) =
    let low = s.shallow in let deep = ap (deepest_of d) all ∙ deepest_one d x [] in let none = deepest_none d in
    record { spelled = one x s.spelled all; shallow = omega arith }
list_to G d room (several comma is js x ys marks s o parts all) =
    let t = list_to G d room o in let low = s.shallow in let rest = t.shallow in let deep = ap (deepest_of d) all ∙ deepest_one d x ys in
    record { spelled = more comma is js x ys s.spelled marks t.spelled parts all; shallow = omega arith }

module _ {A : Type 0} (G : List Lexeme → A → Type 0) (d : A → ℕ) (room : ℕ) (N M : Option Lexeme → Type 0)
    (at_comma : (l : Lexeme) → IsMark (codes ",") l → N (Some l)) (at_end : (o : Option Lexeme) → M o → N o) (no_comma : (o : Option Lexeme) → M o → sees (codes ",") o ≡ false) where
  pub list_from : {us : List Lexeme} {xs : List A} (next : Option Lexeme) → SpellsCommas G us xs → deepest_of d xs ≤ room → M next → Commas (Before N (Fits G d room)) us xs next
  list_from next (one x s all) fits m =
      let deep = ap (deepest_of d) all ∙ deepest_one d x [] in
      only x (record { said = record { spelled = s; shallow = omega arith }; ahead = at_end next m }) (no_comma next m) all
  list_from next (more comma is js x ys s marks o parts all) fits m =
      let deep = ap (deepest_of d) all ∙ deepest_one d x ys in
      several comma is js x ys marks (record { said = record { spelled = s; shallow = omega arith }; ahead = at_comma comma marks }) (list_from next o (omega arith) m) parts all

  -- pieces of a depth, with commas between
  pub exact_list : {p : Reader A} → Exact p (Fits G d room) (Before N (Fits G d room)) → Exact (commas p) (Fits (SpellsCommas G) (deepest_of d) room) (Before M (Fits (SpellsCommas G) (deepest_of d) room))
  exact_list e = exact_as (exact_commas e) (λ us xs next c. list_to G d room c) (λ us xs next b. list_from next b.said.spelled b.said.shallow b.ahead)

-- a piece that may be left out
module _ {A : Type 0} (G : List Lexeme → A → Type 0) (d : A → ℕ) (D : Option A → ℕ) (room : ℕ) (test : Option Lexeme → Bool) (N M : Option Lexeme → Type 0)
    (none : D None ≡ 0) (some : (a : A) → D (Some a) ≡ d a) (starts : (us : List Lexeme) (a : A) (next : Option Lexeme) → G us a → test (front us next) ≡ true)
    (at_end : (o : Option Lexeme) → M o → N o) (ended : (o : Option Lexeme) → M o → test o ≡ false) where
  pub option_to : (us : List Lexeme) (o : Option A) (next : Option Lexeme) → Maybe test (Fits G d room) us o next → Fits (SpellsOptional G) D room us o next
  option_to us o next (without nil is unseen) = let deep = ap D is ∙ none in record { spelled = absent nil is; shallow = omega arith }
  option_to us o next (with a seen s is) = let deep = ap D is ∙ some a in let low = s.shallow in record { spelled = present a s.spelled is; shallow = omega arith }

  pub option_from : (us : List Lexeme) (o : Option A) (next : Option Lexeme) → SpellsOptional G us o → D o ≤ room → M next → Maybe test (Before N (Fits G d room)) us o next
  option_from us o next (absent nil is) low m = without nil is (ended next m)
  option_from us o next (present a s is) low m = let deep = ap D is ∙ some a in with a (starts us a next s) (record { said = record { spelled = s; shallow = omega arith }; ahead = at_end next m }) is

  pub exact_option : {p : Reader A} → Exact p (Fits G d room) (Before N (Fits G d room)) → Exact (optional test p) (Fits (SpellsOptional G) D room) (Before M (Fits (SpellsOptional G) D room))
  exact_option e = exact_as (exact_optional test e) option_to (λ us o next b. option_from us o next b.said.spelled b.said.shallow b.ahead)

pub fit : {A : Type 0} {G : List Lexeme → A → Type 0} {d : A → ℕ} {room : ℕ} {us : List Lexeme} {a : A} {next : Option Lexeme} → G us a → d a ≤ room → Fits G d room us a next
fit g le = record { spelled = g; shallow = le }

pub before : {A : Type 0} {N : Option Lexeme → Type 0} {S : Spelling A} {us : List Lexeme} {a : A} {next : Option Lexeme} → S us a next → N next → Before N S us a next
before s n = record { said = s; ahead = n }

-- what needs nothing behind it
pub exact_before : {A : Type 0} {p : Reader A} {S C : Spelling A} {N : Option Lexeme → Type 0} → Exact p S C → Exact p S (Before N C)
exact_before e = exact_as e (λ us a next s. s) (λ us a next b. b.said)

-- a name, to count so deep
pub exact_ident_fits : (deep room : ℕ) → deep ≤ room → Exact ident (Fits SpellsIdent (λ _. deep) room) (Fits SpellsIdent (λ _. deep) room)
exact_ident_fits deep room le = exact_said exact_name
    (λ us i next n. fit (g.ident n.lexeme (subst (λ z. IsIdent n.lexeme z) (sym n.behind.is) n.holds) (n.is ∙ ap (λ z. n.lexeme ∷ z) n.behind.none)) le)
    (λ us i next f. elim f.spelled [ g.ident l is parts ↦ of_parts parts (call i is done) ])

-- said of each piece
pub commas_map : {A : Type 0} (S T : Spelling A) → ((us : List Lexeme) (a : A) (next : Option Lexeme) → S us a next → T us a next) → {us : List Lexeme} {xs : List A} {next : Option Lexeme} → Commas S us xs next → Commas T us xs next
commas_map S T f {us = us} {next = next} (only x s unseen all) = only x (f us x next s) unseen all
commas_map S T f (several comma is js x ys marks s o parts all) = several comma is js x ys marks (f is x (Some comma) s) (commas_map S T f o) parts all

-- { "," piece } behind a first piece
pub data Tail {A : Type 0} (G : List Lexeme → A → Type 0) (d : A → ℕ) (room : ℕ) (us : List Lexeme) (xs : List A) (next : Option Lexeme) : Type 0 where
  no_tail : us ≡ [] → xs ≡ [] → Tail G d room us xs next
  tail : (comma : Lexeme) (js : List Lexeme) → us ≡ comma ∷ js → IsMark (codes ",") comma → SpellsCommas G js xs → deepest_of d xs ≤ room → Tail G d room us xs next

tail_to : {A : Type 0} (G : List Lexeme → A → Type 0) (d : A → ℕ) (room : ℕ) (us : List Lexeme) (xs : List A) (next : Option Lexeme) → Others (Fits G d room) us xs next → Tail G d room us xs next
tail_to G d room us xs next (ended nil all unseen) = no_tail nil all
tail_to G d room us xs next (further comma is js x ys marks s o parts all) =
    let f = list_to G d room (commas_to (Fits G d room) (is ++ js) is js x xs ys next s o refl all) in
    tail comma (is ++ js) parts marks f.spelled f.shallow

module _ {A : Type 0} (G : List Lexeme → A → Type 0) (d : A → ℕ) (room : ℕ) (N M : Option Lexeme → Type 0)
    (at_comma : (l : Lexeme) → IsMark (codes ",") l → N (Some l)) (at_end : (o : Option Lexeme) → M o → N o) (no_comma : (o : Option Lexeme) → M o → sees (codes ",") o ≡ false) where
  tail_from : (us : List Lexeme) (xs : List A) (next : Option Lexeme) → Tail G d room us xs next → M next → Others (Before N (Fits G d room)) us xs next
  tail_from us xs next (no_tail nil all) m = ended nil all (no_comma next m)
  tail_from us xs next (tail comma js parts marks s low) m =
      let h = commas_from (Before N (Fits G d room)) (list_from G d room N M at_comma at_end no_comma next s low m) in
      further comma h.one h.two h.head h.tail marks h.here h.behind (parts ∙ ap (λ z. comma ∷ z) h.is) h.all

  pub exact_tail : {p : Reader A} → Exact p (Fits G d room) (Before N (Fits G d room)) → Exact (others p) (Tail G d room) (Before M (Tail G d room))
  exact_tail {p = p} e = exact_as (exact_others p (Fits G d room) (Before N (Fits G d room)) e) (tail_to G d room) (λ us xs next b. tail_from us xs next b.said b.ahead)
