-- What a reader takes, said of the lexemes: `S us a next` says of what is taken, and `C us a next` of what is to be taken,
-- where `next` is the lexeme behind. What is put together from such readers is said by what it is put together from.
use Rattle.std.proofs.Common.{◌≡◌, ℕ, Bool, true, false, ◌⊎◌, inl, inr, List, [], ◌∷◌, ◌++◌, Option, Some, None, Ok, refl, sym, ap, ◌∙◌, subst, append_assoc, append-nil}
use Rattle.std.specs.Prelude.{if◌then◌else◌}
use Rattle.rdc_outside.specs.declared.source.Place.{Place}
use Rattle.vlog_tree.specs.declared.ident.Ident.{Ident}
use Rattle.vlog_tree.specs.Lexemes.{Lexeme, IsMark, IsWord, is_mark, is_word}
use Rattle.vlog_tree.specs.Names.{IsIdent, name_of}
use Rattle.vlog_expr.specs.declared.stuck.Stuck.TheVariants.{Wrong}
use Rattle.vlog_expr.specs.Reading.{Outcome, Reader, first, onward, pure, stop, advance, sees, expect, place_if, name_if, sees_word, expect_word}
use Rattle.vlog_expr.proofs.Inversion.{went, gave}
use Rattle.vlog_stmt.specs.Lists.{known, known_by, took_word, ident as one_name}
use Rattle.vlog_parse.specs.Lists.{flag, ident, optional}

abbrev pub Spelling : Type 0 → Type 1
Spelling A = List Lexeme → A → Option Lexeme → Type 0

-- the lexeme in front of these, and then that one
abbrev pub front : List Lexeme → Option Lexeme → Option Lexeme
front [] next = next
front (l ∷ ls) next = Some l

pub front_first : (us rest : List Lexeme) → first (us ++ rest) ≡ front us (first rest)
unfolding first
front_first [] rest = refl
front_first (l ∷ us) rest = refl

pub record Took {A : Type 0} (S : Spelling A) (ls : List Lexeme) (a : A) (rest : List Lexeme) : Type 0 where
  pub taken : List Lexeme
  pub parts : ls ≡ taken ++ rest
  pub spelled : S taken a (first rest)

pub record Exact {A : Type 0} (p : Reader A) (S C : Spelling A) : Type 0 where
  pub sound : (ls : List Lexeme) (a : A) (rest : List Lexeme) → p ls ≡ (Ok a, rest) → Took S ls a rest
  pub complete : (us : List Lexeme) (a : A) (rest : List Lexeme) → C us a (first rest) → p (us ++ rest) ≡ (Ok a, rest)

-- said otherwise
pub exact_as : {A : Type 0} {p : Reader A} {S C T D : Spelling A} → Exact p S C
    → ((us : List Lexeme) (a : A) (next : Option Lexeme) → S us a next → T us a next)
    → ((us : List Lexeme) (a : A) (next : Option Lexeme) → D us a next → C us a next) → Exact p T D
exact_as e to from = record {
  sound = λ ls a rest h. let t = e.sound ls a rest h in record { taken = t.taken; parts = t.parts; spelled = to t.taken a (first rest) t.spelled };
  complete = λ us a rest d. e.complete us a rest (from us a (first rest) d);
}

-- one behind the other
pub record Row {A B : Type 0} (S : Spelling A) (T : A → Spelling B) (us : List Lexeme) (b : B) (next : Option Lexeme) : Type 0 where
  pub one : List Lexeme
  pub two : List Lexeme
  pub answer : A
  pub is : us ≡ one ++ two
  pub here : S one answer (front two next)
  pub behind : T answer two b next

pub in_a_row : {A B : Type 0} (p : Reader A) (f : A → Reader B) (S C : Spelling A) (T D : A → Spelling B) → Exact p S C → ((a : A) → Exact (f a) (T a) (D a))
    → Exact (λ ls. onward (p ls).0 (p ls).1 f) (Row S T) (Row C D)
in_a_row p f S C T D e g = record {
  sound = λ ls b rest h.
      let w = went (p ls).0 (p ls).1 f b rest h in
      let s = e.sound ls w.answer (p ls).1 (ap (λ v. (v, (p ls).1)) w.was) in
      let t = (g w.answer).sound (p ls).1 b rest w.onwards in
      record {
        taken = s.taken ++ t.taken;
        parts = s.parts ∙ (ap (λ z. s.taken ++ z) t.parts ∙ sym (append_assoc s.taken t.taken rest));
        spelled = record {
          one = s.taken;
          two = t.taken;
          answer = w.answer;
          is = refl;
          here = subst (S s.taken w.answer) (ap first t.parts ∙ front_first t.taken rest) s.spelled;
          behind = t.spelled;
        };
      };
  complete = λ us b rest r.
      ap (λ z. onward (p (z ++ rest)).0 (p (z ++ rest)).1 f) r.is
      ∙ (ap (λ z. onward (p z).0 (p z).1 f) (append_assoc r.one r.two rest)
      ∙ (ap (λ o. onward o.0 o.1 f) (e.complete r.one r.answer (r.two ++ rest) (subst (C r.one r.answer) (sym (front_first r.two rest)) r.here))
      ∙ (g r.answer).complete r.two b rest r.behind));
}

infixl 10 ◌>>=◌
pub ◌>>=◌ : {A B : Type 0} {p : Reader A} {f : A → Reader B} {S C : Spelling A} {T D : A → Spelling B} → Exact p S C → ((a : A) → Exact (f a) (T a) (D a))
    → Exact (λ ls. onward (p ls).0 (p ls).1 f) (Row S T) (Row C D)
e >>= g = in_a_row _ _ _ _ _ _ e g

-- nothing more
pub record Done {A : Type 0} (given : A) (us : List Lexeme) (a : A) (next : Option Lexeme) : Type 0 where
  pub none : us ≡ []
  pub is : a ≡ given

pub exact_pure : {A : Type 0} (a : A) → Exact (pure a) (Done a) (Done a)
exact_pure a = record {
  sound = λ ls b rest h. let g = gave a ls b rest h in record { taken = []; parts = g.left; spelled = record { none = refl; is = g.same } };
  complete = λ us b rest d. ap (λ z. (Ok a, z ++ rest)) d.none ∙ ap (λ z. (Ok z, rest)) (sym d.is);
}

-- a lexeme in front
pub record Lead {B : Type 0} (P : Lexeme → Type 0) (T : Spelling B) (us : List Lexeme) (b : B) (next : Option Lexeme) : Type 0 where
  pub lexeme : Lexeme
  pub others : List Lexeme
  pub is : us ≡ lexeme ∷ others
  pub holds : P lexeme
  pub behind : T others b next

-- the first lexeme as a reader takes it
pub record Leads {B : Type 0} (P : Lexeme → Type 0) (r q : Reader B) : Type 0 where
  pub goes : (l : Lexeme) (ls : List Lexeme) → P l → r (l ∷ ls) ≡ q ls
  pub stops : (ls : List Lexeme) (b : B) (rest : List Lexeme) → r ls ≡ (Ok b, rest) → Lead P (λ us a next. Unit {0}) ls b None

exact_lead : {B : Type 0} {P : Lexeme → Type 0} {r q : Reader B} {T D : Spelling B} → Leads P r q → Exact q T D → Exact r (Lead P T) (Lead P D)
exact_lead {P = P} {r = r} {T = T} leads e = record {
  sound = λ ls b rest h.
      let a = leads.stops ls b rest h in
      let t = e.sound a.others b rest (sym (leads.goes a.lexeme a.others a.holds) ∙ (ap r (sym a.is) ∙ h)) in
      record { taken = a.lexeme ∷ t.taken; parts = a.is ∙ ap (λ z. a.lexeme ∷ z) t.parts; spelled = record { lexeme = a.lexeme; others = t.taken; is = refl; holds = a.holds; behind = t.spelled } };
  complete = λ us b rest d. ap (λ z. r (z ++ rest)) d.is ∙ (leads.goes d.lexeme (d.others ++ rest) d.holds ∙ e.complete d.others b rest d.behind);
}

mark_stops : {B : Type 0} (mark : List ℕ) (q : Reader B) (l : Lexeme) (ls : List Lexeme) (there : Bool) → is_mark mark l ≡ there → (b : B) (rest : List Lexeme)
    → onward ((if there then advance else stop Wrong) (l ∷ ls)).0 ((if there then advance else stop Wrong) (l ∷ ls)).1 (λ _. q) ≡ (Ok b, rest) → Lead (IsMark mark) (λ us a next. Unit {0}) (l ∷ ls) b None
mark_stops mark q l ls true is b rest h = record { lexeme = l; others = ls; is = refl; holds = is; behind = tt }
mark_stops mark q l ls false is b rest h = let never = ap (λ o. o.0) h in cc

mark_leads : {B : Type 0} (mark : List ℕ) (q : Reader B) → Leads (IsMark mark) (λ ls. onward (expect mark ls).0 (expect mark ls).1 (λ _. q)) q
unfolding expect first sees
mark_leads mark q = record { goes = λ l ls is. rw is; stops = stops }
  where
    stops : (ls : List Lexeme) (b : _) (rest : List Lexeme) → onward (expect mark ls).0 (expect mark ls).1 (λ _. q) ≡ (Ok b, rest) → Lead (IsMark mark) (λ us a next. Unit {0}) ls b None
    stops [] b rest h = let never = ap (λ o. o.0) h in cc
    stops (l ∷ ls) b rest h = mark_stops mark q l ls (is_mark mark l) refl b rest h

-- a mark, and then more
pub exact_mark : {B : Type 0} {q : Reader B} {T D : Spelling B} (mark : List ℕ) → Exact q T D
    → Exact (λ ls. onward (expect mark ls).0 (expect mark ls).1 (λ _. q)) (Lead (IsMark mark) T) (Lead (IsMark mark) D)
exact_mark mark e = exact_lead (mark_leads mark _) e

word_stops : {B : Type 0} (w : List ℕ) (q : Reader B) (l : Lexeme) (ls : List Lexeme) (there : Bool) → is_word w l ≡ there → (b : B) (rest : List Lexeme)
    → onward ((if there then advance else stop Wrong) (l ∷ ls)).0 ((if there then advance else stop Wrong) (l ∷ ls)).1 (λ _. q) ≡ (Ok b, rest) → Lead (IsWord w) (λ us a next. Unit {0}) (l ∷ ls) b None
word_stops w q l ls true is b rest h = record { lexeme = l; others = ls; is = refl; holds = is; behind = tt }
word_stops w q l ls false is b rest h = let never = ap (λ o. o.0) h in cc

word_leads : {B : Type 0} (w : List ℕ) (q : Reader B) → Leads (IsWord w) (λ ls. onward (expect_word w ls).0 (expect_word w ls).1 (λ _. q)) q
unfolding expect_word first sees_word
word_leads w q = record { goes = λ l ls is. rw is; stops = stops }
  where
    stops : (ls : List Lexeme) (b : _) (rest : List Lexeme) → onward (expect_word w ls).0 (expect_word w ls).1 (λ _. q) ≡ (Ok b, rest) → Lead (IsWord w) (λ us a next. Unit {0}) ls b None
    stops [] b rest h = let never = ap (λ o. o.0) h in cc
    stops (l ∷ ls) b rest h = word_stops w q l ls (is_word w l) refl b rest h

-- a word, and then more
pub exact_word : {B : Type 0} {q : Reader B} {T D : Spelling B} (w : List ℕ) → Exact q T D
    → Exact (λ ls. onward (expect_word w ls).0 (expect_word w ls).1 (λ _. q)) (Lead (IsWord w) T) (Lead (IsWord w) D)
exact_word w e = exact_lead (word_leads w _) e

-- a name, and then more
pub record Named {B : Type 0} (T : Ident → Spelling B) (us : List Lexeme) (b : B) (next : Option Lexeme) : Type 0 where
  pub lexeme : Lexeme
  pub others : List Lexeme
  pub answer : Ident
  pub is : us ≡ lexeme ∷ others
  pub holds : IsIdent lexeme answer
  pub behind : T answer others b next

-- the name that the lexeme is, and what is left behind it
record Called (ls : List Lexeme) (i : Ident) (mid : List Lexeme) : Type 0 where
  lexeme : Lexeme
  is : ls ≡ lexeme ∷ mid
  holds : IsIdent lexeme i

-- a name at a place, if there is one
abbrev ident_by : Place → Option (List ℕ) → Reader Ident
ident_by place = known_by (λ name. pure (record { place = place; name = name })) (stop Wrong)

called_by : (l : Lexeme) (ls : List Lexeme) (name : Option (List ℕ)) → name_of l ≡ name → (i : Ident) (mid : List Lexeme) → ident_by l.place name (l ∷ ls) ≡ (Ok i, mid) → Called (l ∷ ls) i mid
unfolding known_by
called_by l ls None known i mid h = let never = ap (λ o. o.0) h in cc
called_by l ls (Some name) known i mid h =
    let g = gave (record { place = l.place; name = name }) ls i mid h in
    record { lexeme = l; is = ap (λ z. l ∷ z) g.left; holds = record { name = known ∙ ap (λ z. Some z) (sym (ap (λ z. z.name) g.same)); place = ap (λ z. z.place) g.same } }

called : (ls : List Lexeme) (i : Ident) (mid : List Lexeme) → ident ls ≡ (Ok i, mid) → Called ls i mid
unfolding one_name known known_by first place_if name_if
called [] i mid h = let never = ap (λ o. o.0) h in cc
called (l ∷ ls) i mid h = called_by l ls (name_of l) refl i mid h

same_ident : (i : Ident) (place : Place) (name : List ℕ) → i.place ≡ place → i.name ≡ name → ◌≡◌ {A = Ident} (record { place = place; name = name }) i
same_ident i place name p n = ap (λ z. record { place = z; name = name }) (sym p) ∙ ap (λ z. record { place = i.place; name = z }) (sym n)

read_ident : (l : Lexeme) (ls : List Lexeme) (i : Ident) → IsIdent l i → ident (l ∷ ls) ≡ (Ok i, ls)
unfolding one_name known known_by first place_if name_if
read_ident l ls i is = ap (λ name. ident_by l.place name (l ∷ ls)) is.name ∙ ap (λ z. (Ok z, ls)) (same_ident i l.place i.name is.place refl)

pub exact_ident : {B : Type 0} {f : Ident → Reader B} {T D : Ident → Spelling B} → ((i : Ident) → Exact (f i) (T i) (D i))
    → Exact (λ ls. onward (ident ls).0 (ident ls).1 f) (Named T) (Named D)
exact_ident {f = f} e = record {
  sound = λ ls b rest h.
      let w = went (ident ls).0 (ident ls).1 f b rest h in
      let c = called ls w.answer (ident ls).1 (ap (λ v. (v, (ident ls).1)) w.was) in
      let t = (e w.answer).sound (ident ls).1 b rest w.onwards in
      record { taken = c.lexeme ∷ t.taken; parts = c.is ∙ ap (λ z. c.lexeme ∷ z) t.parts; spelled = record { lexeme = c.lexeme; others = t.taken; answer = w.answer; is = refl; holds = c.holds; behind = t.spelled } };
  complete = λ us b rest d.
      ap (λ z. onward (ident (z ++ rest)).0 (ident (z ++ rest)).1 f) d.is
      ∙ (ap (λ o. onward o.0 o.1 f) (read_ident d.lexeme (d.others ++ rest) d.answer d.holds)
      ∙ (e d.answer).complete d.others b rest d.behind);
}

-- by what is known of the lexeme in front
pub exact_peek : {X A : Type 0} (g : Option Lexeme → X) {f : X → Reader A} {T D : X → Spelling A} → ((x : X) → Exact (f x) (T x) (D x))
    → Exact (λ ls. f (g (first ls)) ls) (λ us a next. T (g (front us next)) us a next) (λ us a next. D (g (front us next)) us a next)
exact_peek g {f = f} {T = T} {D = D} e = record {
  sound = λ ls a rest h.
      let t = (e (g (first ls))).sound ls a rest h in
      record { taken = t.taken; parts = t.parts; spelled = subst (λ o. T (g o) t.taken a (first rest)) (ap first t.parts ∙ front_first t.taken rest) t.spelled };
  complete = λ us a rest d.
      (e (g (first (us ++ rest)))).complete us a rest (subst (λ o. D (g o) us a (first rest)) (sym (front_first us rest)) d);
}

-- one of two
abbrev pub Either : {A : Type 0} → Bool → Spelling A → Spelling A → Spelling A
Either b S T us a next = ((b ≡ true) × S us a next) ⊎ ((b ≡ false) × T us a next)

pub exact_if : {A : Type 0} {p q : Reader A} {S C T D : Spelling A} (b : Bool) → Exact p S C → Exact q T D → Exact (if b then p else q) (Either b S T) (Either b C D)
exact_if true e g = exact_as e (λ us a next s. inl (refl, s)) (λ us a next d. elim d [ inl s ↦ s.1 | inr s ↦ (let never = s.0 in cc) ])
exact_if false e g = exact_as g (λ us a next s. inr (refl, s)) (λ us a next d. elim d [ inl s ↦ (let never = s.0 in cc) | inr s ↦ s.1 ])

pub exact_wrong : {A : Type 0} → Exact {A = A} (stop Wrong) (λ us a next. ⊥) (λ us a next. ⊥)
exact_wrong = record {
  sound = λ ls a rest h. let never = ap (λ o. o.0) h in cc;
  complete = λ us a rest never. absurd never;
}

-- a word that may stand here
pub data Flag (w : List ℕ) (us : List Lexeme) (b : Bool) (next : Option Lexeme) : Type 0 where
  absent : us ≡ [] → b ≡ false → sees_word w next ≡ false → Flag w us b next
  there : (l : Lexeme) → us ≡ l ∷ [] → IsWord w l → b ≡ true → Flag w us b next

flag_seen : (w : List ℕ) (l : Lexeme) (ls : List Lexeme) (found : Bool) → is_word w l ≡ found → flag w (l ∷ ls) ≡ (Ok found, if found then ls else l ∷ ls)
unfolding took_word first sees_word
flag_seen w l ls true is = rw is
flag_seen w l ls false is = rw is

flag_unseen : (w : List ℕ) (ls : List Lexeme) → sees_word w (first ls) ≡ false → flag w ls ≡ (Ok false, ls)
unfolding took_word
flag_unseen w ls unseen = rw unseen

flag_by : (w : List ℕ) (l : Lexeme) (ls : List Lexeme) (found : Bool) → is_word w l ≡ found → (b : Bool) (rest : List Lexeme)
    → ◌≡◌ {A = Outcome Bool} (Ok found, if found then ls else l ∷ ls) (Ok b, rest) → Took (Flag w) (l ∷ ls) b rest
unfolding sees_word first
flag_by w l ls true is b rest h = let g = gave true ls b rest h in record { taken = l ∷ []; parts = ap (λ z. l ∷ z) g.left; spelled = there l refl is g.same }
flag_by w l ls false is b rest h =
    let g = gave false (l ∷ ls) b rest h in
    record { taken = []; parts = g.left; spelled = absent refl g.same (ap (λ z. sees_word w (first z)) (sym g.left) ∙ is) }

flag_took : (w : List ℕ) (ls : List Lexeme) (b : Bool) (rest : List Lexeme) → flag w ls ≡ (Ok b, rest) → Took (Flag w) ls b rest
unfolding sees_word first
flag_took w [] b rest h =
    let g = gave false [] b rest (sym (flag_unseen w [] refl) ∙ h) in
    record { taken = []; parts = g.left; spelled = absent refl g.same (ap (λ z. sees_word w (first z)) (sym g.left)) }
flag_took w (l ∷ ls) b rest h = flag_by w l ls (is_word w l) refl b rest (sym (flag_seen w l ls (is_word w l) refl) ∙ h)

flag_read : (w : List ℕ) (us : List Lexeme) (b : Bool) (rest : List Lexeme) → Flag w us b (first rest) → flag w (us ++ rest) ≡ (Ok b, rest)
flag_read w us b rest (absent none is unseen) = ap (λ z. flag w (z ++ rest)) none ∙ (flag_unseen w rest unseen ∙ ap (λ z. (Ok z, rest)) (sym is))
flag_read w us b rest (there l is found was) = ap (λ z. flag w (z ++ rest)) is ∙ (flag_seen w l rest true found ∙ ap (λ z. (Ok z, rest)) (sym was))

pub exact_flag : (w : List ℕ) → Exact (flag w) (Flag w) (Flag w)
exact_flag w = record { sound = flag_took w; complete = flag_read w }

-- what may be left out
pub data Maybe {A : Type 0} (test : Option Lexeme → Bool) (S : Spelling A) (us : List Lexeme) (o : Option A) (next : Option Lexeme) : Type 0 where
  without : us ≡ [] → o ≡ None → test next ≡ false → Maybe test S us o next
  with : (a : A) → test (front us next) ≡ true → S us a next → o ≡ Some a → Maybe test S us o next

maybe_to : {A : Type 0} (test : Option Lexeme → Bool) (S : Spelling A) (us : List Lexeme) (o : Option A) (next : Option Lexeme)
    → Either (test (front us next)) (Row S (λ a. Done (Some a))) (Done None) us o next → Maybe test S us o next
maybe_to test S us o next (inr (unseen, d)) = without d.none d.is (ap (λ z. test (front z next)) (sym d.none) ∙ unseen)
maybe_to test S us o next (inl (seen, r)) =
    let same : r.one ≡ us = sym (append-nil r.one) ∙ (ap (λ z. r.one ++ z) (sym r.behind.none) ∙ sym r.is) in
    with r.answer seen (subst (λ z. S z r.answer next) same (subst (λ z. S r.one r.answer (front z next)) r.behind.none r.here)) r.behind.is

maybe_from : {A : Type 0} (test : Option Lexeme → Bool) (C : Spelling A) (us : List Lexeme) (o : Option A) (next : Option Lexeme)
    → Maybe test C us o next → Either (test (front us next)) (Row C (λ a. Done (Some a))) (Done None) us o next
maybe_from test C us o next (without none is unseen) = inr (ap (λ z. test (front z next)) none ∙ unseen, record { none = none; is = is })
maybe_from test C us o next (with a seen s is) = inl (seen, record { one = us; two = []; answer = a; is = sym (append-nil us); here = s; behind = record { none = refl; is = is } })

pub exact_optional : {A : Type 0} {p : Reader A} {S C : Spelling A} (test : Option Lexeme → Bool) → Exact p S C → Exact (optional test p) (Maybe test S) (Maybe test C)
unfolding optional
exact_optional {S = S} {C = C} test e =
    exact_as (exact_peek test (λ seen. exact_if seen (e >>= (λ a. exact_pure (Some a))) (exact_pure None)))
    (maybe_to test S) (maybe_from test C)

-- the pieces of what is said, each from its parts
pub lead : {B : Type 0} {P : Lexeme → Type 0} {T : Spelling B} {l : Lexeme} {ls : List Lexeme} {b : B} {next : Option Lexeme} → P l → T ls b next → Lead P T (l ∷ ls) b next
lead {l = l} {ls = ls} h t = record { lexeme = l; others = ls; is = refl; holds = h; behind = t }

pub call : {B : Type 0} {T : Ident → Spelling B} {l : Lexeme} {ls : List Lexeme} {b : B} {next : Option Lexeme} (i : Ident) → IsIdent l i → T i ls b next → Named T (l ∷ ls) b next
call {l = l} {ls = ls} i h t = record { lexeme = l; others = ls; answer = i; is = refl; holds = h; behind = t }

pub row : {A B : Type 0} {S : Spelling A} {T : A → Spelling B} {b : B} {next : Option Lexeme} (one two : List Lexeme) (a : A) → S one a (front two next) → T a two b next → Row S T (one ++ two) b next
row one two a s t = record { one = one; two = two; answer = a; is = refl; here = s; behind = t }

pub final : {A B : Type 0} {S : Spelling A} {f : A → B} {us : List Lexeme} {next : Option Lexeme} (a : A) → S us a next → Row S (λ x. Done (f x)) us (f a) next
final {us = us} a s = record { one = us; two = []; answer = a; is = sym (append-nil us); here = s; behind = record { none = refl; is = refl } }

pub done : {A : Type 0} {a : A} {next : Option Lexeme} → Done a [] a next
done = record { none = refl; is = refl }

-- said of lexemes that are equal
pub record Said {A : Type 0} (C : Spelling A) (us : List Lexeme) (a : A) (next : Option Lexeme) : Type 0 where
  pub at : List Lexeme
  pub same : us ≡ at
  pub said : C at a next

pub of_parts : {A : Type 0} {C : Spelling A} {us vs : List Lexeme} {a : A} {next : Option Lexeme} → us ≡ vs → C vs a next → Said C us a next
of_parts {vs = vs} e c = record { at = vs; same = e; said = c }

pub exact_said : {A : Type 0} {p : Reader A} {S C T D : Spelling A} → Exact p S C
    → ((us : List Lexeme) (a : A) (next : Option Lexeme) → S us a next → T us a next)
    → ((us : List Lexeme) (a : A) (next : Option Lexeme) → D us a next → Said C us a next) → Exact p T D
exact_said {C = C} e to from = exact_as e to (λ us a next d. let s = from us a next d in subst (λ z. C z a next) (sym s.same) s.said)

-- a name alone
pub exact_name : Exact ident (λ us i next. Named (λ j. Done j) us i next) (λ us i next. Named (λ j. Done j) us i next)
exact_name = record {
  sound = λ ls i rest h. let c = called ls i rest h in record { taken = c.lexeme ∷ []; parts = c.is; spelled = record { lexeme = c.lexeme; others = []; answer = i; is = refl; holds = c.holds; behind = record { none = refl; is = refl } } };
  complete = λ us i rest d.
      ap (λ z. ident (z ++ rest)) (d.is ∙ ap (λ z. d.lexeme ∷ z) d.behind.none)
      ∙ (read_ident d.lexeme rest d.answer d.holds ∙ ap (λ z. (Ok z, rest)) (sym d.behind.is));
}
