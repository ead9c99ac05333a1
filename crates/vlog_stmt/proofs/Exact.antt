-- Readers that are exact: they answer what the lexemes in front spell, and whatever is spelled there.
-- A spelling says that lexemes spell a thing, and that the lexeme behind does not go on with it.
--     front us next                   the first of some lexemes, or the next one
--     Takes S ls a rest               what was taken of ls spells a, and the rest is left
--     Exact p S                       p answers what S says, and all that S says
--     Nothing, Known, Behind, Either, Row      spellings of nothing, by what is known in front, behind a lexeme, with or
--                                     without a lexeme in front, of two things in a row
use Rattle.std.proofs.Common.{◌≡◌, ℕ, ◌≤◌, Bool, true, false, List, [], ◌∷◌, ◌++◌, drop, Option, Some, None, Ok, refl, sym, ap, ◌∙◌, subst, append_assoc}
use Rattle.std.specs.Prelude.{if◌then◌else◌, nat_le}
use Rattle.std.proofs.lemmas.Bool.{leb-true, le-leb}
use Rattle.vlog_tree.specs.Lexemes.{Lexeme, IsMark, IsWord}
use Rattle.vlog_expr.specs.declared.stuck.Stuck.{Stuck}
use Rattle.vlog_expr.specs.declared.stuck.Stuck.TheVariants.{Wrong, Deep}
use Rattle.vlog_expr.specs.Reading.{Reader, first, onward, ◌>>◌, pure, stop, advance, sees, sees_word, expect, expect_word}
use Rattle.vlog_expr.proofs.Inversion.{went, gave}
use Rattle.vlog_stmt.specs.Lists.{known, known_by, took, took_word}

abbrev pub Spelling : Type 0 → Type 1
Spelling A = List Lexeme → A → Option Lexeme → Type 0

-- the first of some lexemes, or the next one
abbrev pub front : List Lexeme → Option Lexeme → Option Lexeme
front [] next = next
front (l ∷ ls) next = Some l

pub first-append : (us rest : List Lexeme) → first (us ++ rest) ≡ front us (first rest)
unfolding first
first-append [] rest = refl
first-append (l ∷ us) rest = refl

pub front-append : (us vs : List Lexeme) (next : Option Lexeme) → front (us ++ vs) next ≡ front us (front vs next)
front-append [] vs next = refl
front-append (l ∷ us) vs next = refl

pub record Takes {A : Type 0} (S : Spelling A) (ls : List Lexeme) (a : A) (rest : List Lexeme) : Type 0 where
  pub us : List Lexeme
  pub parts : ls ≡ us ++ rest
  pub spelled : S us a (first rest)

pub record Exact {A : Type 0} (p : Reader A) (S : Spelling A) : Type 0 where
  pub sound : (ls : List Lexeme) (a : A) (rest : List Lexeme) → p ls ≡ (Ok a, rest) → Takes S ls a rest
  pub complete : (us rest : List Lexeme) (a : A) → S us a (first rest) → p (us ++ rest) ≡ (Ok a, rest)

-- the same of a spelling that says as much
pub exact_as : {A : Type 0} {p : Reader A} {S : Spelling A} (T : Spelling A) → Exact p S
    → ((us : List Lexeme) (a : A) (next : Option Lexeme) → S us a next → T us a next) → ((us : List Lexeme) (a : A) (next : Option Lexeme) → T us a next → S us a next) → Exact p T
exact_as T e to back = record {
  sound = λ ls a rest h. let t = e.sound ls a rest h in record { us = t.us; parts = t.parts; spelled = to t.us a (first rest) t.spelled };
  complete = λ us rest a s. e.complete us rest a (back us a (first rest) s);
}

-- nothing
pub record Nothing {A : Type 0} (is : A) (us : List Lexeme) (a : A) (next : Option Lexeme) : Type 0 where
  pub none : us ≡ []
  pub same : a ≡ is

pub exact_pure : {A : Type 0} (a : A) → Exact (pure a) (Nothing a)
exact_pure a = record {
  sound = λ ls b rest h. let g = gave a ls b rest h in record { us = []; parts = g.left; spelled = record { none = refl; same = g.same } };
  complete = λ us rest b s. ap (λ z. (Ok a, z ++ rest)) s.none ∙ ap (λ x. (Ok x, rest)) (sym s.same);
}

-- never
pub record Never {A : Type 0} (us : List Lexeme) (a : A) (next : Option Lexeme) : Type 0 where
  pub never : ⊥

pub exact_stop : {A : Type 0} (why : Stuck) → Exact {A = A} (stop why) Never
exact_stop why = record {
  sound = λ ls a rest h. (let no = ap (λ o. o.0) h in cc);
  complete = λ us rest a s. absurd s.never;
}

-- by what is known of the lexeme in front
pub exact_at : {X A : Type 0} (g : Option Lexeme → X) {f : X → Reader A} {T : X → Spelling A} → ((x : X) → Exact (f x) (T x))
    → Exact (λ ls. f (g (first ls)) ls) (λ us a next. T (g (front us next)) us a next)
exact_at g {f = f} {T = T} e = record {
  sound = λ ls a rest h.
      let t = (e (g (first ls))).sound ls a rest h in
      let here : first ls ≡ front t.us (first rest) = ap first t.parts ∙ first-append t.us rest in
      record { us = t.us; parts = t.parts; spelled = subst (λ o. T (g o) t.us a (first rest)) here t.spelled };
  complete = λ us rest a s.
      ap (λ o. f (g o) (us ++ rest)) (first-append us rest) ∙ (e (g (front us (first rest)))).complete us rest a s;
}

-- a lexeme that g knows, and on; or without
pub data Known {A B : Type 0} (g : Option Lexeme → Option A) (S : A → Spelling B) (T : Spelling B) (us : List Lexeme) (b : B) (next : Option Lexeme) : Type 0 where
  there : (a : A) (l : Lexeme) (vs : List Lexeme) → g (Some l) ≡ Some a → us ≡ l ∷ vs → S a vs b next → Known g S T us b next
  absent : g (front us next) ≡ None → T us b next → Known g S T us b next

known_sound : {A B : Type 0} (g : Option Lexeme → Option A) → g None ≡ None → {p : A → Reader B} {q : Reader B} {S : A → Spelling B} {T : Spelling B}
    → ((a : A) → Exact (p a) (S a)) → Exact q T → (ls : List Lexeme) (v : Option A) → g (first ls) ≡ v → (b : B) (rest : List Lexeme) → known_by p q v ls ≡ (Ok b, rest) → Takes (Known g S T) ls b rest
unfolding known_by first
known_sound g none e f ls None seen b rest h =
    let t = f.sound ls b rest h in
    record { us = t.us; parts = t.parts; spelled = absent (ap g (sym (ap first t.parts ∙ first-append t.us rest)) ∙ seen) t.spelled }
known_sound g none e f [] (Some a) seen b rest h = cc
known_sound g none e f (l ∷ ls) (Some a) seen b rest h =
    let t = (e a).sound ls b rest h in
    record { us = l ∷ t.us; parts = ap (λ z. l ∷ z) t.parts; spelled = there a l t.us seen refl t.spelled }

known_read : {A B : Type 0} (g : Option Lexeme → Option A) {p : A → Reader B} {q : Reader B} {S : A → Spelling B} {T : Spelling B}
    → ((a : A) → Exact (p a) (S a)) → Exact q T → (us rest : List Lexeme) (b : B) → Known g S T us b (first rest) → known g p q (us ++ rest) ≡ (Ok b, rest)
unfolding known known_by first
known_read g {p = p} {q = q} e f us rest b (there a l vs seen parts s) =
    ap (λ z. known g p q (z ++ rest)) parts ∙ (ap (λ v. known_by p q v (l ∷ (vs ++ rest))) seen ∙ (e a).complete vs rest b s)
known_read g {p = p} {q = q} e f us rest b (absent seen s) =
    ap (λ v. known_by p q v (us ++ rest)) (ap g (first-append us rest) ∙ seen) ∙ f.complete us rest b s

pub exact_known : {A B : Type 0} (g : Option Lexeme → Option A) → g None ≡ None → {p : A → Reader B} {q : Reader B} {S : A → Spelling B} {T : Spelling B}
    → ((a : A) → Exact (p a) (S a)) → Exact q T → Exact (known g p q) (Known g S T)
unfolding known
exact_known g none e f = record { sound = λ ls b rest h. known_sound g none e f ls (g (first ls)) refl b rest h; complete = known_read g e f }

-- behind a lexeme
pub record Behind {A : Type 0} (P : Lexeme → Type 0) (S : Spelling A) (us : List Lexeme) (a : A) (next : Option Lexeme) : Type 0 where
  pub lexeme : Lexeme
  pub others : List Lexeme
  pub is : P lexeme
  pub parts : us ≡ lexeme ∷ others
  pub spelled : S others a next

-- with a lexeme in front, or without
pub data Either {A : Type 0} (test : Option Lexeme → Bool) (S T : Spelling A) (us : List Lexeme) (a : A) (next : Option Lexeme) : Type 0 where
  with : (l : Lexeme) (vs : List Lexeme) → test (Some l) ≡ true → us ≡ l ∷ vs → S vs a next → Either test S T us a next
  without : test (front us next) ≡ false → T us a next → Either test S T us a next

module _ {A : Type 0} (test : Option Lexeme → Bool) (none : test None ≡ false) where
  behind_sound : {p : Reader A} {S : Spelling A} → Exact p S → (there : Bool) (ls : List Lexeme) → test (first ls) ≡ there → (a : A) (rest : List Lexeme)
      → onward ((if there then advance else stop Wrong) ls).0 ((if there then advance else stop Wrong) ls).1 (λ _. p) ≡ (Ok a, rest)
      → Takes (Behind (λ l. test (Some l) ≡ true) S) ls a rest
  unfolding first
  behind_sound e false ls seen a rest h = let no = ap (λ o. o.0) h in cc
  behind_sound e true [] seen a rest h = cc
  behind_sound e true (l ∷ ls) seen a rest h =
      let t = e.sound ls a rest h in
      record { us = l ∷ t.us; parts = ap (λ z. l ∷ z) t.parts; spelled = record { lexeme = l; others = t.us; is = seen; parts = refl; spelled = t.spelled } }

  pub exact_behind : {p : Reader A} {S : Spelling A} → Exact p S
      → Exact (λ ls. onward ((if test (first ls) then advance else stop Wrong) ls).0 ((if test (first ls) then advance else stop Wrong) ls).1 (λ _. p)) (Behind (λ l. test (Some l) ≡ true) S)
  unfolding first
  exact_behind {p = p} e = record {
    sound = λ ls a rest h. behind_sound e (test (first ls)) ls refl a rest h;
    complete = λ us rest a s.
        ap (λ z. onward ((if test (first (z ++ rest)) then advance else stop Wrong) (z ++ rest)).0 ((if test (first (z ++ rest)) then advance else stop Wrong) (z ++ rest)).1 (λ _. p)) s.parts
        ∙ (ap (λ b. onward ((if b then advance else stop Wrong) (s.lexeme ∷ (s.others ++ rest))).0 ((if b then advance else stop Wrong) (s.lexeme ∷ (s.others ++ rest))).1 (λ _. p)) s.is
        ∙ e.complete s.others rest a s.spelled);
  }

  either_sound : {p q : Reader A} {S T : Spelling A} → Exact p S → Exact q T → (there : Bool) (ls : List Lexeme) → test (first ls) ≡ there → (a : A) (rest : List Lexeme)
      → (if there then (λ zs. p (drop 1 zs)) else q) ls ≡ (Ok a, rest) → Takes (Either test S T) ls a rest
  unfolding first
  either_sound e f true [] seen a rest h = cc
  either_sound e f true (l ∷ ls) seen a rest h =
      let t = e.sound ls a rest h in
      record { us = l ∷ t.us; parts = ap (λ z. l ∷ z) t.parts; spelled = with l t.us seen refl t.spelled }
  either_sound e f false ls seen a rest h =
      let t = f.sound ls a rest h in
      record { us = t.us; parts = t.parts; spelled = without (ap test (sym (ap first t.parts ∙ first-append t.us rest)) ∙ seen) t.spelled }

  either_read : {p q : Reader A} {S T : Spelling A} → Exact p S → Exact q T → (us rest : List Lexeme) (a : A) → Either test S T us a (first rest)
      → (if test (first (us ++ rest)) then (λ zs. p (drop 1 zs)) else q) (us ++ rest) ≡ (Ok a, rest)
  unfolding first
  either_read {p = p} {q = q} e f us rest a (with l vs seen parts s) =
      ap (λ z. (if test (first (z ++ rest)) then (λ zs. p (drop 1 zs)) else q) (z ++ rest)) parts
      ∙ (ap (λ b. (if b then (λ zs. p (drop 1 zs)) else q) (l ∷ (vs ++ rest))) seen ∙ e.complete vs rest a s)
  either_read {p = p} {q = q} e f us rest a (without seen s) =
      ap (λ b. (if b then (λ zs. p (drop 1 zs)) else q) (us ++ rest)) (ap test (first-append us rest) ∙ seen) ∙ f.complete us rest a s

  pub exact_either : {p q : Reader A} {S T : Spelling A} → Exact p S → Exact q T
      → Exact (λ ls. (if test (first ls) then (λ zs. p (drop 1 zs)) else q) ls) (Either test S T)
  exact_either e f = record { sound = λ ls a rest h. either_sound e f (test (first ls)) ls refl a rest h; complete = either_read e f }

-- two in a row
pub record Row {A B : Type 0} (S : Spelling A) (T : A → Spelling B) (us : List Lexeme) (b : B) (next : Option Lexeme) : Type 0 where
  pub left : List Lexeme
  pub right : List Lexeme
  pub mid : A
  pub parts : us ≡ left ++ right
  pub one : S left mid (front right next)
  pub two : T mid right b next

row_sound : {A B : Type 0} {p : Reader A} {f : A → Reader B} {S : Spelling A} {T : A → Spelling B} → Exact p S → ((a : A) → Exact (f a) (T a))
    → (ls : List Lexeme) (b : B) (rest : List Lexeme) → onward (p ls).0 (p ls).1 f ≡ (Ok b, rest) → Takes (Row S T) ls b rest
row_sound {p = p} {f = f} {S = S} e g ls b rest h =
    let w = went (p ls).0 (p ls).1 f b rest h in
    let s = e.sound ls w.answer (p ls).1 (ap (λ v. (v, (p ls).1)) w.was) in
    let t = (g w.answer).sound (p ls).1 b rest w.onwards in
    record {
      us = s.us ++ t.us;
      parts = s.parts ∙ (ap (λ z. s.us ++ z) t.parts ∙ sym (append_assoc s.us t.us rest));
      spelled = record {
        left = s.us;
        right = t.us;
        mid = w.answer;
        parts = refl;
        one = subst (λ o. S s.us w.answer o) (ap first t.parts ∙ first-append t.us rest) s.spelled;
        two = t.spelled;
      };
    }

row_read : {A B : Type 0} {p : Reader A} {f : A → Reader B} {S : Spelling A} {T : A → Spelling B} → Exact p S → ((a : A) → Exact (f a) (T a))
    → (us rest : List Lexeme) (b : B) → Row S T us b (first rest) → onward (p (us ++ rest)).0 (p (us ++ rest)).1 f ≡ (Ok b, rest)
row_read {p = p} {f = f} {S = S} e g us rest b r =
    let read = e.complete r.left (r.right ++ rest) r.mid (subst (λ o. S r.left r.mid o) (sym (first-append r.right rest)) r.one) in
    ap (λ z. onward (p z).0 (p z).1 f) (ap (λ z. z ++ rest) r.parts ∙ append_assoc r.left r.right rest)
    ∙ (ap (λ o. onward o.0 o.1 f) read ∙ (g r.mid).complete r.right rest b r.two)

infixl 10 ◌>>=◌
pub ◌>>=◌ : {A B : Type 0} {p : Reader A} {f : A → Reader B} {S : Spelling A} {T : A → Spelling B} → Exact p S → ((a : A) → Exact (f a) (T a))
    → Exact (λ ls. onward (p ls).0 (p ls).1 f) (Row S T)
e >>= g = record { sound = row_sound e g; complete = row_read e g }

-- a mark and a word in front of what is read
pub exact_mark : {A : Type 0} (mark : List ℕ) {p : Reader A} {S : Spelling A} → Exact p S
    → Exact (λ ls. onward (expect mark ls).0 (expect mark ls).1 (λ _. p)) (Behind (IsMark mark) S)
unfolding expect sees
exact_mark mark e = let built = exact_behind (sees mark) refl e in built

pub exact_word : {A : Type 0} (word : List ℕ) {p : Reader A} {S : Spelling A} → Exact p S
    → Exact (λ ls. onward (expect_word word ls).0 (expect_word word ls).1 (λ _. p)) (Behind (IsWord word) S)
unfolding expect_word sees_word
exact_word word e = let built = exact_behind (sees_word word) refl e in built

-- with a mark or a word in front, or without
choice_same : {A : Type 0} (b : Bool) (p q : Reader A) (ls : List Lexeme)
    → onward ((if b then (advance >> pure true) else pure false) ls).0 ((if b then (advance >> pure true) else pure false) ls).1 (λ there. if there then p else q) ≡ (if b then (λ zs. p (drop 1 zs)) else q) ls
choice_same true p q ls = refl
choice_same false p q ls = refl

exact_same : {A : Type 0} {p q : Reader A} {S : Spelling A} → ((ls : List Lexeme) → q ls ≡ p ls) → Exact p S → Exact q S
exact_same same e = record { sound = λ ls a rest h. e.sound ls a rest (sym (same ls) ∙ h); complete = λ us rest a s. same (us ++ rest) ∙ e.complete us rest a s }

pub exact_took : {A : Type 0} (mark : List ℕ) {p q : Reader A} {S T : Spelling A} → Exact p S → Exact q T
    → Exact (λ ls. onward (took mark ls).0 (took mark ls).1 (λ there. if there then p else q)) (Either (sees mark) S T)
unfolding took sees
exact_took mark {p = p} {q = q} e f = let built = exact_same (λ ls. choice_same (sees mark (first ls)) p q ls) (exact_either (sees mark) refl e f) in built

-- with a mark in front or without, all the same
any_same : {A : Type 0} (b : Bool) (p : Reader A) (ls : List Lexeme)
    → onward ((if b then (advance >> pure true) else pure false) ls).0 ((if b then (advance >> pure true) else pure false) ls).1 (λ there. p) ≡ (if b then (λ zs. p (drop 1 zs)) else p) ls
any_same true p ls = refl
any_same false p ls = refl

pub exact_may : {A : Type 0} (mark : List ℕ) {p : Reader A} {S : Spelling A} → Exact p S → Exact (λ ls. onward (took mark ls).0 (took mark ls).1 (λ there. p)) (Either (sees mark) S S)
unfolding took sees
exact_may mark {p = p} e = let built = exact_same (λ ls. any_same (sees mark (first ls)) p ls) (exact_either (sees mark) refl e e) in built

pub exact_took_word : {A : Type 0} (word : List ℕ) {p q : Reader A} {S T : Spelling A} → Exact p S → Exact q T
    → Exact (λ ls. onward (took_word word ls).0 (took_word word ls).1 (λ there. if there then p else q)) (Either (sees_word word) S T)
unfolding took_word sees_word
exact_took_word word {p = p} {q = q} e f = let built = exact_same (λ ls. choice_same (sees_word word (first ls)) p q ls) (exact_either (sees_word word) refl e f) in built

-- by a test
abbrev pub Choose : {A : Type 0} → Bool → Spelling A → Spelling A → Spelling A
Choose true S T = S
Choose false S T = T

pub exact_if : {A : Type 0} (b : Bool) {p q : Reader A} {S T : Spelling A} → Exact p S → Exact q T → Exact (if b then p else q) (Choose b S T)
exact_if true e f = e
exact_if false e f = f

-- where there is room
pub record Roomy {A : Type 0} (room : ℕ) (S : Spelling A) (us : List Lexeme) (a : A) (next : Option Lexeme) : Type 0 where
  pub some : 1 ≤ room
  pub spelled : S us a next

within_sound : {A : Type 0} (room : ℕ) (b : Bool) {p : Reader A} {S : Spelling A} → nat_le 1 room ≡ b → Exact p S → (ls : List Lexeme) (a : A) (rest : List Lexeme) → (if b then p else stop Deep) ls ≡ (Ok a, rest) → Takes (Roomy room S) ls a rest
within_sound room true some e ls a rest h = let t = e.sound ls a rest h in record { us = t.us; parts = t.parts; spelled = record { some = leb-true 1 room some; spelled = t.spelled } }
within_sound room false some e ls a rest h = let no = ap (λ o. o.0) h in cc

pub exact_within : {A : Type 0} (room : ℕ) {p : Reader A} {S : Spelling A} → Exact p S → Exact (if nat_le 1 room then p else stop Deep) (Roomy room S)
exact_within room {p = p} e = record {
  sound = λ ls a rest h. within_sound room (nat_le 1 room) refl e ls a rest h;
  complete = λ us rest a s. ap (λ b. (if b then p else stop Deep) (us ++ rest)) (le-leb 1 room s.some) ∙ e.complete us rest a s.spelled;
}
