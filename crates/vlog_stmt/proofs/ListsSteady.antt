-- Readers of lists and of what may be left out are steady, with more room too.
use Rattle.std.proofs.Common.{◌≡◌, ℕ, zero, suc, ◌+◌, ◌<◌, ◌≤◌, Bool, true, false, List, [], ◌∷◌, ◌++◌, length, Option, Some, None, refl, sym, ap, ◌∙◌, arith}
use Rattle.std.specs.Prelude.{if◌then◌else◌, nat_le, codes}
use Rattle.std.proofs.lemmas.List.{append_cancel_right}
use Rattle.vlog_tree.specs.Lexemes.{Lexeme}
use Rattle.vlog_expr.specs.declared.stuck.Stuck.TheVariants.{Wrong, Deep}
use Rattle.std.proofs.lemmas.Bool.{leb-true, leb-false}
use Rattle.vlog_expr.specs.Reading as reading
use Rattle.vlog_expr.specs.Reading.{Reader, first, onward, pure, stop, peek, advance, place_if, name_if, sees, sees_word, expect, expect_word}
use Rattle.vlog_expr.proofs.Readers.{Local, Steady, shorter, ◌>>=◌, ◌>>◌, steady_pure, steady_wrong, steady_peek, steady_advance, steady_if, steady_expect, wants_room}
use Rattle.vlog_stmt.specs.Lists.{one, known, known_by, ident, took, took_word, label, many, many_from, further, commas, Keeps, Eats}
use Rattle.vlog_stmt.proofs.ManyLemmas.{enough, further_eats}

pub steady_expect_word : {k : ℕ} (word : List ℕ) → Steady k (expect_word word) (expect_word word)
unfolding expect_word
steady_expect_word word = let built = steady_peek (sees_word word) >>= (λ there. steady_if there steady_advance steady_wrong) in built

-- behind a mark or a word there is one lexeme less
behind_shallow : {k : ℕ} {A : Type 0} (p : Reader A) (there : Bool) (ls : List Lexeme) → (there ≡ true → 1 ≤ length ls) → ((xs : List Lexeme) → length xs < k → wants_room (p xs).0 ≡ false) → length ls < suc k
    → wants_room (onward ((if there then advance else stop Wrong) ls).0 ((if there then advance else stop Wrong) ls).1 (λ _. p)).0 ≡ false
behind_shallow p false ls some calm few = refl
behind_shallow p true [] some calm few = let no = some refl in absurd (omega arith)
behind_shallow p true (l ∷ ls) some calm few = calm ls (omega arith)

seen_one : (test : Option Lexeme → Bool) → test None ≡ false → (ls : List Lexeme) → test (first ls) ≡ true → 1 ≤ length ls
unfolding first
seen_one test none [] seen = cc
seen_one test none (l ∷ ls) seen = omega arith

pub steady_mark : {k : ℕ} {A : Type 0} (mark : List ℕ) {p q : Reader A} → Steady k p q
    → Steady (suc k) (λ ls. onward (expect mark ls).0 (expect mark ls).1 (λ _. p)) (λ ls. onward (expect mark ls).0 (expect mark ls).1 (λ _. q))
unfolding expect sees
steady_mark {k = k} mark {p = p} {q = q} s =
    let built = steady_expect {k = k} mark >> s in
    record {
      local = built.local;
      stays = built.stays;
      shallow = λ ls few. behind_shallow p (sees mark (first ls)) ls (seen_one (sees mark) refl ls) s.shallow few;
    }

pub steady_word : {k : ℕ} {A : Type 0} (word : List ℕ) {p q : Reader A} → Steady k p q
    → Steady (suc k) (λ ls. onward (expect_word word ls).0 (expect_word word ls).1 (λ _. p)) (λ ls. onward (expect_word word ls).0 (expect_word word ls).1 (λ _. q))
unfolding expect_word sees_word
steady_word {k = k} word {p = p} {q = q} s =
    let built = steady_expect_word {k = k} word >> s in
    record {
      local = built.local;
      stays = built.stays;
      shallow = λ ls few. behind_shallow p (sees_word word (first ls)) ls (seen_one (sees_word word) refl ls) s.shallow few;
    }

known_by_steady : {k : ℕ} {A B : Type 0} {p p' : A → Reader B} {q q' : Reader B} → ((a : A) → Steady k (p a) (p' a)) → Steady k q q' → (v : Option A) → Steady k (known_by p q v) (known_by p' q' v)
unfolding known_by
known_by_steady s t None = t
known_by_steady s t (Some a) = let built = steady_advance >> s a in built

pub steady_known : {k : ℕ} {A B : Type 0} (g : Option Lexeme → Option A) {p p' : A → Reader B} {q q' : Reader B} → ((a : A) → Steady k (p a) (p' a)) → Steady k q q' → Steady k (known g p q) (known g p' q')
unfolding known
steady_known g s t = let built = steady_peek g >>= known_by_steady s t in built

pub steady_one : {k : ℕ} {A : Type 0} (g : Option Lexeme → Option A) → Steady k (one g) (one g)
unfolding one
steady_one g = steady_known g (λ a. steady_pure a) steady_wrong

pub steady_ident : {k : ℕ} → Steady k ident ident
unfolding ident
steady_ident = let built = steady_peek place_if >>= (λ place. steady_known name_if (λ name. steady_pure (record { place = place; name = name })) steady_wrong) in built

pub steady_took : {k : ℕ} (mark : List ℕ) → Steady k (took mark) (took mark)
unfolding took
steady_took mark = let built = steady_peek (sees mark) >>= (λ there. steady_if there (steady_advance >> steady_pure true) (steady_pure false)) in built

pub steady_took_word : {k : ℕ} (word : List ℕ) → Steady k (took_word word) (took_word word)
unfolding took_word
steady_took_word word = let built = steady_peek (sees_word word) >>= (λ there. steady_if there (steady_advance >> steady_pure true) (steady_pure false)) in built

steady_named : {k : ℕ} → Steady k (reading.◌>>◌ (expect (codes ":")) (reading.◌>>=◌ ident (λ i. pure (Some i)))) (reading.◌>>◌ (expect (codes ":")) (reading.◌>>=◌ ident (λ i. pure (Some i))))
steady_named = let built = steady_expect (codes ":") >> (steady_ident >>= (λ i. steady_pure (Some i))) in built

-- wanting room at once, where no lexemes are promised
deep_steady : {k : ℕ} {A : Type 0} {q : Reader A} → k ≡ 0 → Steady k (stop Deep) q
deep_steady e = record {
  local = λ ls. record { is = refl; pre = []; parts = refl; same = λ rest e. refl };
  stays = λ ls calm. cc;
  shallow = λ ls few. absurd (omega arith);
}

-- where there is room, with more too
fits : {k : ℕ} {A : Type 0} {p q : Reader A} (room more : ℕ) → room ≤ more → Steady k p q → (b c : Bool) → nat_le 1 room ≡ b → nat_le 1 more ≡ c → (b ≡ false → k ≡ 0) → Steady k (if b then p else stop Deep) (if c then q else stop Deep)
fits room more le s true true some enough none = s
fits room more le s true false some enough none = let at_least = leb-true 1 room some in let less = leb-false 1 more enough in absurd (omega arith)
fits room more le s false c some enough none = deep_steady (none refl)

pub steady_roomy : {A : Type 0} {p q : Reader A} (room more : ℕ) → room ≤ more → Steady room p q → Steady room (if nat_le 1 room then p else stop Deep) (if nat_le 1 more then q else stop Deep)
steady_roomy room more le s = fits room more le s (nat_le 1 room) (nat_le 1 more) refl refl (λ none. (let less = leb-false 1 room none in omega arith))

pub steady_roomy_in : {k : ℕ} {A : Type 0} {p q : Reader A} (room more : ℕ) → k ≤ room → room ≤ more → Steady k p q → Steady k (if nat_le 1 room then p else stop Deep) (if nat_le 1 more then q else stop Deep)
steady_roomy_in room more few le s = fits room more le s (nat_le 1 room) (nat_le 1 more) refl refl (λ none. (let less = leb-false 1 room none in omega arith))

pub steady_label : (room more : ℕ) → room ≤ more → Steady room (label room) (label more)
unfolding label
steady_label room more le = let built = steady_peek (sees (codes ":")) >>= (λ there. steady_if there (steady_roomy room more le steady_named) (steady_pure None)) in built

keeps_local : {A : Type 0} {p : Reader A} → Local p → Keeps p
keeps_local {p = p} l = record { leaves = λ ls a rest h. (let s = shorter (l ls) in omega (arith, ap (λ o. length o.1) h)) }

-- an answer leaves no more lexemes
pub steady_keeps : {k : ℕ} {A : Type 0} {p q : Reader A} → Steady k p q → Keeps p
steady_keeps s = keeps_local s.local

module _ {A : Type 0} (k : ℕ) (goes : Option Lexeme → Bool) (p q : Reader A) (eats : Eats p) (parts : Steady k p q) where
  many_from_steady : (n : ℕ) → Steady k (many_from n goes p) (many_from n goes q)
  unfolding many_from
  many_from_steady zero = steady_pure []
  many_from_steady (suc n) =
      let built = steady_peek goes >>= (λ on. steady_if on (parts >>= (λ x. many_from_steady n >>= (λ xs. steady_pure (x ∷ xs)))) (steady_pure [])) in built

  many_local : Local (many goes p)
  unfolding many
  many_local ls =
      let s = (many_from_steady (suc (length ls))).local ls in
      record {
        is = refl;
        pre = s.pre;
        parts = s.parts;
        same = λ rest ends.
            let n = suc (length ls + length (s.pre ++ rest)) in
            let t = (many_from_steady n).local ls in
            let alike : many_from n goes p ls ≡ many_from (suc (length ls)) goes p ls = enough goes p eats n (suc (length ls)) ls (omega arith) (omega arith) in
            let front : t.pre ≡ s.pre = append_cancel_right t.pre s.pre (many_from (suc (length ls)) goes p ls).1 (ap (λ o. t.pre ++ o.1) (sym alike) ∙ (sym t.parts ∙ s.parts)) in
            enough goes p eats (suc (length (s.pre ++ rest))) n (s.pre ++ rest) (omega arith) (omega arith)
            ∙ (ap (λ pre. many_from n goes p (pre ++ rest)) (sym front)
            ∙ (t.same rest (ends ∙ ap (λ o. first o.1) (sym alike)) ∙ ap (λ o. (o.0, rest)) alike));
      }

  pub steady_many : Steady k (many goes p) (many goes q)
  unfolding many
  steady_many = record {
    local = many_local;
    stays = λ ls calm. (many_from_steady (suc (length ls))).stays ls calm;
    shallow = λ ls few. (many_from_steady (suc (length ls))).shallow ls few;
  }

pub steady_further : {k : ℕ} {A : Type 0} {p q : Reader A} → Steady k p q → Steady k (further p) (further q)
unfolding further
steady_further s = let built = steady_expect (codes ",") >> s in built

pub steady_commas : {k : ℕ} {A : Type 0} {p q : Reader A} → Steady k p q → Steady k (commas p) (commas q)
unfolding commas
steady_commas {k = k} {p = p} {q = q} s =
    let built = s >>= (λ x. steady_many k (sees (codes ",")) (further p) (further q) (further_eats p (steady_keeps s)) (steady_further s) >>= (λ xs. steady_pure (x ∷ xs))) in built
