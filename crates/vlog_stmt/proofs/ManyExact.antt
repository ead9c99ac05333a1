-- Readers of lists are exact where their pieces are.
--     Many S goes us xs next          pieces in a row, each where the lexeme in front goes on; the next one does not
--     Commas S                        pieces with commas between
use Rattle.std.proofs.Common.{◌≡◌, ℕ, zero, suc, ◌<◌, Bool, true, false, List, [], ◌∷◌, ◌++◌, length, Option, Ok, refl, sym, ap, ◌∙◌, subst, append_assoc, arith}
use Rattle.std.specs.Prelude.{if◌then◌else◌, codes}
use Rattle.vlog_tree.specs.Lexemes.{Lexeme, IsMark}
use Rattle.vlog_expr.specs.Reading.{Reader, first, onward, pure, sees}
use Rattle.vlog_expr.proofs.Inversion.{went, gave}
use Rattle.vlog_stmt.specs.Lists.{many, many_from, further, commas, Keeps, Eats}
use Rattle.vlog_stmt.proofs.ManyLemmas.{no_more, one_more, further_eats}
use Rattle.vlog_stmt.proofs.Exact.{Spelling, front, first-append, Takes, Exact, Nothing, Behind, Row, exact_pure, exact_mark, ◌>>=◌}

pub data Many {A : Type 0} (S : Spelling A) (goes : Option Lexeme → Bool) : List Lexeme → List A → Option Lexeme → Type 0 where
  stopped : {us : List Lexeme} {xs : List A} {next : Option Lexeme} → goes next ≡ false → us ≡ [] → xs ≡ [] → Many S goes us xs next
  more : {us : List Lexeme} {xs : List A} {next : Option Lexeme} (is js : List Lexeme) (x : A) (ys : List A) → goes (front us next) ≡ true → S is x (front js next) → Many S goes js ys next → us ≡ is ++ js → xs ≡ x ∷ ys → Many S goes us xs next

module _ {A : Type 0} (S : Spelling A) (goes : Option Lexeme → Bool) (p : Reader A) (e : Exact p S) (eats : Eats p) where
  sound_by : (n : ℕ) → ((ls : List Lexeme) (xs : List A) (rest : List Lexeme) → length ls < n → many_from n goes p ls ≡ (Ok xs, rest) → Takes (Many S goes) ls xs rest) → (on : Bool) (ls : List Lexeme) (xs : List A) (rest : List Lexeme) → goes (first ls) ≡ on → length ls < suc n
      → (if on then (λ zs. onward (p zs).0 (p zs).1 (λ x mid. onward (many_from n goes p mid).0 (many_from n goes p mid).1 (λ ys. pure (x ∷ ys)))) else pure []) ls ≡ (Ok xs, rest) → Takes (Many S goes) ls xs rest
  sound_by n further_on false ls xs rest seen enough h =
      let g = gave [] ls xs rest h in
      record { us = []; parts = g.left; spelled = stopped (ap (λ z. goes (first z)) (sym g.left) ∙ seen) refl g.same }
  sound_by n further_on true ls xs rest seen enough h =
      let a = went (p ls).0 (p ls).1 (λ x mid. onward (many_from n goes p mid).0 (many_from n goes p mid).1 (λ ys. pure (x ∷ ys))) xs rest h in
      let read : p ls ≡ (Ok a.answer, (p ls).1) = ap (λ v. (v, (p ls).1)) a.was in
      let less = eats.leaves ls a.answer (p ls).1 read in
      let s = e.sound ls a.answer (p ls).1 read in
      let b = went (many_from n goes p (p ls).1).0 (many_from n goes p (p ls).1).1 (λ ys. pure (a.answer ∷ ys)) xs rest a.onwards in
      let t = further_on (p ls).1 b.answer (many_from n goes p (p ls).1).1 (omega arith) (ap (λ v. (v, (many_from n goes p (p ls).1).1)) b.was) in
      let g = gave (a.answer ∷ b.answer) (many_from n goes p (p ls).1).1 xs rest b.onwards in
      let behind : (p ls).1 ≡ t.us ++ rest = t.parts ∙ ap (λ z. t.us ++ z) g.left in
      let parts : ls ≡ (s.us ++ t.us) ++ rest = s.parts ∙ (ap (λ z. s.us ++ z) behind ∙ sym (append_assoc s.us t.us rest)) in
      record {
        us = s.us ++ t.us;
        parts = parts;
        spelled = more s.us t.us a.answer b.answer (ap goes (sym (ap first parts ∙ first-append (s.us ++ t.us) rest)) ∙ seen)
            (subst (λ o. S s.us a.answer o) (ap first behind ∙ first-append t.us rest) s.spelled)
            (subst (λ z. Many S goes t.us b.answer (first z)) g.left t.spelled) refl g.same;
      }

  many_sound : (n : ℕ) (ls : List Lexeme) (xs : List A) (rest : List Lexeme) → length ls < n → many_from n goes p ls ≡ (Ok xs, rest) → Takes (Many S goes) ls xs rest
  unfolding many_from
  many_sound zero ls xs rest enough h = absurd (omega arith)
  many_sound (suc n) ls xs rest enough h = sound_by n (many_sound n) (goes (first ls)) ls xs rest refl enough h

  many_read : (n : ℕ) (us rest : List Lexeme) (xs : List A) → Many S goes us xs (first rest) → length (us ++ rest) < n → many_from n goes p (us ++ rest) ≡ (Ok xs, rest)
  many_read zero us rest xs m enough = absurd (omega arith)
  many_read (suc n) us rest xs (stopped off none is) enough =
      ap (λ z. many_from (suc n) goes p (z ++ rest)) none ∙ (no_more goes p n rest off ∙ ap (λ z. (Ok z, rest)) (sym is))
  many_read (suc n) us rest xs (more is js x ys on s m parts same) enough =
      let here : us ++ rest ≡ is ++ (js ++ rest) = ap (λ z. z ++ rest) parts ∙ append_assoc is js rest in
      let read : p (is ++ (js ++ rest)) ≡ (Ok x, js ++ rest) = e.complete is (js ++ rest) x (subst (λ o. S is x o) (sym (first-append js rest)) s) in
      let less = eats.leaves (is ++ (js ++ rest)) x (js ++ rest) read in
      let long = ap length here in
      let goes_on : goes (first (us ++ rest)) ≡ true = ap goes (first-append us rest) ∙ on in
      one_more goes p n (us ++ rest) x (js ++ rest) goes_on (ap p here ∙ read)
      ∙ (ap (λ o. onward o.0 o.1 (λ zs. pure (x ∷ zs))) (many_read n js rest ys m (omega arith)) ∙ ap (λ z. (Ok z, rest)) (sym same))

  pub exact_many : Exact (many goes p) (Many S goes)
  unfolding many
  exact_many = record {
    sound = λ ls xs rest h. many_sound (suc (length ls)) ls xs rest (omega arith) h;
    complete = λ us rest xs m. many_read (suc (length (us ++ rest))) us rest xs m (omega arith);
  }

-- pieces with commas between
abbrev pub Commas : {A : Type 0} → Spelling A → Spelling (List A)
Commas S = Row S (λ x. Row (Many (Behind (IsMark (codes ",")) S) (sees (codes ","))) (λ xs. Nothing (x ∷ xs)))

pub exact_commas : {A : Type 0} {p : Reader A} {S : Spelling A} → Exact p S → Keeps p → Exact (commas p) (Commas S)
unfolding commas further
exact_commas {p = p} {S = S} e keeps =
    let built = e >>= (λ x. exact_many (Behind (IsMark (codes ",")) S) (sees (codes ",")) (further p) (exact_mark (codes ",") e) (further_eats p keeps) >>= (λ xs. exact_pure (x ∷ xs))) in built
