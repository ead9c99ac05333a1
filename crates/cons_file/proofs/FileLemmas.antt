-- A file is read from its first row to its last.
use Rattle.std.proofs.Common.{◌≡◌, ℕ, suc, ◌+◌, ◌≤◌, List, [], ◌∷◌, ◌++◌, refl, sym, ap, subst, ◌∙◌, inl, inr, arith, append_assoc, append-nil}
use Rattle.std.specs.List.{list_all}
use Rattle.std.proofs.lemmas.Bool.{cases_Bool}
use Rattle.cons_file.specs.Lines.{Row, is_blank, words_in, without_comment, rows_from, rows_of, lines_of}
use Rattle.cons_file.specs.Forms.{Form, Spells}
use Rattle.cons_file.specs.File.{Stated, heading, Spell, AfterVersion, LacksVersion, IsFirstBad, IsFile, IsAscending}
use Rattle.cons_file.proofs.FormsLemmas.{one_form}

-- ---- one list of lines

spelled_once : (rows : List Row) (a b : List Stated) → Spell rows a → Spell rows b → a ≡ b
spelled_once [] [] [] p q = refl
spelled_once [] [] (y ∷ b) p q = absurd q
spelled_once [] (x ∷ a) b p q = absurd p
spelled_once (r ∷ rows) [] b p q = absurd p
spelled_once (r ∷ rows) (x ∷ a) [] p q = absurd q
spelled_once (r ∷ rows) (x ∷ a) (y ∷ b) p q =
    let number : x.number ≡ y.number = sym p.0 ∙ q.0 in
    let form : x.form ≡ y.form = one_form r.text x.form y.form p.1 q.1 in
    let same : x ≡ y = ap (λ (n : ℕ). record { number = n; form = x.form }) number ∙ ap (λ (f : Form). record { number = y.number; form = f }) form in
    let others : a ≡ b = spelled_once rows a b p.2 q.2 in
    ap (λ (s : Stated). s ∷ a) same ∙ ap (λ (l : List Stated). y ∷ l) others

once_after : (rows : List Row) (a b : List Stated) → AfterVersion rows (λ r. Spell r a) → AfterVersion rows (λ r. Spell r b) → a ≡ b
once_after [] a b p q = absurd p
once_after (head ∷ rows) a b p q = spelled_once rows a b p.1 q.1

pub one_list : (bytes : List ℕ) (a b : List Stated) → IsFile bytes a → IsFile bytes b → a ≡ b
one_list bytes a b p q = once_after (rows_of bytes) a b p q

-- ---- numbers ascend

-- each row's number is above the one before it, the first being at least n
abbrev Above : ℕ → List Row → Type 0
Above n [] = Unit {0}
Above n (row ∷ rows) = (n ≤ row.number) × Above (suc row.number) rows

above_less : (m n : ℕ) (rows : List Row) → m ≤ n → Above n rows → Above m rows
above_less m n [] le above = tt
above_less m n (row ∷ rows) le above = (omega (arith, above.0), above.1)

rows_above : (n : ℕ) (lines : List (List ℕ)) → Above n (rows_from n lines)
rows_above n [] = tt
rows_above n (line ∷ lines) =
    let more : suc n ≡ n + 1 = omega arith in
    let others : Above (suc n) (rows_from (n + 1) lines) = rw more (rows_above (n + 1) lines) in
    elim (cases_Bool (list_all is_blank (without_comment line))) [
      | inl blank ↦ rw blank (above_less n (suc n) (rows_from (n + 1) lines) (omega arith) others)
      | inr text ↦ rw text (omega arith, others)
    ]

-- the same of lines
abbrev AboveLines : ℕ → List Stated → Type 0
AboveLines n [] = Unit {0}
AboveLines n (line ∷ lines) = (n ≤ line.number) × AboveLines (suc line.number) lines

lines_above : (n : ℕ) (rows : List Row) (lines : List Stated) → Above n rows → Spell rows lines → AboveLines n lines
lines_above n [] [] above spelled = tt
lines_above n [] (line ∷ lines) above spelled = absurd spelled
lines_above n (row ∷ rows) [] above spelled = absurd spelled
lines_above n (row ∷ rows) (line ∷ lines) above spelled =
    (subst (λ k. n ≤ k) spelled.0 above.0, lines_above (suc line.number) rows lines (subst (λ k. Above (suc k) rows) spelled.0 above.1) spelled.2)

ascending : (n : ℕ) (lines : List Stated) → AboveLines n lines → IsAscending lines
ascending n [] above = tt
ascending n (a ∷ []) above = tt
ascending n (a ∷ (b ∷ lines)) above = (omega (arith, above.1.0), ascending (suc a.number) (b ∷ lines) above.1)

after_ascending : (n : ℕ) (rows : List Row) (lines : List Stated) → Above n rows → AfterVersion rows (λ r. Spell r lines) → IsAscending lines
after_ascending n [] lines above file = absurd file
after_ascending n (head ∷ rows) lines above file = ascending (suc head.number) lines (lines_above (suc head.number) rows lines above.1 file.1)

pub file_ascends : (bytes : List ℕ) (lines : List Stated) → IsFile bytes lines → IsAscending lines
file_ascends bytes lines file = after_ascending 1 (rows_of bytes) lines (rows_above 1 (lines_of bytes)) file

-- ---- as the code reads them

-- the heading and the rows of these lines stand in front of the rows that are left
pub record SoFar (rows left : List Row) (lines : List Stated) : Type 0 where
  pub head : Row
  pub front : List Row
  pub parts : rows ≡ head ∷ (front ++ left)
  pub heads : words_in head.text ≡ heading
  pub spelled : Spell front lines

pub begins : (rows left : List Row) (head : Row) → rows ≡ head ∷ left → words_in head.text ≡ heading → SoFar rows left []
begins rows left head parts heads = record { head = head; front = []; parts = parts; heads = heads; spelled = tt }

spell_push : (front : List Row) (lines : List Stated) (row : Row) (form : Form) → Spell front lines → Spells row.text form → Spell (front ++ (row ∷ [])) (lines ++ (record { number = row.number; form = form } ∷ []))
spell_push [] [] row form spelled is = (refl, is, tt)
spell_push [] (line ∷ lines) row form spelled is = absurd spelled
spell_push (r ∷ front) [] row form spelled is = absurd spelled
spell_push (r ∷ front) (line ∷ lines) row form spelled is = (spelled.0, spelled.1, spell_push front lines row form spelled.2 is)

pub goes_on : (rows left after : List Row) (row : Row) (lines : List Stated) (form : Form) → left ≡ row ∷ after → SoFar rows left lines → Spells row.text form → SoFar rows after (lines ++ (record { number = row.number; form = form } ∷ []))
goes_on rows left after row lines form next so is = record {
  head = so.head;
  front = so.front ++ (row ∷ []);
  parts = so.parts ∙ ap (λ (l : List Row). so.head ∷ (so.front ++ l)) next ∙ ap (λ (l : List Row). so.head ∷ l) (sym (append_assoc so.front (row ∷ []) after));
  heads = so.heads;
  spelled = spell_push so.front lines row form so.spelled is;
}

pub ends : (rows left : List Row) (lines : List Stated) → left ≡ [] → SoFar rows left lines → AfterVersion rows (λ r. Spell r lines)
ends rows left lines none so =
    let whole : rows ≡ so.head ∷ so.front = so.parts ∙ ap (λ (l : List Row). so.head ∷ (so.front ++ l)) none ∙ ap (λ (l : List Row). so.head ∷ l) (append-nil so.front) in
    rw whole (so.heads, so.spelled)

pub stops : (rows left after : List Row) (row : Row) (lines : List Stated) → left ≡ row ∷ after → SoFar rows left lines → ((form : Form) → Spells row.text form → ⊥) → AfterVersion rows (λ r. IsFirstBad r row.number)
stops rows left after row lines next so wrong =
    let parts : rows ≡ so.head ∷ (so.front ++ (row ∷ after)) = so.parts ∙ ap (λ (l : List Row). so.head ∷ (so.front ++ l)) next in
    rw parts (so.heads, record { front = so.front; bad = row; back = after; parts = refl; lines = lines; spelled = so.spelled; formless = wrong; number = refl })

pub lacks : (rows left : List Row) (head : Row) → rows ≡ head ∷ left → (words_in head.text ≡ heading → ⊥) → LacksVersion rows head.number
lacks rows left head parts apart = rw parts (apart, refl)
