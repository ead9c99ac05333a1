-- What stands where a reader that is put together answers.
--     went            the first of two in a row answered, and the second went on
--     met             the mark that was expected stands in front
--     gave            what `pure` gives
use Rattle.std.proofs.Common.{◌≡◌, ℕ, zero, suc, ◌+◌, ◌<◌, ◌≤◌, Bool, true, false, List, [], ◌∷◌, ◌++◌, length, drop, Option, Some, None, Result, Ok, Err, refl, sym, ap, ◌∙◌, append_assoc, arith}
use Rattle.std.specs.Prelude.{IsTrue, if◌then◌else◌}
use Rattle.vlog_tree.specs.Lexemes.{Lexeme, IsMark, is_mark}
use Rattle.vlog_expr.specs.declared.stuck.Stuck.{Stuck}
use Rattle.vlog_expr.specs.declared.stuck.Stuck.TheVariants.{Wrong}
use Rattle.vlog_expr.specs.Reading.{Outcome, Reader, first, onward, advance, stop, sees, expect}

pub record Went {A B : Type 0} (v : Result A Stuck) (mid : List Lexeme) (f : A → Reader B) (o : Outcome B) : Type 0 where
  pub answer : A
  pub was : v ≡ Ok answer
  pub onwards : f answer mid ≡ o

pub went : {A B : Type 0} (v : Result A Stuck) (mid : List Lexeme) (f : A → Reader B) (b : B) (rest : List Lexeme) → onward v mid f ≡ (Ok b, rest) → Went v mid f (Ok b, rest)
went (Ok a) mid f b rest e = record { answer = a; was = refl; onwards = e }
went (Err why) mid f b rest e = let never = ap (λ o. o.0) e in cc

pub record Met {B : Type 0} (mark : List ℕ) (ls : List Lexeme) (f : Reader B) (o : Outcome B) : Type 0 where
  pub lexeme : Lexeme
  pub mid : List Lexeme
  pub is : ls ≡ lexeme ∷ mid
  pub marks : IsMark mark lexeme
  pub onwards : f mid ≡ o

met_by : {B : Type 0} (mark : List ℕ) (l : Lexeme) (mid : List Lexeme) (f : Reader B) (b : B) (rest : List Lexeme) (there : Bool) → is_mark mark l ≡ there
    → onward ((if there then advance else stop Wrong) (l ∷ mid)).0 ((if there then advance else stop Wrong) (l ∷ mid)).1 (λ _. f) ≡ (Ok b, rest) → Met mark (l ∷ mid) f (Ok b, rest)
met_by mark l mid f b rest true marks e = record { lexeme = l; mid = mid; is = refl; marks = marks; onwards = e }
met_by mark l mid f b rest false marks e = let never = ap (λ o. o.0) e in cc

pub met : {B : Type 0} (mark : List ℕ) (ls : List Lexeme) (f : Reader B) (b : B) (rest : List Lexeme)
    → onward (expect mark ls).0 (expect mark ls).1 (λ _. f) ≡ (Ok b, rest) → Met mark ls f (Ok b, rest)
unfolding expect first sees
met mark [] f b rest e = let never = ap (λ o. o.0) e in cc
met mark (l ∷ mid) f b rest e = met_by mark l mid f b rest (is_mark mark l) refl e

pub record Gave {A : Type 0} (a : A) (mid : List Lexeme) (b : A) (rest : List Lexeme) : Type 0 where
  pub same : b ≡ a
  pub left : mid ≡ rest

pub gave : {A : Type 0} (a : A) (mid : List Lexeme) (b : A) (rest : List Lexeme) → ◌≡◌ {A = Outcome A} (Ok a, mid) (Ok b, rest) → Gave a mid b rest
gave a mid b rest e = let equal = ap (λ o. o.0) e in record { same = cc; left = ap (λ o. o.1) e }

-- a piece and a lexeme, with what is left behind
pub with_last : {ls mid : List Lexeme} (us rest : List Lexeme) (r : Lexeme) → ls ≡ us ++ mid → mid ≡ r ∷ rest → ls ≡ (us ++ r ∷ []) ++ rest
with_last us rest r e f = e ∙ (ap (λ xs. us ++ xs) f ∙ sym (append_assoc us (r ∷ []) rest))

-- two pieces with a lexeme between, and what is left behind
pub with_middle : {ls mid : List Lexeme} (us vs rest : List Lexeme) (m : Lexeme) → ls ≡ us ++ (m ∷ mid) → mid ≡ vs ++ rest → ls ≡ (us ++ m ∷ vs) ++ rest
with_middle us vs rest m e f = e ∙ (ap (λ xs. us ++ m ∷ xs) f ∙ sym (append_assoc us (m ∷ vs) rest))
