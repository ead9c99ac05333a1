-- The readers of words, names and lists are steady where their pieces are; a lexeme that is taken first counts.
use Rattle.std.proofs.Common.{◌≡◌, ℕ, zero, suc, ◌+◌, ◌<◌, ◌≤◌, Bool, true, false, List, [], ◌∷◌, ◌++◌, length, drop, Option, Some, None, Result, Ok, Err, refl, sym, ap, ◌∙◌, arith}
use Rattle.std.proofs.lemmas.List.{append_cancel_right}
use Rattle.std.specs.Prelude.{if◌then◌else◌, codes}
use Rattle.rdc_outside.specs.declared.source.Place.{Place}
use Rattle.vlog_tree.specs.declared.ident.Ident.{Ident}
use Rattle.vlog_tree.specs.Lexemes.{Lexeme, is_word}
use Rattle.vlog_expr.specs.declared.stuck.Stuck.{Stuck}
use Rattle.vlog_expr.specs.declared.stuck.Stuck.TheVariants.{Wrong}
use Rattle.vlog_expr.specs.Reading.{Reader, first, onward, pure, stop, advance, sees, place_if, name_if, sees_word, expect_word}
use Rattle.vlog_expr.proofs.Readers.{Local, Steady, shorter, ◌>>=◌, ◌>>◌, steady_pure, steady_wrong, steady_peek, steady_advance, steady_if, wants_room}
use Rattle.vlog_stmt.specs.Lists.{known, known_by, took_word, ident as one_name}
use Rattle.vlog_parse.specs.Lists.{flag, ident, optional, others_from, others, commas, until_from, until}

pub steady_word : {k : ℕ} (w : List ℕ) → Steady k (expect_word w) (expect_word w)
unfolding expect_word
steady_word w = let built = steady_peek (sees_word w) >>= (λ there. steady_if there steady_advance steady_wrong) in built

pub steady_flag : {k : ℕ} (w : List ℕ) → Steady k (flag w) (flag w)
unfolding took_word
steady_flag w = let built = steady_peek (sees_word w) >>= (λ there. steady_if there (steady_advance >> steady_pure true) (steady_pure false)) in built

steady_known : {k : ℕ} (place : Place) (name : Option (List ℕ))
    → Steady k {A = Ident} (known_by (λ name. pure (record { place = place; name = name })) (stop Wrong) name) (known_by (λ name. pure (record { place = place; name = name })) (stop Wrong) name)
unfolding known_by
steady_known place None = steady_wrong
steady_known place (Some name) = let built = steady_advance >> steady_pure (record { place = place; name = name }) in built

pub steady_ident : {k : ℕ} → Steady k ident ident
unfolding one_name known
steady_ident = let built = steady_peek place_if >>= (λ place. steady_peek name_if >>= steady_known place) in built

pub steady_optional : {k : ℕ} {A : Type 0} {p q : Reader A} (test : Option Lexeme → Bool) → Steady k p q → Steady k (optional test p) (optional test q)
unfolding optional
steady_optional test s = let built = steady_peek test >>= (λ there. steady_if there (s >>= (λ a. steady_pure (Some a))) (steady_pure None)) in built

module _ {A : Type 0} (k : ℕ) (p q : Reader A) (s : Steady k p q) where
  others_from_steady : (n : ℕ) → Steady k (others_from n p) (others_from n q)
  unfolding others_from
  others_from_steady zero = steady_pure []
  others_from_steady (suc n) =
      let built = steady_peek (sees (codes ",")) >>= (λ there. steady_if there (steady_advance >> (s >>= (λ x. others_from_steady n >>= (λ xs. steady_pure (x ∷ xs))))) (steady_pure [])) in built

  turn : ℕ → Reader (List A)
  turn n = λ ls. onward (p (drop 1 ls)).0 (p (drop 1 ls)).1 (λ x ls'. onward (others_from n p ls').0 (others_from n p ls').1 (λ xs. pure (x ∷ xs)))

  same_turn : (n m : ℕ) (v : Result A Stuck) (mid : List Lexeme) → others_from n p mid ≡ others_from m p mid
      → onward v mid (λ x ls'. onward (others_from n p ls').0 (others_from n p ls').1 (λ xs. pure (x ∷ xs)))
      ≡ onward v mid (λ x ls'. onward (others_from m p ls').0 (others_from m p ls').1 (λ xs. pure (x ∷ xs)))
  same_turn n m (Ok x) mid e = ap (λ o. onward o.0 o.1 (λ xs. pure (x ∷ xs))) e
  same_turn n m (Err why) mid e = refl

  by_turn : (there : Bool) (n m : ℕ) (l : Lexeme) (ls : List Lexeme) → others_from n p (p ls).1 ≡ others_from m p (p ls).1
      → (if there then turn n else pure []) (l ∷ ls) ≡ (if there then turn m else pure []) (l ∷ ls)
  unfolding turn
  by_turn true n m l ls e = same_turn n m (p ls).0 (p ls).1 e
  by_turn false n m l ls e = refl

  -- enough turns are as good as more
  enough : (n m : ℕ) (ls : List Lexeme) → length ls ≤ n → length ls ≤ m → others_from n p ls ≡ others_from m p ls
  unfolding others_from first sees turn
  enough zero zero ls f g = refl
  enough zero (suc m) [] f g = refl
  enough zero (suc m) (l ∷ ls) f g = absurd (omega arith)
  enough (suc n) zero [] f g = refl
  enough (suc n) zero (l ∷ ls) f g = absurd (omega arith)
  enough (suc n) (suc m) [] f g = refl
  enough (suc n) (suc m) (l ∷ ls) f g =
      let less = shorter (s.local ls) in
      by_turn (sees (codes ",") (Some l)) n m l ls (enough n m (p ls).1 (omega arith) (omega arith))

-- a reader whose turns are bounded by the lexemes
module _ {A : Type 0} (k : ℕ) (r t : ℕ → Reader A) (by : (n : ℕ) → Steady k (r n) (t n)) (enough : (n m : ℕ) (ls : List Lexeme) → length ls ≤ n → length ls ≤ m → r n ls ≡ r m ls) where
  bounded_local : Local (λ ls. r (length ls) ls)
  bounded_local ls =
      let here = length ls in
      let s = (by here).local ls in
      record {
        is = refl;
        pre = s.pre;
        parts = s.parts;
        same = λ rest ends.
            let n = length ls + length (s.pre ++ rest) in
            let t = (by n).local ls in
            let alike : r n ls ≡ r here ls = enough n here ls (omega arith) (omega arith) in
            let front : t.pre ≡ s.pre = append_cancel_right t.pre s.pre (r here ls).1 (ap (λ o. t.pre ++ o.1) (sym alike) ∙ (sym t.parts ∙ s.parts)) in
            enough (length (s.pre ++ rest)) n (s.pre ++ rest) (omega arith) (omega arith)
            ∙ (ap (λ pre. r n (pre ++ rest)) (sym front)
            ∙ (t.same rest (ends ∙ ap (λ o. first o.1) (sym alike)) ∙ ap (λ o. (o.0, rest)) alike));
      }

  pub steady_bounded : Steady k (λ ls. r (length ls) ls) (λ ls. t (length ls) ls)
  steady_bounded = record {
    local = bounded_local;
    stays = λ ls calm. (by (length ls)).stays ls calm;
    shallow = λ ls less. (by (length ls)).shallow ls less;
  }

pub steady_others : {k : ℕ} {A : Type 0} {p q : Reader A} → Steady k p q → Steady k (others p) (others q)
unfolding others
steady_others {k = k} {p = p} {q = q} s =
    let built = steady_bounded k (λ n. others_from n p) (λ n. others_from n q) (others_from_steady k p q s) (enough k p q s) in built

pub steady_commas : {k : ℕ} {A : Type 0} {p q : Reader A} → Steady k p q → Steady k (commas p) (commas q)
unfolding commas
steady_commas s = let built = s >>= (λ x. steady_others s >>= (λ xs. steady_pure (x ∷ xs))) in built

module _ {A : Type 0} (k : ℕ) (w : List ℕ) (p q : Reader A) (s : Steady k p q) (takes : (ls : List Lexeme) (x : A) (mid : List Lexeme) → p ls ≡ (Ok x, mid) → length mid < length ls) where
  until_from_steady : (n : ℕ) → Steady k (until_from n w p) (until_from n w q)
  unfolding until_from
  until_from_steady zero = steady_wrong
  until_from_steady (suc n) =
      let built = steady_peek (sees_word w) >>= (λ there. steady_if there (steady_advance >> steady_pure []) (s >>= (λ x. until_from_steady n >>= (λ xs. steady_pure (x ∷ xs))))) in built

  piece : ℕ → Reader (List A)
  piece n = λ ls. onward (p ls).0 (p ls).1 (λ x ls'. onward (until_from n w p ls').0 (until_from n w p ls').1 (λ xs. pure (x ∷ xs)))

  same_piece : (n m : ℕ) (v : Result A Stuck) (mid : List Lexeme) → ((x : A) → v ≡ Ok x → until_from n w p mid ≡ until_from m w p mid)
      → onward v mid (λ x ls'. onward (until_from n w p ls').0 (until_from n w p ls').1 (λ xs. pure (x ∷ xs)))
      ≡ onward v mid (λ x ls'. onward (until_from m w p ls').0 (until_from m w p ls').1 (λ xs. pure (x ∷ xs)))
  same_piece n m (Ok x) mid e = ap (λ o. onward o.0 o.1 (λ xs. pure (x ∷ xs))) (e x refl)
  same_piece n m (Err why) mid e = refl

  by_piece : (there : Bool) (n m : ℕ) (ls : List Lexeme) → ((x : A) → (p ls).0 ≡ Ok x → until_from n w p (p ls).1 ≡ until_from m w p (p ls).1)
      → (if there then (λ zs. pure [] (drop 1 zs)) else piece n) ls ≡ (if there then (λ zs. pure [] (drop 1 zs)) else piece m) ls
  unfolding piece
  by_piece true n m ls e = refl
  by_piece false n m ls e = same_piece n m (p ls).0 (p ls).1 e

  fewer : (ls : List Lexeme) (x : A) → (p ls).0 ≡ Ok x → length (p ls).1 < length ls
  fewer ls x was = takes ls x (p ls).1 (ap (λ v. (v, (p ls).1)) was)

  until_enough : (n m : ℕ) (ls : List Lexeme) → length ls ≤ n → length ls ≤ m → until_from (suc n) w p ls ≡ until_from (suc m) w p ls
  unfolding until_from piece
  until_enough zero zero ls f g = refl
  until_enough zero (suc m) ls f g = by_piece (sees_word w (first ls)) zero (suc m) ls (λ x was. let less = fewer ls x was in absurd (omega arith))
  until_enough (suc n) zero ls f g = by_piece (sees_word w (first ls)) (suc n) zero ls (λ x was. let less = fewer ls x was in absurd (omega arith))
  until_enough (suc n) (suc m) ls f g = by_piece (sees_word w (first ls)) (suc n) (suc m) ls (λ x was. let less = fewer ls x was in until_enough n m (p ls).1 (omega arith) (omega arith))

  pub steady_until : Steady k (until w p) (until w q)
  unfolding until
  steady_until = let built = steady_bounded k (λ n. until_from (suc n) w p) (λ n. until_from (suc n) w q) (λ n. until_from_steady (suc n)) until_enough in built

-- behind a lexeme that is taken
record Skips {A : Type 0} (r : Reader A) (p : Reader A) : Type 0 where
  at_end : wants_room (r []).0 ≡ false
  at_lexeme : (l : Lexeme) (ls : List Lexeme) → wants_room (p ls).0 ≡ false → wants_room (r (l ∷ ls)).0 ≡ false

past_shallow : {k : ℕ} {A : Type 0} {p q r : Reader A} → Steady k p q → Skips r p → (ls : List Lexeme) → length ls < suc k → wants_room (r ls).0 ≡ false
past_shallow s skips [] few = skips.at_end
past_shallow s skips (l ∷ ls) few = skips.at_lexeme l ls (s.shallow ls (omega arith))

past : {k : ℕ} {A : Type 0} {p q r t : Reader A} → Steady k p q → Steady k r t → Skips r p → Steady (suc k) r t
past s u skips = record { local = u.local; stays = u.stays; shallow = past_shallow s skips }

calm_word : {A : Type 0} (there : Bool) (p : Reader A) (l : Lexeme) (ls : List Lexeme) → wants_room (p ls).0 ≡ false
    → wants_room (onward ((if there then advance else stop Wrong) (l ∷ ls)).0 ((if there then advance else stop Wrong) (l ∷ ls)).1 (λ _. p)).0 ≡ false
calm_word true p l ls calm = calm
calm_word false p l ls calm = refl

word_skips : {A : Type 0} (w : List ℕ) (p : Reader A) → Skips (λ ls. onward (expect_word w ls).0 (expect_word w ls).1 (λ _. p)) p
unfolding expect_word first sees_word
word_skips w p = record { at_end = refl; at_lexeme = λ l ls calm. calm_word (is_word w l) p l ls calm }

-- behind a word
pub steady_past_word : {k : ℕ} {A : Type 0} {p q : Reader A} (w : List ℕ) → Steady k p q
    → Steady (suc k) (λ ls. onward (expect_word w ls).0 (expect_word w ls).1 (λ _. p)) (λ ls. onward (expect_word w ls).0 (expect_word w ls).1 (λ _. q))
steady_past_word {p = p} w s = past s (steady_word w >> s) (word_skips w p)
