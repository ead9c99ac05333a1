-- Lists of pieces: enough turns are as good as more, and what was found before what is still to be read.
use Rattle.std.proofs.Common.{◌≡◌, ℕ, zero, suc, ◌<◌, Bool, true, false, List, [], ◌∷◌, ◌++◌, length, Option, Result, Ok, Err, refl, sym, ap, ◌∙◌, append_assoc, arith}
use Rattle.std.specs.Prelude.{if◌then◌else◌, codes}
use Rattle.vlog_tree.specs.Lexemes.{Lexeme}
use Rattle.vlog_expr.specs.declared.stuck.Stuck.{Stuck}
use Rattle.vlog_expr.specs.Reading.{Outcome, Reader, first, onward, pure}
use Rattle.vlog_expr.proofs.Inversion.{met}
use Rattle.vlog_stmt.specs.Lists.{many, many_from, further, Keeps, Eats}

-- the outcome, with these in front of what it found
abbrev pub behind : {A : Type 0} → List A → Outcome (List A) → Outcome (List A)
behind xs o = elim o.0 [ Ok ys ↦ (Ok (xs ++ ys), o.1) | Err why ↦ (Err why, o.1) ]

before_none : {A : Type 0} (v : Result (List A) Stuck) (mid : List Lexeme) → behind [] (v, mid) ≡ (v, mid)
before_none (Ok ys) mid = refl
before_none (Err why) mid = refl

before_both : {A : Type 0} (xs ys : List A) (v : Result (List A) Stuck) (mid : List Lexeme) → behind xs (behind ys (v, mid)) ≡ behind (xs ++ ys) (v, mid)
before_both xs ys (Ok zs) mid = ap (λ all. (Ok all, mid)) (sym (append_assoc xs ys zs))
before_both xs ys (Err why) mid = refl

before_one : {A : Type 0} (x : A) (v : Result (List A) Stuck) (mid : List Lexeme) → onward v mid (λ xs. pure (x ∷ xs)) ≡ behind (x ∷ []) (v, mid)
before_one x (Ok zs) mid = refl
before_one x (Err why) mid = refl

pub further_eats : {A : Type 0} (p : Reader A) → Keeps p → Eats (further p)
unfolding further
further_eats p k = record {
  leaves = λ ls a rest h.
      let m = met (codes ",") ls p a rest h in
      let less = k.leaves m.mid a rest m.onwards in
      omega (arith, ap length m.is);
}

module _ {A : Type 0} (goes : Option Lexeme → Bool) (p : Reader A) where
  -- one turn more
  turn : ℕ → Reader (List A)
  turn n = λ ls. onward (p ls).0 (p ls).1 (λ x mid. onward (many_from n goes p mid).0 (many_from n goes p mid).1 (λ xs. pure (x ∷ xs)))

  same_turn : (n m : ℕ) (v : Result A Stuck) (mid : List Lexeme) → ((x : A) → v ≡ Ok x → many_from n goes p mid ≡ many_from m goes p mid)
      → onward v mid (λ x ls. onward (many_from n goes p ls).0 (many_from n goes p ls).1 (λ xs. pure (x ∷ xs)))
      ≡ onward v mid (λ x ls. onward (many_from m goes p ls).0 (many_from m goes p ls).1 (λ xs. pure (x ∷ xs)))
  same_turn n m (Ok x) mid e = ap (λ o. onward o.0 o.1 (λ xs. pure (x ∷ xs))) (e x refl)
  same_turn n m (Err why) mid e = refl

  by_turn : (on : Bool) (n m : ℕ) (ls : List Lexeme) → ((x : A) → (p ls).0 ≡ Ok x → many_from n goes p (p ls).1 ≡ many_from m goes p (p ls).1)
      → (if on then turn n else pure []) ls ≡ (if on then turn m else pure []) ls
  unfolding turn
  by_turn true n m ls e = same_turn n m (p ls).0 (p ls).1 e
  by_turn false n m ls e = refl

  -- enough turns are as good as more
  pub enough : Eats p → (n m : ℕ) (ls : List Lexeme) → length ls < n → length ls < m → many_from n goes p ls ≡ many_from m goes p ls
  unfolding many_from turn
  enough eats zero m ls q r = absurd (omega arith)
  enough eats (suc n) zero ls q r = absurd (omega arith)
  enough eats (suc n) (suc m) ls q r =
      by_turn (goes (first ls)) n m ls (λ x was.
      let less = eats.leaves ls x (p ls).1 (ap (λ v. (v, (p ls).1)) was) in
      enough eats n m (p ls).1 (omega arith) (omega arith))

  -- the loop
  pub many_begin : (ls : List Lexeme) → many goes p ls ≡ behind [] (many_from (suc (length ls)) goes p ls)
  unfolding many
  many_begin ls = sym (before_none (many_from (suc (length ls)) goes p ls).0 (many_from (suc (length ls)) goes p ls).1)

  by_stop : (on : Bool) (n : ℕ) (ls : List Lexeme) → on ≡ false → (if on then turn n else pure []) ls ≡ (Ok [], ls)
  by_stop true n ls e = cc
  by_stop false n ls e = refl

  pub no_more : (n : ℕ) (ls : List Lexeme) → goes (first ls) ≡ false → many_from (suc n) goes p ls ≡ (Ok [], ls)
  unfolding many_from turn
  no_more n ls e = by_stop (goes (first ls)) n ls e

  by_one : (on : Bool) (n : ℕ) (ls : List Lexeme) (x : A) (mid : List Lexeme) → on ≡ true → p ls ≡ (Ok x, mid)
      → (if on then turn n else pure []) ls ≡ onward (many_from n goes p mid).0 (many_from n goes p mid).1 (λ xs. pure (x ∷ xs))
  unfolding turn
  by_one true n ls x mid e h = ap (λ o. onward o.0 o.1 (λ x ls. onward (many_from n goes p ls).0 (many_from n goes p ls).1 (λ xs. pure (x ∷ xs)))) h
  by_one false n ls x mid e h = cc

  pub one_more : (n : ℕ) (ls : List Lexeme) (x : A) (mid : List Lexeme) → goes (first ls) ≡ true → p ls ≡ (Ok x, mid)
      → many_from (suc n) goes p ls ≡ onward (many_from n goes p mid).0 (many_from n goes p mid).1 (λ xs. pure (x ∷ xs))
  unfolding many_from turn
  one_more n ls x mid e h = by_one (goes (first ls)) n ls x mid e h

  by_broken : (on : Bool) (n : ℕ) (ls : List Lexeme) (why : Stuck) (mid : List Lexeme) → on ≡ true → p ls ≡ (Err why, mid) → (if on then turn n else pure []) ls ≡ (Err why, mid)
  unfolding turn
  by_broken true n ls why mid e h = ap (λ o. onward o.0 o.1 (λ x ls. onward (many_from n goes p ls).0 (many_from n goes p ls).1 (λ xs. pure (x ∷ xs)))) h
  by_broken false n ls why mid e h = cc

  -- a turn, behind what was found
  pub turned : (n : ℕ) (xs : List A) (ls : List Lexeme) (x : A) (mid : List Lexeme) → goes (first ls) ≡ true → p ls ≡ (Ok x, mid)
      → behind xs (many_from (suc n) goes p ls) ≡ behind (xs ++ x ∷ []) (many_from n goes p mid)
  turned n xs ls x mid e h =
      ap (behind xs) (one_more n ls x mid e h ∙ before_one x (many_from n goes p mid).0 (many_from n goes p mid).1)
      ∙ before_both xs (x ∷ []) (many_from n goes p mid).0 (many_from n goes p mid).1

  pub ended : (n : ℕ) (xs : List A) (ls : List Lexeme) → goes (first ls) ≡ false → behind xs (many_from (suc n) goes p ls) ≡ (Ok (xs ++ []), ls)
  ended n xs ls e = ap (behind xs) (no_more n ls e)

  pub broken : (n : ℕ) (xs : List A) (ls : List Lexeme) (why : Stuck) (mid : List Lexeme) → goes (first ls) ≡ true → p ls ≡ (Err why, mid)
      → behind xs (many_from (suc n) goes p ls) ≡ (Err why, mid)
  unfolding many_from turn
  broken n xs ls why mid e h = ap (behind xs) (by_broken (goes (first ls)) n ls why mid e h)
