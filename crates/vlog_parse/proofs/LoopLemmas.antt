-- What was found before what is still to be read: lists with commas, and lists up to a word.
use Rattle.std.proofs.Common.{◌≡◌, ℕ, zero, suc, ◌≤◌, Bool, true, false, List, [], ◌∷◌, ◌++◌, length, drop, map, Option, Some, Result, Ok, Err, refl, sym, ap, ◌∙◌, append_assoc, arith}
use Rattle.std.specs.Prelude.{codes}
use Rattle.vlog_tree.specs.Lexemes.{Lexeme}
use Rattle.vlog_expr.specs.declared.stuck.Stuck.{Stuck}
use Rattle.vlog_expr.specs.Reading.{Outcome, Reader, first, onward, pure, sees, sees_word}
use Rattle.vlog_parse.specs.Lists.{some, others, others_from, commas, until, until_from}

-- the outcome, with these in front of what it found
abbrev pub behind : {A : Type 0} → List A → Outcome (List A) → Outcome (List A)
behind xs o = elim o.0 [ Ok ys ↦ (Ok (xs ++ ys), o.1) | Err why ↦ (Err why, o.1) ]

pub before_none : {A : Type 0} (v : Result (List A) Stuck) (mid : List Lexeme) → behind [] (v, mid) ≡ (v, mid)
before_none (Ok ys) mid = refl
before_none (Err why) mid = refl

pub before_both : {A : Type 0} (xs ys : List A) (v : Result (List A) Stuck) (mid : List Lexeme) → behind xs (behind ys (v, mid)) ≡ behind (xs ++ ys) (v, mid)
before_both xs ys (Ok zs) mid = ap (λ all. (Ok all, mid)) (sym (append_assoc xs ys zs))
before_both xs ys (Err why) mid = refl

pub before_one : {A : Type 0} (x : A) (v : Result (List A) Stuck) (mid : List Lexeme) → onward v mid (λ xs. pure (x ∷ xs)) ≡ behind (x ∷ []) (v, mid)
before_one x (Ok zs) mid = refl
before_one x (Err why) mid = refl

-- one more in front of what is read further
pub one_more : {A : Type 0} (xs : List A) (x : A) (o : Outcome (List A)) → behind xs (onward o.0 o.1 (λ ys. pure (x ∷ ys))) ≡ behind (xs ++ x ∷ []) o
one_more xs x o = ap (behind xs) (before_one x o.0 o.1) ∙ before_both xs (x ∷ []) o.0 o.1

pub seen_some : (mark : List ℕ) (ls : List Lexeme) → sees mark (first ls) ≡ true → 1 ≤ length ls
unfolding first sees
seen_some mark [] seen = cc
seen_some mark (l ∷ ls) seen = omega arith

module _ {A : Type 0} (p : Reader A) where
  pub others_begin : (ls : List Lexeme) → others p ls ≡ behind [] (others_from (length ls) p ls)
  unfolding others
  others_begin ls = sym (before_none (others_from (length ls) p ls).0 (others_from (length ls) p ls).1)

  pub no_other : (n : ℕ) (ls : List Lexeme) → sees (codes ",") (first ls) ≡ false → others_from n p ls ≡ (Ok [], ls)
  unfolding others_from
  no_other zero ls unseen = refl
  no_other (suc n) ls unseen = rw unseen

  pub one_other : (n : ℕ) (xs : List A) (ls : List Lexeme) (x : A) (mid : List Lexeme) → sees (codes ",") (first ls) ≡ true → p (drop 1 ls) ≡ (Ok x, mid)
      → behind xs (others_from (suc n) p ls) ≡ behind (xs ++ x ∷ []) (others_from n p mid)
  unfolding others_from
  one_other n xs ls x mid seen read = rw (seen, read) (one_more xs x (others_from n p mid))

  pub broken_other : (n : ℕ) (xs : List A) (ls : List Lexeme) (why : Stuck) (mid : List Lexeme) → sees (codes ",") (first ls) ≡ true → p (drop 1 ls) ≡ (Err why, mid)
      → behind xs (others_from (suc n) p ls) ≡ (Err why, mid)
  unfolding others_from
  broken_other n xs ls why mid seen read = rw (seen, read)

module _ {A : Type 0} (w : List ℕ) (p : Reader A) where
  pub until_begin : (ls : List Lexeme) → until w p ls ≡ behind [] (until_from (suc (length ls)) w p ls)
  unfolding until
  until_begin ls = sym (before_none (until_from (suc (length ls)) w p ls).0 (until_from (suc (length ls)) w p ls).1)

  pub until_end : (n : ℕ) (xs : List A) (ls : List Lexeme) → sees_word w (first ls) ≡ true → behind xs (until_from (suc n) w p ls) ≡ (Ok (xs ++ []), drop 1 ls)
  unfolding until_from
  until_end n xs ls seen = rw seen

  pub until_one : (n : ℕ) (xs : List A) (ls : List Lexeme) (x : A) (mid : List Lexeme) → sees_word w (first ls) ≡ false → p ls ≡ (Ok x, mid)
      → behind xs (until_from (suc n) w p ls) ≡ behind (xs ++ x ∷ []) (until_from n w p mid)
  unfolding until_from
  until_one n xs ls x mid unseen read = rw (unseen, read) (one_more xs x (until_from n w p mid))

  pub until_broken : (n : ℕ) (xs : List A) (ls : List Lexeme) (why : Stuck) (mid : List Lexeme) → sees_word w (first ls) ≡ false → p ls ≡ (Err why, mid)
      → behind xs (until_from (suc n) w p ls) ≡ (Err why, mid)
  unfolding until_from
  until_broken n xs ls why mid unseen read = rw (unseen, read)

abbrev all_some : {A : Type 0} → Outcome (List A) → Outcome (List (Option A))
all_some o = onward o.0 o.1 (λ xs. pure (map Some xs))

one_some : {A : Type 0} (x : A) (v : Result (List A) Stuck) (mid : List Lexeme)
    → onward (all_some (v, mid)).0 (all_some (v, mid)).1 (λ xs. pure (Some x ∷ xs)) ≡ all_some (onward v mid (λ xs. pure (x ∷ xs)))
one_some x (Ok xs) mid = refl
one_some x (Err why) mid = refl

module _ {A : Type 0} (p : Reader A) where
  turn_some : (n : ℕ) (v : Result A Stuck) (mid : List Lexeme) → ((x : A) → others_from n (some p) mid ≡ all_some (others_from n p mid))
      → onward (onward v mid (λ a. pure (Some a))).0 (onward v mid (λ a. pure (Some a))).1 (λ x ls. onward (others_from n (some p) ls).0 (others_from n (some p) ls).1 (λ xs. pure (x ∷ xs)))
      ≡ all_some (onward v mid (λ x ls. onward (others_from n p ls).0 (others_from n p ls).1 (λ xs. pure (x ∷ xs))))
  turn_some n (Ok x) mid e = ap (λ o. onward o.0 o.1 (λ xs. pure (Some x ∷ xs))) (e x) ∙ one_some x (others_from n p mid).0 (others_from n p mid).1
  turn_some n (Err why) mid e = refl

  others_some : (n : ℕ) (ls : List Lexeme) (there : Bool) → sees (codes ",") (first ls) ≡ there → others_from n (some p) ls ≡ all_some (others_from n p ls)
  unfolding others_from
  others_some zero ls there is = refl
  others_some (suc n) ls true is = rw is (turn_some n (p (drop 1 ls)).0 (p (drop 1 ls)).1 (λ x. others_some n (p (drop 1 ls)).1 (sees (codes ",") (first (p (drop 1 ls)).1)) refl))
  others_some (suc n) ls false is = rw is

  commas_by : (v : Result A Stuck) (mid : List Lexeme)
      → onward (onward v mid (λ a. pure (Some a))).0 (onward v mid (λ a. pure (Some a))).1 (λ x ls. onward (others (some p) ls).0 (others (some p) ls).1 (λ xs. pure (x ∷ xs)))
      ≡ all_some (onward v mid (λ x ls. onward (others p ls).0 (others p ls).1 (λ xs. pure (x ∷ xs))))
  unfolding others
  commas_by (Ok x) mid =
      ap (λ o. onward o.0 o.1 (λ xs. pure (Some x ∷ xs))) (others_some (length mid) mid (sees (codes ",") (first mid)) refl)
      ∙ one_some x (others_from (length mid) p mid).0 (others_from (length mid) p mid).1
  commas_by (Err why) mid = refl

  pub commas_some : (ls : List Lexeme) → commas (some p) ls ≡ all_some (commas p ls)
  unfolding commas
  commas_some ls = commas_by (p ls).0 (p ls).1
