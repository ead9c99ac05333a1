-- What was found before what is still to be read.
use Rattle.std.proofs.Common.{◌≡◌, ℕ, zero, suc, ◌+◌, ◌≤◌, Bool, true, false, List, [], ◌∷◌, ◌++◌, length, drop, Option, Result, Ok, Err, refl, sym, ap, ◌∙◌, append_assoc, arith}
use Rattle.std.specs.Prelude.{codes}
use Rattle.vlog_tree.specs.declared.expr.Expr.{Expr}
use Rattle.vlog_tree.specs.Lexemes.{Lexeme}
use Rattle.vlog_expr.specs.declared.stuck.Stuck.{Stuck}
use Rattle.vlog_expr.specs.Reading.{Outcome, Reader, first, onward, pure, sees}
use Rattle.vlog_expr.specs.Exprs.{expr, others, others_from}
use Rattle.vlog_expr.proofs.Readers.{Steady, shorter}
use Rattle.vlog_expr.proofs.CalmLemmas.{expr_calm}

-- the outcome, with these in front of what it found
abbrev pub behind : {A : Type 0} → List A → Outcome (List A) → Outcome (List A)
behind xs o = elim o.0 [ Ok ys ↦ (Ok (xs ++ ys), o.1) | Err why ↦ (Err why, o.1) ]

before_none : {A : Type 0} (v : Result (List A) Stuck) (mid : List Lexeme) → behind [] (v, mid) ≡ (v, mid)
before_none (Ok ys) mid = refl
before_none (Err why) mid = refl

before_both : {A : Type 0} (xs ys : List A) (v : Result (List A) Stuck) (mid : List Lexeme) → behind xs (behind ys (v, mid)) ≡ behind (xs ++ ys) (v, mid)
before_both xs ys (Ok zs) mid = ap (λ all. (Ok all, mid)) (sym (append_assoc xs ys zs))
before_both xs ys (Err why) mid = refl

before_one : {A : Type 0} (x : A) (v : Result (List A) Stuck) (mid : List Lexeme) → onward v mid (λ xs. pure (x ∷ xs)) ≡ behind (x ∷ []) (v, mid)
before_one x (Ok zs) mid = refl
before_one x (Err why) mid = refl

pub seen_some : (mark : List ℕ) (ls : List Lexeme) → sees mark (first ls) ≡ true → 1 ≤ length ls
unfolding first sees
seen_some mark [] seen = cc
seen_some mark (l ∷ ls) seen = omega arith

pub read_shorter : (d level : ℕ) (ls : List Lexeme) (v : Result Expr Stuck) (mid : List Lexeme) → expr d level ls ≡ (v, mid) → length mid ≤ length ls
read_shorter d level ls v mid read = let less = shorter ((expr_calm d d (omega arith) level).local ls) in omega (arith, ap (λ o. length o.1) read)

module _ (room : ℕ) (inner : ℕ → Reader Expr) where
  pub others_begin : (ls : List Lexeme) → others room inner ls ≡ behind [] (others_from room inner (length ls) ls)
  unfolding others
  others_begin ls = sym (before_none (others_from room inner (length ls) ls).0 (others_from room inner (length ls) ls).1)

  pub no_other : (n : ℕ) (ls : List Lexeme) → sees (codes ",") (first ls) ≡ false → others_from room inner n ls ≡ (Ok [], ls)
  unfolding others_from
  no_other zero ls unseen = refl
  no_other (suc n) ls unseen = rw unseen

  pub one_other : (n : ℕ) (ls : List Lexeme) (xs : List Expr) (x : Expr) (mid : List Lexeme) → sees (codes ",") (first ls) ≡ true → inner 0 (drop 1 ls) ≡ (Ok x, mid)
      → behind xs (others_from room inner (suc n) ls) ≡ behind (xs ++ x ∷ []) (others_from room inner n mid)
  unfolding others_from
  one_other n ls xs x mid seen read =
      rw (seen, read) (ap (λ o. behind xs o) (before_one x (others_from room inner n mid).0 (others_from room inner n mid).1)
      ∙ before_both xs (x ∷ []) (others_from room inner n mid).0 (others_from room inner n mid).1)

  pub broken_other : (n : ℕ) (ls : List Lexeme) (xs : List Expr) (why : Stuck) (mid : List Lexeme) → sees (codes ",") (first ls) ≡ true → inner 0 (drop 1 ls) ≡ (Err why, mid)
      → behind xs (others_from room inner (suc n) ls) ≡ (Err why, mid)
  unfolding others_from
  broken_other n ls xs why mid seen read = rw (seen, read)
