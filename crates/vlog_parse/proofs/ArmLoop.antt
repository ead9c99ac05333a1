-- Case items up to `endcase`: what was found before what is still to be read.
use Rattle.std.proofs.Common.{◌≡◌, ℕ, suc, Bool, true, false, List, [], ◌∷◌, ◌++◌, length, drop, Ok, Err, sym, ap}
use Rattle.std.specs.Prelude.{if◌then◌else◌, not, codes}
use Rattle.vlog_tree.specs.declared.stmt.Arm.{Arm}
use Rattle.vlog_tree.specs.declared.item.Block.{Block}
use Rattle.vlog_tree.specs.declared.item.Item.{Item}
use Rattle.vlog_tree.specs.Lexemes.{Lexeme}
use Rattle.vlog_expr.specs.declared.stuck.Stuck.{Stuck}
use Rattle.vlog_expr.specs.declared.stuck.Stuck.TheVariants.{Wrong}
use Rattle.vlog_expr.specs.Reading.{Reader, first, onward, stop, sees_word, expect_word}
use Rattle.vlog_parse.specs.Items.{default_arm, labelled_arm, arm_then, arms_by, arms_from, arms}
use Rattle.vlog_parse.proofs.LoopLemmas.{behind, before_none, one_more}

abbrev ArmOf : Type 0
ArmOf = Arm (Block (List Item))

module _ (room : ℕ) (inner : Reader Item) where
  -- a case item, where it is known whether `default` stands here, and whether it may
  abbrev pub one_arm : Bool → Bool → Reader ArmOf
  one_arm other may = if other then (if may then default_arm room inner else stop Wrong) else labelled_arm room inner

  pub arms_begin : (ls : List Lexeme) → arms room inner ls ≡ behind [] (arms_from room inner (suc (length ls)) true ls)
  unfolding arms
  arms_begin ls = sym (before_none (arms_from room inner (suc (length ls)) true ls).0 (arms_from room inner (suc (length ls)) true ls).1)

  by_end : (other may : Bool) (p q : Reader (List ArmOf)) (xs : List ArmOf) (ls : List Lexeme) → sees_word (codes "endcase") (first ls) ≡ true
      → behind xs (arms_by room inner true other may p q ls) ≡ (Ok (xs ++ []), drop 1 ls)
  unfolding arms_by expect_word
  by_end other may p q xs ls seen = rw seen

  pub arms_end : (n : ℕ) (may : Bool) (xs : List ArmOf) (ls : List Lexeme) → sees_word (codes "endcase") (first ls) ≡ true
      → behind xs (arms_from room inner (suc n) may ls) ≡ (Ok (xs ++ []), drop 1 ls)
  unfolding arms_from
  arms_end n may xs ls seen = rw seen (by_end (sees_word (codes "default") (first ls)) may (arms_from room inner n false) (arms_from room inner n may) xs ls seen)

  by_one : (other may : Bool) (n : ℕ) (xs : List ArmOf) (ls : List Lexeme) (a : ArmOf) (mid : List Lexeme) → one_arm other may ls ≡ (Ok a, mid)
      → behind xs (arms_by room inner false other may (arms_from room inner n false) (arms_from room inner n may) ls) ≡ behind (xs ++ a ∷ []) (arms_from room inner n (if may then not other else false) mid)
  unfolding arms_by arm_then
  by_one true true n xs ls a mid read = rw read (one_more xs a (arms_from room inner n false mid))
  by_one true false n xs ls a mid read = let never = ap (λ o. o.0) read in cc
  by_one false true n xs ls a mid read = rw read (one_more xs a (arms_from room inner n true mid))
  by_one false false n xs ls a mid read = rw read (one_more xs a (arms_from room inner n false mid))

  by_broken : (other may : Bool) (n : ℕ) (xs : List ArmOf) (ls : List Lexeme) (why : Stuck) (mid : List Lexeme) → one_arm other may ls ≡ (Err why, mid)
      → behind xs (arms_by room inner false other may (arms_from room inner n false) (arms_from room inner n may) ls) ≡ (Err why, mid)
  unfolding arms_by arm_then
  by_broken true true n xs ls why mid read = rw read
  by_broken true false n xs ls why mid read = ap (λ o. behind xs (onward o.0 o.1 (λ a. stop Wrong))) read
  by_broken false true n xs ls why mid read = rw read
  by_broken false false n xs ls why mid read = rw read

  pub arms_one : (n : ℕ) (other may : Bool) (xs : List ArmOf) (ls : List Lexeme) (a : ArmOf) (mid : List Lexeme)
      → sees_word (codes "endcase") (first ls) ≡ false → other ≡ sees_word (codes "default") (first ls) → one_arm other may ls ≡ (Ok a, mid)
      → behind xs (arms_from room inner (suc n) may ls) ≡ behind (xs ++ a ∷ []) (arms_from room inner n (if may then not other else false) mid)
  unfolding arms_from
  arms_one n other may xs ls a mid unseen is read = rw (unseen, ← is) (by_one other may n xs ls a mid read)

  pub arms_broken : (n : ℕ) (other may : Bool) (xs : List ArmOf) (ls : List Lexeme) (why : Stuck) (mid : List Lexeme)
      → sees_word (codes "endcase") (first ls) ≡ false → other ≡ sees_word (codes "default") (first ls) → one_arm other may ls ≡ (Err why, mid)
      → behind xs (arms_from room inner (suc n) may ls) ≡ (Err why, mid)
  unfolding arms_from
  arms_broken n other may xs ls why mid unseen is read = rw (unseen, ← is) (by_broken other may n xs ls why mid read)
