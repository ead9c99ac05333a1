-- Serves specs/Rails.antt: the clauses of each kind of sum, one by one.
use Rattle.std.proofs.Common.{◌≡◌, ℕ, List, [], ◌∷◌, ◌++◌, append_assoc, refl, sym, ap, ◌∙◌, ℤ}
use Rattle.std.proofs.lemmas.List.{append-nil}
use Rattle.sat_chain.specs.Clause.{Problem}
use Rattle.tern_cnf.specs.Written.{stated, negated, clause}
use Rattle.tern_cnf.specs.Grown.{with_clauses}
use Rattle.tern_cnf.specs.Rails.{implied_by, implying, choices, is_sum, is_difference}

pub with_more : (k : Problem) (xs ys : List (List ℤ)) → with_clauses (with_clauses k xs) ys ≡ with_clauses k (xs ++ ys)
with_more k xs ys = rw append_assoc refl

pub copy_is : (r a : ℕ) → is_sum r ((a ∷ []) ∷ []) ≡ clause (negated a ∷ stated r ∷ []) ++ clause (stated a ∷ negated r ∷ [])
unfolding implied_by implying choices
copy_is r a = simp append-nil

pub both_is : (r a b : ℕ) → is_sum r ((a ∷ b ∷ []) ∷ []) ≡ clause (negated a ∷ negated b ∷ stated r ∷ []) ++ (clause (stated a ∷ negated r ∷ []) ++ clause (stated b ∷ negated r ∷ []))
unfolding implied_by implying choices
both_is r a b = simp append-nil

pub either_is : (r a b : ℕ) → is_sum r ((a ∷ []) ∷ (b ∷ []) ∷ []) ≡ (clause (negated a ∷ stated r ∷ []) ++ clause (negated b ∷ stated r ∷ [])) ++ clause (stated a ∷ stated b ∷ negated r ∷ [])
unfolding implied_by implying choices
either_is r a b = simp append-nil

pub picked_is : (r s a t b : ℕ) → is_sum r ((s ∷ a ∷ []) ∷ (t ∷ b ∷ []) ∷ []) ≡ (clause (negated s ∷ negated a ∷ stated r ∷ []) ++ clause (negated t ∷ negated b ∷ stated r ∷ []))
    ++ (clause (stated s ∷ stated t ∷ negated r ∷ []) ++ (clause (stated s ∷ stated b ∷ negated r ∷ []) ++ (clause (stated a ∷ stated t ∷ negated r ∷ []) ++ clause (stated a ∷ stated b ∷ negated r ∷ []))))
unfolding implied_by implying choices
picked_is r s a t b = simp append-nil

pub difference_is : (r a a' b b' : ℕ) → is_difference r a a' b b' ≡ (clause (negated a ∷ negated b' ∷ stated r ∷ []) ++ clause (negated a' ∷ negated b ∷ stated r ∷ []))
    ++ (clause (stated a ∷ stated b ∷ negated r ∷ []) ++ clause (stated a' ∷ stated b' ∷ negated r ∷ []))
unfolding implied_by implying
difference_is r a a' b b' = simp append-nil

pub ruleset sums = (with_more, append_assoc, copy_is, both_is, either_is, picked_is, difference_is)
