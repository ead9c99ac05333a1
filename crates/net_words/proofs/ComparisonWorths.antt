-- What gates of comparisons are worth.
use Rattle.std.proofs.Common.{◌≡◌, ℕ, false, List, [], ◌∷◌, map, refl, ◌∙◌, ap}
use Rattle.rdc_tern.specs.declared.value.Tern.{Tern}
use Rattle.rdc_tern.specs.Kleene.{not_of, and_of, or_of, xor_of}
use Rattle.rdc_tern.specs.Words as word
use Rattle.net_view.specs.declared.gate.Gate.TheVariants.{Const, Not, And, Or}
use Rattle.net_view.specs.View.{Numbered}
use Rattle.net_view.specs.Values.{State, at, IsValuation}
use Rattle.net_words.specs.declared.bits.Bitwise.TheVariants as op
use Rattle.net_words.specs.Builds.{Gives}
use Rattle.net_words.specs.Words.{each_of}
use Rattle.net_words.specs.Comparisons.{eq, lt_bit, lt_from, lt, top_inverted, lt_signed}
use Rattle.net_words.proofs.WorthLemmas.{gives_return, gives_then, gives_put, gives_more}
use Rattle.net_words.proofs.BitWorths.{xnor_gives}
use Rattle.net_words.proofs.WordWorths.{each_gives, all_gives}

equal_each : (x y : List Tern) → word.all_of (each_of op.Xnor x y) ≡ word.eq_of x y
equal_each [] y = refl
equal_each (a ∷ x) [] = refl
equal_each (a ∷ x) (b ∷ y) = ap (and_of (not_of (xor_of a b))) (equal_each x y)

module _ (whole : List Numbered) (state : State) (found : List Tern) (valued : IsValuation whole state found) where
  pub eq_gives : (a b : List ℕ) → Gives whole (eq a b) (λ n. at found n ≡ word.eq_of (map (at found) a) (map (at found) b))
  unfolding eq
  eq_gives a b =
      gives_then whole _ _ _ _ (each_gives whole state found valued op.Xnor a b) (λ same.
      gives_more whole _ _ _ (all_gives whole state found valued same) (λ n n-is same-is.
      n-is ∙ ap word.all_of same-is ∙ equal_each (map (at found) a) (map (at found) b)))

  lt_bit_gives : (so_far a b : ℕ) → Gives whole (lt_bit so_far a b) (λ n. at found n ≡ word.lt_bit (at found so_far) (at found a) (at found b))
  unfolding lt_bit
  lt_bit_gives so_far a b =
      gives_then whole _ _ _ _ (gives_put whole state found valued (Not a)) (λ other.
      gives_then whole _ _ _ _ (gives_put whole state found valued (And other b)) (λ less.
      gives_then whole _ _ _ _ (xnor_gives whole state found valued a b) (λ same.
      gives_then whole _ _ _ _ (gives_put whole state found valued (And same so_far)) (λ kept.
      gives_more whole _ _ _ (gives_put whole state found valued (Or less kept)) (λ n n-is kept-is same-is less-is other-is.
      n-is ∙ (λ j. or_of ((less-is ∙ ap (λ v. and_of v (at found b)) other-is) j) ((kept-is ∙ ap (λ v. and_of v (at found so_far)) same-is) j)))))))

  lt_from_gives : (so_far : ℕ) (x y : List ℕ) → Gives whole (lt_from so_far x y) (λ n. at found n ≡ word.lt_from (at found so_far) (map (at found) x) (map (at found) y))
  unfolding lt_from
  lt_from_gives so_far [] y = gives_return whole _ so_far refl
  lt_from_gives so_far (a ∷ x) [] = gives_return whole _ so_far refl
  lt_from_gives so_far (a ∷ x) (b ∷ y) =
      gives_then whole _ _ _ _ (lt_bit_gives so_far a b) (λ n.
      gives_more whole _ _ _ (lt_from_gives n x y) (λ last last-is n-is. last-is ∙ ap (λ v. word.lt_from v (map (at found) x) (map (at found) y)) n-is))

  pub lt_gives : (a b : List ℕ) → Gives whole (lt a b) (λ n. at found n ≡ word.lt_of (map (at found) a) (map (at found) b))
  unfolding lt
  lt_gives a b =
      gives_then whole _ _ _ _ (gives_put whole state found valued (Const false)) (λ low.
      gives_more whole _ _ _ (lt_from_gives low a b) (λ n n-is low-is. n-is ∙ ap (λ v. word.lt_from v (map (at found) a) (map (at found) b)) low-is))

  top_inverted_gives : (w : List ℕ) → Gives whole (top_inverted w) (λ made. map (at found) made ≡ word.top_inverted (map (at found) w))
  unfolding top_inverted
  top_inverted_gives [] = gives_return whole _ [] refl
  top_inverted_gives (a ∷ []) = gives_then whole _ _ _ _ (gives_put whole state found valued (Not a)) (λ n. gives_return whole _ (n ∷ []) (λ n-is j. n-is j ∷ []))
  top_inverted_gives (a ∷ b ∷ w) = gives_then whole _ _ _ _ (top_inverted_gives (b ∷ w)) (λ rest. gives_return whole _ (a ∷ rest) (λ rest-is j. at found a ∷ rest-is j))

  pub lt_signed_gives : (a b : List ℕ) → Gives whole (lt_signed a b) (λ n. at found n ≡ word.lt_signed_of (map (at found) a) (map (at found) b))
  unfolding lt_signed
  lt_signed_gives a b =
      gives_then whole _ _ _ _ (top_inverted_gives a) (λ left.
      gives_then whole _ _ _ _ (top_inverted_gives b) (λ right.
      gives_more whole _ _ _ (lt_gives left right) (λ n n-is right-is left-is. n-is ∙ (λ j. word.lt_of (left-is j) (right-is j)))))
