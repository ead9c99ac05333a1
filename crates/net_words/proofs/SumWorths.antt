-- What gates of sums are worth.
use Rattle.std.proofs.Common.{◌≡◌, ℕ, ◌+◌, Bool, true, false, List, [], ◌∷◌, map, length, replicate, refl, sym, ◌∙◌, ap}
use Rattle.std.proofs.lemmas.List.{length-map}
use Rattle.rdc_tern.proofs.ShiftSteps.{length-raised}
use Rattle.rdc_tern.specs.declared.value.Tern.{Tern}
use Rattle.rdc_tern.specs.declared.value.Tern.TheVariants.{Zero}
use Rattle.rdc_tern.specs.Kleene.{and_of, or_of, xor_of}
use Rattle.rdc_tern.specs.Words as word
use Rattle.rdc_tern.specs.Words.{sum_of, sum_bit, carry_of}
use Rattle.net_view.specs.declared.gate.Gate.TheVariants.{Const, And, Or, Xor}
use Rattle.net_view.specs.View.{Numbered}
use Rattle.net_view.specs.Values.{State, at, IsValuation}
use Rattle.net_words.specs.Builds.{Gives}
use Rattle.net_words.specs.Words.{each_of}
use Rattle.net_words.specs.Shifts.{raised}
use Rattle.net_words.specs.declared.bits.Bitwise.TheVariants as op
use Rattle.net_words.specs.Sums.{carry_from, carry_if, full_adder, follows, sum, add, sub, neg}
use Rattle.net_words.specs.Products.{row, rows, mul}
use Rattle.net_words.proofs.WorthLemmas.{gives_return, gives_then, gives_put, gives_more}
use Rattle.net_words.proofs.WordWorths.{inverted_gives, each_gives}
use Rattle.net_words.proofs.ShiftWorths.{raised_values}
use Rattle.rdc_tern.specs.Shifts as shift

-- the carry behind the last bit is of no account
sum_same : (v : ℕ → Tern) (c d : Tern) (x y : List ℕ) → (follows x y ≡ true → c ≡ d) → sum_of c (map v x) (map v y) ≡ sum_of d (map v x) (map v y)
sum_same v c d [] y same = refl
sum_same v c d (a ∷ x) [] same = refl
sum_same v c d (a ∷ x) (b ∷ y) same = ap (λ e. sum_of e (map v (a ∷ x)) (map v (b ∷ y))) (same refl)

values_alike : (v : ℕ → Tern) (low : ℕ) (w : List ℕ) → v low ≡ Zero → map v (replicate (length w) low) ≡ word.zeros (map v w)
values_alike v low [] is = refl
values_alike v low (a ∷ w) is = λ j. is j ∷ values_alike v low w is j

-- each bit AND one bit
masked_is : (v : ℕ → Tern) (bit : ℕ) (x : List Tern) → each_of op.And x (map v (replicate (length x) bit)) ≡ word.masked (v bit) x
masked_is v bit [] = refl
masked_is v bit (a ∷ x) = ap (λ t. and_of a (v bit) ∷ t) (masked_is v bit x)

part_is : (v : ℕ → Tern) (low i bit : ℕ) (a : List ℕ) → v low ≡ Zero → each_of op.And (map v (raised low i a)) (map v (replicate (length a) bit)) ≡ word.masked (v bit) (shift.raised Zero i (map v a))
part_is v low i bit a low-is =
    let up : map v (raised low i a) ≡ shift.raised Zero i (map v a) = raised_values v low i a ∙ ap (λ z. shift.raised z i (map v a)) low-is in
    let wide : length a ≡ length (shift.raised Zero i (map v a)) = sym (length-raised Zero i (map v a) ∙ length-map a v) in
    (λ j. each_of op.And (up j) (map v (replicate (wide j) bit))) ∙ masked_is v bit (shift.raised Zero i (map v a))

module _ (whole : List Numbered) (state : State) (found : List Tern) (valued : IsValuation whole state found) where
  carry_from_gives : (c a b differs : ℕ) → Gives whole (carry_from c a b differs) (λ n. at found n ≡ or_of (and_of (at found a) (at found b)) (and_of (at found c) (at found differs)))
  unfolding carry_from
  carry_from_gives c a b differs =
      gives_then whole _ _ _ _ (gives_put whole state found valued (And a b)) (λ both.
      gives_then whole _ _ _ _ (gives_put whole state found valued (And c differs)) (λ passed.
      gives_more whole _ _ _ (gives_put whole state found valued (Or both passed)) (λ n n-is passed-is both-is. n-is ∙ (λ j. or_of (both-is j) (passed-is j)))))

  carry_if_gives : (more : Bool) (c a b differs : ℕ)
      → Gives whole (carry_if more c a b differs) (λ n. more ≡ true → at found n ≡ or_of (and_of (at found a) (at found b)) (and_of (at found c) (at found differs)))
  unfolding carry_if
  carry_if_gives true c a b differs = gives_more whole _ _ _ (carry_from_gives c a b differs) (λ n n-is more. n-is)
  carry_if_gives false c a b differs = gives_return whole _ c (λ more. absurd (cc))

  full_adder_gives : (more : Bool) (c a b : ℕ)
      → Gives whole (full_adder more c a b) (λ p. (at found p.0 ≡ sum_bit (at found c) (at found a) (at found b)) × (more ≡ true → at found p.1 ≡ carry_of (at found c) (at found a) (at found b)))
  unfolding full_adder
  full_adder_gives more c a b =
      gives_then whole _ _ _ _ (gives_put whole state found valued (Xor a b)) (λ differs.
      gives_then whole _ _ _ _ (gives_put whole state found valued (Xor differs c)) (λ bit.
      gives_then whole _ _ _ _ (carry_if_gives more c a b differs) (λ carry.
      gives_return whole _ (bit, carry) (λ carry-is bit-is differs-is. (
        bit-is ∙ ap (λ d. xor_of d (at found c)) differs-is,
        λ more-is. carry-is more-is ∙ ap (λ d. or_of (and_of (at found a) (at found b)) (and_of (at found c) d)) differs-is,
      )))))

  pub sum_gives : (c : ℕ) (x y : List ℕ) → Gives whole (sum c x y) (λ made. map (at found) made ≡ sum_of (at found c) (map (at found) x) (map (at found) y))
  unfolding sum
  sum_gives c [] y = gives_return whole _ [] refl
  sum_gives c (a ∷ x) [] = gives_return whole _ [] refl
  sum_gives c (a ∷ x) (b ∷ y) =
      gives_then whole _ _ _ _ (full_adder_gives (follows x y) c a b) (λ p.
      gives_then whole _ _ _ _ (sum_gives p.1 x y) (λ rest.
      gives_return whole _ (p.0 ∷ rest) (λ rest-is p-is j.
      p-is.0 j ∷ (rest-is ∙ sum_same (at found) (at found p.1) (carry_of (at found c) (at found a) (at found b)) x y p-is.1) j)))

  pub add_gives : (a b : List ℕ) → Gives whole (add a b) (λ made. map (at found) made ≡ word.add_of (map (at found) a) (map (at found) b))
  unfolding add
  add_gives a b =
      gives_then whole _ _ _ _ (gives_put whole state found valued (Const false)) (λ carry.
      gives_more whole _ _ _ (sum_gives carry a b) (λ made made-is carry-is. made-is ∙ ap (λ c. sum_of c (map (at found) a) (map (at found) b)) carry-is))

  pub sub_gives : (a b : List ℕ) → Gives whole (sub a b) (λ made. map (at found) made ≡ word.sub_of (map (at found) a) (map (at found) b))
  unfolding sub
  sub_gives a b =
      gives_then whole _ _ _ _ (inverted_gives whole state found valued b) (λ other.
      gives_then whole _ _ _ _ (gives_put whole state found valued (Const true)) (λ carry.
      gives_more whole _ _ _ (sum_gives carry a other) (λ made made-is carry-is other-is. made-is ∙ (λ j. sum_of (carry-is j) (map (at found) a) (other-is j)))))

  pub neg_gives : (a : List ℕ) → Gives whole (neg a) (λ made. map (at found) made ≡ word.neg_of (map (at found) a))
  unfolding neg
  neg_gives a =
      gives_then whole _ _ _ _ (gives_put whole state found valued (Const false)) (λ zero.
      gives_more whole _ _ _ (sub_gives (replicate (length a) zero) a) (λ made made-is zero-is.
      made-is ∙ ap (λ z. word.sub_of z (map (at found) a)) (values_alike (at found) zero a zero-is)))

  row_gives : (low i bit : ℕ) (so_far a : List ℕ)
      → Gives whole (row low i bit so_far a) (λ made. at found low ≡ Zero → map (at found) made ≡ word.add_of (map (at found) so_far) (word.masked (at found bit) (shift.raised Zero i (map (at found) a))))
  unfolding row
  row_gives low i bit so_far a =
      gives_then whole _ _ _ _ (each_gives whole state found valued op.And (raised low i a) (replicate (length a) bit)) (λ part.
      gives_more whole _ _ _ (sum_gives low so_far part) (λ made made-is part-is low-is.
      made-is ∙ (λ j. sum_of (low-is j) (map (at found) so_far) ((part-is ∙ part_is (at found) low i bit a low-is) j))))

  rows_gives : (low : ℕ) (so_far a : List ℕ) (i : ℕ) (b : List ℕ)
      → Gives whole (rows low so_far a i b) (λ made. at found low ≡ Zero → map (at found) made ≡ word.products_of (map (at found) so_far) (map (at found) a) i (map (at found) b))
  unfolding rows
  rows_gives low so_far a i [] = gives_return whole _ so_far (λ low-is. refl)
  rows_gives low so_far a i (bit ∷ b) =
      gives_then whole _ _ _ _ (row_gives low i bit so_far a) (λ next.
      gives_more whole _ _ _ (rows_gives low next a (i + 1) b) (λ made made-is next-is low-is.
      made-is low-is ∙ ap (λ t. word.products_of t (map (at found) a) (i + 1) (map (at found) b)) (next-is low-is)))

  pub mul_gives : (a b : List ℕ) → Gives whole (mul a b) (λ made. map (at found) made ≡ word.mul_of (map (at found) a) (map (at found) b))
  unfolding mul
  mul_gives a b =
      gives_then whole _ _ _ _ (gives_put whole state found valued (Const false)) (λ low.
      gives_more whole _ _ _ (rows_gives low (replicate (length a) low) a 0 b) (λ made made-is low-is.
      made-is low-is ∙ ap (λ z. word.products_of z (map (at found) a) 0 (map (at found) b)) (values_alike (at found) low a low-is)))
