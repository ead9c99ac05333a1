-- What gates of words are worth: bit by bit, and over all bits.
use Rattle.std.proofs.Common.{◌≡◌, ℕ, Bool, true, false, List, [], ◌∷◌, map, refl, sym, ◌∙◌, ap, rules}
use Rattle.rdc_tern.specs.declared.value.Tern.{Tern}
use Rattle.rdc_tern.specs.declared.value.Tern.TheVariants.{Zero, One}
use Rattle.rdc_tern.specs.Kleene.{and_of, or_of, xor_of}
use Rattle.rdc_tern.specs.Shifts.{select_of}
use Rattle.rdc_tern.specs.Words as word
use Rattle.net_view.specs.declared.gate.Gate.TheVariants.{Const, Not}
use Rattle.net_view.specs.View.{Numbered}
use Rattle.net_view.specs.Values.{State, at, settled, IsValuation}
use Rattle.net_words.specs.declared.bits.Bitwise.{Bitwise}
use Rattle.net_words.specs.declared.bits.Bitwise.TheVariants as op
use Rattle.net_words.specs.Builds.{Gives}
use Rattle.net_words.specs.Words.{inverted, each, select, reduced_from, reduced, any, all, parity, bit_of, each_of}
use Rattle.net_words.proofs.WorthLemmas.{gives_return, gives_then, gives_put, gives_more}
use Rattle.net_words.proofs.BitWorths.{bit_gives, mux_gives}

or_none : (a : Tern) → or_of a Zero ≡ a
or_none a = search rules

and_none : (a : Tern) → and_of a One ≡ a
and_none a = search rules

xor_none : (a : Tern) → xor_of a Zero ≡ a
xor_none a = search rules

or_chain : (a b c : Tern) → or_of (or_of a b) c ≡ or_of a (or_of b c)
or_chain a b c = search rules

and_chain : (a b c : Tern) → and_of (and_of a b) c ≡ and_of a (and_of b c)
and_chain a b c = search rules

xor_chain : (a b c : Tern) → xor_of (xor_of a b) c ≡ xor_of a (xor_of b c)
xor_chain a b c = search rules

-- an operation over all bits from the last on, of none a constant
pub record IsOver (o : Bitwise) (none : Bool) (over : List Tern → Tern) : Type 0 where
  pub nothing : over [] ≡ settled none
  pub alone : (a : Tern) → bit_of o a (over []) ≡ a
  pub whole : (a : Tern) (w : List Tern) → over (a ∷ w) ≡ bit_of o a (over w)
  pub chain : (a b c : Tern) → bit_of o (bit_of o a b) c ≡ bit_of o a (bit_of o b c)

any_over : IsOver op.Or false word.any_of
any_over = record { nothing = refl; alone = or_none; whole = λ a w. refl; chain = or_chain }

all_over : IsOver op.And true word.all_of
all_over = record { nothing = refl; alone = and_none; whole = λ a w. refl; chain = and_chain }

parity_over : IsOver op.Xor false word.parity_of
parity_over = record { nothing = refl; alone = xor_none; whole = λ a w. refl; chain = xor_chain }

module _ (whole : List Numbered) (state : State) (found : List Tern) (valued : IsValuation whole state found) where
  pub inverted_gives : (w : List ℕ) → Gives whole (inverted w) (λ made. map (at found) made ≡ word.inverted (map (at found) w))
  unfolding inverted
  inverted_gives [] = gives_return whole _ [] refl
  inverted_gives (a ∷ w) =
      gives_then whole _ _ _ _ (gives_put whole state found valued (Not a)) (λ n.
      gives_then whole _ _ _ _ (inverted_gives w) (λ rest.
      gives_return whole _ (n ∷ rest) (λ rest-is n-is j. n-is j ∷ rest-is j)))

  pub each_gives : (o : Bitwise) (x y : List ℕ) → Gives whole (each o x y) (λ made. map (at found) made ≡ each_of o (map (at found) x) (map (at found) y))
  unfolding each
  each_gives o [] y = gives_return whole _ [] refl
  each_gives o (a ∷ x) [] = gives_return whole _ [] refl
  each_gives o (a ∷ x) (b ∷ y) =
      gives_then whole _ _ _ _ (bit_gives whole state found valued o a b) (λ n.
      gives_then whole _ _ _ _ (each_gives o x y) (λ rest.
      gives_return whole _ (n ∷ rest) (λ rest-is n-is j. n-is j ∷ rest-is j)))

  pub select_gives : (s : ℕ) (x y : List ℕ) → Gives whole (select s x y) (λ made. map (at found) made ≡ select_of (at found s) (map (at found) x) (map (at found) y))
  unfolding select
  select_gives s [] y = gives_return whole _ [] refl
  select_gives s (a ∷ x) [] = gives_return whole _ [] refl
  select_gives s (a ∷ x) (b ∷ y) =
      gives_then whole _ _ _ _ (mux_gives whole state found valued s a b) (λ n.
      gives_then whole _ _ _ _ (select_gives s x y) (λ rest.
      gives_return whole _ (n ∷ rest) (λ rest-is n-is j. n-is j ∷ rest-is j)))

  reduced_from_gives : (o : Bitwise) (none : Bool) (over : List Tern → Tern) → IsOver o none over → (so_far : ℕ) (w : List ℕ)
      → Gives whole (reduced_from o so_far w) (λ n. at found n ≡ bit_of o (at found so_far) (over (map (at found) w)))
  unfolding reduced_from
  reduced_from_gives o none over is so_far [] = gives_return whole _ so_far (sym (is.alone (at found so_far)))
  reduced_from_gives o none over is so_far (a ∷ w) =
      gives_then whole _ _ _ _ (bit_gives whole state found valued o so_far a) (λ n.
      gives_more whole _ _ _ (reduced_from_gives o none over is n w) (λ last last-is n-is.
      last-is ∙ ap (λ v. bit_of o v (over (map (at found) w))) n-is ∙ is.chain (at found so_far) (at found a) (over (map (at found) w))
      ∙ ap (bit_of o (at found so_far)) (sym (is.whole (at found a) (map (at found) w)))))

  pub reduced_gives : (o : Bitwise) (none : Bool) (over : List Tern → Tern) → IsOver o none over → (w : List ℕ) → Gives whole (reduced o none w) (λ n. at found n ≡ over (map (at found) w))
  unfolding reduced
  reduced_gives o none over is [] = gives_more whole _ _ _ (gives_put whole state found valued (Const none)) (λ n n-is. n-is ∙ sym is.nothing)
  reduced_gives o none over is (a ∷ w) =
      gives_more whole _ _ _ (reduced_from_gives o none over is a w) (λ n n-is. n-is ∙ sym (is.whole (at found a) (map (at found) w)))

  pub any_gives : (w : List ℕ) → Gives whole (any w) (λ n. at found n ≡ word.any_of (map (at found) w))
  unfolding any
  any_gives w = reduced_gives op.Or false word.any_of any_over w

  pub all_gives : (w : List ℕ) → Gives whole (all w) (λ n. at found n ≡ word.all_of (map (at found) w))
  unfolding all
  all_gives w = reduced_gives op.And true word.all_of all_over w

  pub parity_gives : (w : List ℕ) → Gives whole (parity w) (λ n. at found n ≡ word.parity_of (map (at found) w))
  unfolding parity
  parity_gives w = reduced_gives op.Xor false word.parity_of parity_over w
