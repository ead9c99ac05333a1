-- What gates over single nodes are worth.
use Rattle.std.proofs.Common.{◌≡◌, ℕ, List, ◌∙◌, ap}
use Rattle.rdc_tern.specs.declared.value.Tern.{Tern}
use Rattle.rdc_tern.specs.Kleene.{not_of, and_of, or_of, xor_of, mux_of}
use Rattle.net_view.specs.declared.gate.Gate.TheVariants.{Not, And, Or, Xor}
use Rattle.net_view.specs.View.{Numbered}
use Rattle.net_view.specs.Values.{State, at, IsValuation}
use Rattle.net_words.specs.declared.bits.Bitwise.{Bitwise}
use Rattle.net_words.specs.declared.bits.Bitwise.TheVariants as op
use Rattle.net_words.specs.Builds.{Gives}
use Rattle.net_words.specs.Bits.{xnor, bit, mux}
use Rattle.net_words.specs.Words.{bit_of}
use Rattle.net_words.proofs.WorthLemmas.{gives_then, gives_put, gives_more}

module _ (whole : List Numbered) (state : State) (found : List Tern) (valued : IsValuation whole state found) where
  pub xnor_gives : (a b : ℕ) → Gives whole (xnor a b) (λ n. at found n ≡ not_of (xor_of (at found a) (at found b)))
  unfolding xnor
  xnor_gives a b =
      gives_then whole _ _ _ _ (gives_put whole state found valued (Xor a b)) (λ d.
      gives_more whole _ _ _ (gives_put whole state found valued (Not d)) (λ n is d-is. is ∙ ap not_of d-is))

  pub bit_gives : (o : Bitwise) (a b : ℕ) → Gives whole (bit o a b) (λ n. at found n ≡ bit_of o (at found a) (at found b))
  unfolding bit
  bit_gives op.And a b = gives_put whole state found valued (And a b)
  bit_gives op.Or a b = gives_put whole state found valued (Or a b)
  bit_gives op.Xor a b = gives_put whole state found valued (Xor a b)
  bit_gives op.Xnor a b = xnor_gives a b

  pub mux_gives : (s a b : ℕ) → Gives whole (mux s a b) (λ n. at found n ≡ mux_of (at found s) (at found a) (at found b))
  unfolding mux
  mux_gives s a b =
      gives_then whole _ _ _ _ (gives_put whole state found valued (And s a)) (λ one.
      gives_then whole _ _ _ _ (gives_put whole state found valued (Not s)) (λ other.
      gives_then whole _ _ _ _ (gives_put whole state found valued (And other b)) (λ two.
      gives_more whole _ _ _ (gives_put whole state found valued (Or one two)) (λ n is two-is other-is one-is. is ∙ (λ j. or_of (one-is j) ((two-is ∙ (λ i. and_of (other-is i) (at found b))) j))))))
