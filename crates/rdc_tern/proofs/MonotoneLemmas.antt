-- Serves specs/WordLaws.antt: the order is kept, and so is being settled.
use Rattle.std.proofs.Common.{◌≡◌, List, [], ◌∷◌, refl, ap, inl}
use Rattle.std.specs.List.{AllZip}
use Rattle.std.proofs.lemmas.List.Elements.{All-nil, All-cons, All-head, All-tail}
use Rattle.rdc_tern.specs.declared.value.Tern.{Tern}
use Rattle.rdc_tern.specs.Kleene.{not_of, IsBelow, IsSettled}
use Rattle.rdc_tern.specs.Numbers.{AreSettled}
use Rattle.rdc_tern.specs.WordLaws.{RaisesWords, SettlesWords}
use Rattle.rdc_tern.proofs.KeptLemmas.{IsKept, add_kept, sub_kept, neg_kept, mul_kept, shl_kept, shr_kept, sar_kept, any_kept, all_kept, parity_kept, eq_kept, lt_kept, lt_signed_kept}
use Rattle.rdc_tern.proofs.GateLemmas.{not_below, and_below, or_below, xor_below, zero_settled, one_settled, not_settled, and_settled, or_settled, xor_settled}

below_kept : IsKept IsBelow
below_kept = record {
  low = inl refl;
  high = inl refl;
  inverter = not_below;
  conjunction = λ a a' b b' h i. and_below a a' b b' h i;
  disjunction = λ a a' b b' h i. or_below a a' b b' h i;
  difference = λ a a' b b' h i. xor_below a a' b b' h i;
}

pub words_raise : RaisesWords
words_raise = record {
  sum = add_kept IsBelow below_kept;
  difference = sub_kept IsBelow below_kept;
  negation = neg_kept IsBelow below_kept;
  product = mul_kept IsBelow below_kept;
  left = shl_kept IsBelow below_kept;
  right = shr_kept IsBelow below_kept;
  signed_right = sar_kept IsBelow below_kept;
  some = any_kept IsBelow below_kept;
  every = all_kept IsBelow below_kept;
  odd = parity_kept IsBelow below_kept;
  equal = eq_kept IsBelow below_kept;
  less = lt_kept IsBelow below_kept;
  signed_less = lt_signed_kept IsBelow below_kept;
}

-- one value, and no X
abbrev Same : Tern → Tern → Type 0
Same a b = (b ≡ a) × IsSettled a

same_kept : IsKept Same
same_kept = record {
  low = (refl, zero_settled);
  high = (refl, one_settled);
  inverter = λ a a' h. (ap not_of h.0, not_settled a h.1);
  conjunction = λ a a' b b' h i. (rw (h.0, i.0) refl, and_settled a b h.1 i.1);
  disjunction = λ a a' b b' h i. (rw (h.0, i.0) refl, or_settled a b h.1 i.1);
  difference = λ a a' b b' h i. (rw (h.0, i.0) refl, xor_settled a b h.1 i.1);
}

same_words : (w : List Tern) → AreSettled w → AllZip Same w w
same_words [] h = tt
same_words (a ∷ w) h = ((refl, All-head IsSettled a w h), same_words w (All-tail IsSettled a w h))

settled_words : (w : List Tern) → AllZip Same w w → AreSettled w
settled_words [] h = All-nil IsSettled
settled_words (a ∷ w) h = All-cons IsSettled a w h.0.1 (settled_words w h.1)

pub words_settle : SettlesWords
words_settle = record {
  sum = λ a b h i. settled_words _ (add_kept Same same_kept a a b b (same_words a h) (same_words b i));
  difference = λ a b h i. settled_words _ (sub_kept Same same_kept a a b b (same_words a h) (same_words b i));
  negation = λ a h. settled_words _ (neg_kept Same same_kept a a (same_words a h));
  product = λ a b h i. settled_words _ (mul_kept Same same_kept a a b b (same_words a h) (same_words b i));
  left = λ a b h i. settled_words _ (shl_kept Same same_kept a a b b (same_words a h) (same_words b i));
  right = λ a b h i. settled_words _ (shr_kept Same same_kept a a b b (same_words a h) (same_words b i));
  signed_right = λ a b h i. settled_words _ (sar_kept Same same_kept a a b b (same_words a h) (same_words b i));
  some = λ a h. (any_kept Same same_kept a a (same_words a h)).1;
  every = λ a h. (all_kept Same same_kept a a (same_words a h)).1;
  odd = λ a h. (parity_kept Same same_kept a a (same_words a h)).1;
  equal = λ a b h i. (eq_kept Same same_kept a a b b (same_words a h) (same_words b i)).1;
  less = λ a b h i. (lt_kept Same same_kept a a b b (same_words a h) (same_words b i)).1;
  signed_less = λ a b h i. (lt_signed_kept Same same_kept a a b b (same_words a h) (same_words b i)).1;
}
