-- States that are raised, and states without X.
use Rattle.std.proofs.Common.{◌≡◌, ℕ, zero, suc, ◌<◌, List, [], ◌∷◌, length, map, Option, Some, None, refl, ap, inl, arith}
use Rattle.std.specs.List.{AllZip}
use Rattle.std.proofs.lemmas.List.Elements.{All-nil, All-cons, All-head, All-tail}
use Rattle.rdc_tern.specs.declared.value.Tern.{Tern}
use Rattle.rdc_tern.specs.Kleene.{not_of, IsBelow, IsSettled}
use Rattle.rdc_tern.specs.Numbers.{AreSettled, AreBelow}
use Rattle.rdc_tern.proofs.KeptLemmas.{IsKept}
use Rattle.rdc_tern.proofs.GateLemmas.{not_below, and_below, or_below, xor_below, zero_settled, one_settled, not_settled, and_settled, or_settled, xor_settled}
use Rattle.design_form.specs.declared.parts.Parts.{Parts}
use Rattle.design_form.specs.declared.signal.Signal.{Signal}
use Rattle.design_form.specs.Signals.{bit_names}
use Rattle.design_form.specs.Numbers.{bits_of, number_in, numbers_of, signal_of}
use Rattle.design_form.specs.State.{value_at, seen_as, seen_in}
use Rattle.design_form.specs.ValueLaws.{RaisesValues, SettlesValues}
use Rattle.design_form.proofs.KeptValues.{SeenKept, values_kept, alone_values_kept}
use Rattle.design_form.proofs.NumberLemmas.{number-below, bits-positive}

below_kept : IsKept IsBelow
below_kept = record {
  low = inl refl;
  high = inl refl;
  inverter = not_below;
  conjunction = λ a a' b b' h i. and_below a a' b b' h i;
  disjunction = λ a a' b b' h i. or_below a a' b b' h i;
  difference = λ a a' b b' h i. xor_below a a' b b' h i;
}

value_below : (a b : List Tern) (n : ℕ) → AreBelow a b → IsBelow (value_at a n) (value_at b n)
value_below [] [] n h = inl refl
value_below [] (y ∷ b) n h = absurd h
value_below (x ∷ a) [] n h = absurd h
value_below (x ∷ a) (y ∷ b) zero h = h.0
value_below (x ∷ a) (y ∷ b) (suc n) h = value_below a b n h.1

values_below : (a b : List Tern) (ns : List ℕ) → AreBelow a b → AreBelow (map (value_at a) ns) (map (value_at b) ns)
values_below a b [] h = tt
values_below a b (n ∷ ns) h = (value_below a b n h, values_below a b ns h)

seen_below : (ss : List Signal) (a b : List Tern) (s : Option Signal) → AreBelow a b → SeenKept IsBelow below_kept (seen_as ss a s) (seen_as ss b s)
unfolding seen_as
seen_below ss a b None h = record { range = refl; signed = refl; word = tt }
seen_below ss a b (Some s) h = record { range = refl; signed = refl; word = values_below a b (numbers_of ss s) h }

names_below : (d : Parts) (a b : List Tern) → AreBelow a b → (name : List ℕ) → SeenKept IsBelow below_kept (seen_in d a name) (seen_in d b name)
unfolding seen_in
names_below d a b h name = seen_below d.signals a b (signal_of d.signals name) h

pub values_raise : RaisesValues
values_raise = record {
  alone = λ d e a b h. alone_values_kept IsBelow below_kept (seen_in d a) (seen_in d b) (names_below d a b h) e;
  inside = λ d e c a b h. (values_kept IsBelow below_kept (seen_in d a) (seen_in d b) (names_below d a b h) e).word c;
}

-- one value, and no X
abbrev Same : Tern → Tern → Type 0
Same a b = (b ≡ a) × IsSettled a

same_kept : IsKept Same
same_kept = record {
  low = (refl, zero_settled);
  high = (refl, one_settled);
  inverter = λ a a' h. (ap not_of h.0, not_settled a h.1);
  conjunction = λ a a' b b' h i. (rw (h.0, i.0) refl, and_settled a b h.1 i.1);
  disjunction = λ a a' b b' h i. (rw (h.0, i.0) refl, or_settled a b h.1 i.1);
  difference = λ a a' b b' h i. (rw (h.0, i.0) refl, xor_settled a b h.1 i.1);
}

settled_words : (w : List Tern) → AllZip Same w w → AreSettled w
settled_words [] h = All-nil IsSettled
settled_words (a ∷ w) h = All-cons IsSettled a w h.0.1 (settled_words w h.1)

value_same : (a : List Tern) (n : ℕ) → n < length a → AreSettled a → Same (value_at a n) (value_at a n)
value_same [] n lt h = absurd (omega arith)
value_same (x ∷ a) zero lt h = (refl, All-head IsSettled x a h)
value_same (x ∷ a) (suc n) lt h = value_same a n (omega arith) (All-tail IsSettled x a h)

values_same : (a : List Tern) (names ns : List (List ℕ)) → 0 < length names → length a ≡ length names → AreSettled a → AllZip Same (map (value_at a) (map (number_in names) ns)) (map (value_at a) (map (number_in names) ns))
values_same a names [] some wide h = tt
values_same a names (n ∷ ns) some wide h = (value_same a (number_in names n) (omega (arith, number-below names n some)) h, values_same a names ns some wide h)

same_at : (ss : List Signal) (a : List Tern) → length a ≡ length (bits_of ss) → AreSettled a → (name : List ℕ) (o : Option Signal) → signal_of ss name ≡ o → SeenKept Same same_kept (seen_as ss a o) (seen_as ss a o)
unfolding seen_as
same_at ss a wide h name None e = record { range = refl; signed = refl; word = tt }
same_at ss a wide h name (Some s) e = record { range = refl; signed = refl; word = values_same a (bits_of ss) (bit_names s) (bits-positive ss name s e) wide h }

names_same : (d : Parts) (a : List Tern) → length a ≡ length (bits_of d.signals) → AreSettled a → (name : List ℕ) → SeenKept Same same_kept (seen_in d a name) (seen_in d a name)
unfolding seen_in
names_same d a wide h name = same_at d.signals a wide h name (signal_of d.signals name) refl

pub all_settle : SettlesValues
all_settle = record {
  alone = λ d e a wide h. settled_words _ (alone_values_kept Same same_kept (seen_in d a) (seen_in d a) (names_same d a wide h) e);
  inside = λ d e c a wide h. settled_words _ ((values_kept Same same_kept (seen_in d a) (seen_in d a) (names_same d a wide h) e).word c);
}
