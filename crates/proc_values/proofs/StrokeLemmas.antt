-- Serves specs/Targets.antt: strokes so far, and those that are left.
use Rattle.std.proofs.Common.{◌≡◌, ℕ, ◌+◌, ◌-◌, ◌<◌, ◌≤◌, ◌^◌, min, Bool, true, false, if◌then◌else◌, List, [], ◌∷◌, ◌++◌, length, take, drop, get_or, refl, sym, ap, ◌∙◌, arith, Option, None, Some, append-nil, append_assoc}
use Rattle.std.proofs.lemmas.List.{drop_all, drop_more, length-drop, length-take}
use Rattle.std.proofs.lemmas.Bool.{le-leb, lt-leb}
use Rattle.std.proofs.lemmas.Option.{slice_get_past}
use Rattle.vlog_tree.specs.declared.expr.Part.{Part}
use Rattle.vlog_tree.specs.declared.expr.Part.TheVariants.{Fixed, Up, Down}
use Rattle.vlog_const.specs.declared.whole.Whole.{Whole}
use Rattle.rdc_tern.specs.declared.value.Tern.{Tern}
use Rattle.rdc_tern.specs.declared.value.Tern.TheVariants.{One}
use Rattle.design_form.specs.declared.signal.Bounds.{Bounds}
use Rattle.proc_values.specs.declared.stroke.Stroke.{Stroke}
use Rattle.design_form.specs.Signals.{is_down, lowest, width_of}
use Rattle.proc_values.specs.Targets.{place_less, onto, reached, from_start, from_starts, less, fixed_start, at_start, onto_all}

pub from_more : (h : Tern) (r : Bounds) (ns : List ℕ) (n i j : ℕ) (w : List Tern) (d : Tern) (place : Option ℕ) (before after whole : List Stroke) → j < length w → place ≡ reached r ns n i j
    → after ≡ before ++ onto h place (get_or w j d) → before ++ from_start h r ns n i j (drop j w) ≡ whole → after ++ from_start h r ns n i (j + 1) (drop (j + 1) w) ≡ whole
unfolding from_start
from_more h r ns n i j w d place before after whole lt is put left =
    let rest = from_start h r ns n i (j + 1) (drop (j + 1) w) in
    ap (λ (ks : List Stroke). ks ++ rest) put ∙ append_assoc before (onto h place (get_or w j d)) rest
    ∙ ap (λ (p : Option ℕ). before ++ (onto h p (get_or w j d) ++ rest)) is
    ∙ ap (λ (u : List Tern). before ++ from_start h r ns n i j u) (sym (drop_more w j d lt)) ∙ left

pub from_end : (h : Tern) (r : Bounds) (ns : List ℕ) (n i j : ℕ) (w : List Tern) (before whole : List Stroke) → length w ≤ j → before ++ from_start h r ns n i j (drop j w) ≡ whole → before ≡ whole
unfolding from_start
from_end h r ns n i j w before whole past left = sym (append-nil before) ∙ ap (λ (u : List Tern). before ++ from_start h r ns n i j u) (sym (drop_all j w past)) ∙ left

pub starts_more : (hits : List Tern) (r : Bounds) (ns : List ℕ) (n i : ℕ) (w : List Tern) (d : Tern) (before after whole : List Stroke) → i < length hits
    → after ≡ before ++ from_start (get_or hits i d) r ns n i 0 w → before ++ from_starts (drop i hits) r ns n i w ≡ whole → after ++ from_starts (drop (i + 1) hits) r ns n (i + 1) w ≡ whole
unfolding from_starts
starts_more hits r ns n i w d before after whole lt put left =
    let rest = from_starts (drop (i + 1) hits) r ns n (i + 1) w in
    ap (λ (ks : List Stroke). ks ++ rest) put ∙ append_assoc before (from_start (get_or hits i d) r ns n i 0 w) rest
    ∙ ap (λ (u : List Tern). before ++ from_starts u r ns n i w) (sym (drop_more hits i d lt)) ∙ left

pub starts_end : (hits : List Tern) (r : Bounds) (ns : List ℕ) (n i : ℕ) (w : List Tern) (before whole : List Stroke) → length hits ≤ i → before ++ from_starts (drop i hits) r ns n i w ≡ whole → before ≡ whole
unfolding from_starts
starts_end hits r ns n i w before whole past left = sym (append-nil before) ∙ ap (λ (u : List Tern). before ++ from_starts u r ns n i w) (sym (drop_all i hits past)) ∙ left

pub all_more : (ns : List ℕ) (w : List Tern) (i e : ℕ) (d : Tern) (before after whole : List Stroke) → i < length ns → i < length w
    → after ≡ before ++ record { hit = One; bit = get_or ns i e; value = get_or w i d } ∷ [] → before ++ onto_all (drop i ns) (drop i w) ≡ whole → after ++ onto_all (drop (i + 1) ns) (drop (i + 1) w) ≡ whole
unfolding onto_all
all_more ns w i e d before after whole in_ns in_w put left =
    let rest = onto_all (drop (i + 1) ns) (drop (i + 1) w) in
    ap (λ (ks : List Stroke). ks ++ rest) put ∙ append_assoc before (record { hit = One; bit = get_or ns i e; value = get_or w i d } ∷ []) rest
    ∙ (λ k. before ++ onto_all (sym (drop_more ns i e in_ns) k) (sym (drop_more w i d in_w) k)) ∙ left

no_more : (ns : List ℕ) (w : List Tern) → min (length ns) (length w) ≤ 0 → onto_all ns w ≡ []
unfolding onto_all
no_more [] w past = refl
no_more (b ∷ ns) [] past = refl
no_more (b ∷ ns) (v ∷ w) past = absurd (omega (arith, past))

all_past : (ns : List ℕ) (w : List Tern) (i : ℕ) → min (length ns) (length w) ≤ i → onto_all (drop i ns) (drop i w) ≡ []
all_past ns w i past = no_more (drop i ns) (drop i w) (grind (arith, length-drop i ns, length-drop i w, past))

pub all_end : (ns : List ℕ) (w : List Tern) (i : ℕ) (before whole : List Stroke) → min (length ns) (length w) ≤ i → before ++ onto_all (drop i ns) (drop i w) ≡ whole → before ≡ whole
all_end ns w i before whole past left = sym (append-nil before) ∙ ap (λ (u : List Stroke). before ++ u) (sym (all_past ns w i past)) ∙ left

-- ---- starts far above

low_place : (ns : List ℕ) (a b : ℕ) → length ns + b ≤ a → place_less ns a b ≡ None
unfolding place_less
low_place ns a b far = rw (le-leb b a (omega (arith, far))) (slice_get_past ns (a - b) (omega (arith, far)))

high_place : (ns : List ℕ) (a b : ℕ) → a < b → place_less ns a b ≡ None
unfolding place_less
high_place ns a b far = rw (lt-leb b a far) refl

far_place : (r : Bounds) (ns : List ℕ) (n i j : ℕ) → length ns + n ≤ i → width_of r + j ≤ i → reached r ns n i j ≡ None
unfolding reached
far_place r ns n i j low high = by (is_down r)
  where
    by : (down : Bool) → (if down then place_less ns (i + j) (n - 1) else place_less ns (width_of r + j) (i + 1)) ≡ None
    by true = low_place ns (i + j) (n - 1) (omega (arith, low))
    by false = high_place ns (width_of r + j) (i + 1) (omega (arith, high))

far_from : (h : Tern) (r : Bounds) (ns : List ℕ) (n i j : ℕ) (w : List Tern) → length ns + n ≤ i → width_of r + j + length w ≤ i → from_start h r ns n i j w ≡ []
unfolding from_start onto
far_from h r ns n i j [] low high = refl
far_from h r ns n i j (v ∷ w) low high = rw (far_place r ns n i j low (omega (arith, high))) (far_from h r ns n i (j + 1) w low (omega (arith, high)))

far_less : (r : Bounds) (ns : List ℕ) (n a b : ℕ) (w : List Tern) → length ns + n + b ≤ a → width_of r + n + b ≤ a → at_start (less a b) r ns n w ≡ []
unfolding at_start less
far_less r ns n a b w low high = rw (le-leb b a (omega (arith, low))) (far_from One r ns n (a - b) 0 (take n w) (omega (arith, low)) (omega (arith, high, length-take n w)))

none_less : (r : Bounds) (ns : List ℕ) (n a b : ℕ) (w : List Tern) → a < b → at_start (less a b) r ns n w ≡ []
unfolding at_start less
none_less r ns n a b w far = rw (lt-leb b a far) refl

none_at : (r : Bounds) (ns : List ℕ) (n : ℕ) (w : List Tern) → at_start None r ns n w ≡ []
unfolding at_start
none_at r ns n w = refl

-- an index of 2^100 or more, or as far below 0, has no place
pub far_start : (how : Part) (r : Bounds) (ns : List ℕ) (n : ℕ) (e : Whole) (w : List Tern) → 2 ^ 100 ≤ e.magnitude → n < 2 ^ 63 → length ns < 2 ^ 64 → width_of r < 2 ^ 64 → lowest r < 2 ^ 32
    → at_start (fixed_start how r n e) r ns n w ≡ []
unfolding fixed_start
far_start Up r ns n e w big wide few short low = by e.negative
  where
    by : (negative : Bool) → at_start (if negative then less (n - 1) (lowest r + e.magnitude) else less (e.magnitude + (n - 1)) (lowest r)) r ns n w ≡ []
    by true = none_less r ns n (n - 1) (lowest r + e.magnitude) w (omega (arith, big, wide))
    by false = far_less r ns n (e.magnitude + (n - 1)) (lowest r) w (omega (arith, big, wide, few, low)) (omega (arith, big, wide, short, low))
far_start Fixed r ns n e w big wide few short low = by e.negative
  where
    by : (negative : Bool) → at_start (if negative then None else less e.magnitude (lowest r)) r ns n w ≡ []
    by true = none_at r ns n w
    by false = far_less r ns n e.magnitude (lowest r) w (omega (arith, big, wide, few, low)) (omega (arith, big, wide, short, low))
far_start Down r ns n e w big wide few short low = by e.negative
  where
    by : (negative : Bool) → at_start (if negative then None else less e.magnitude (lowest r)) r ns n w ≡ []
    by true = none_at r ns n w
    by false = far_less r ns n e.magnitude (lowest r) w (omega (arith, big, wide, few, low)) (omega (arith, big, wide, short, low))

pub nothing_far : (how : Part) (r : Bounds) (ns : List ℕ) (n : ℕ) (e : Whole) (w : List Tern) (ks : List Stroke) → 2 ^ 100 ≤ e.magnitude → n < 2 ^ 63 → length ns < 2 ^ 64 → width_of r < 2 ^ 64 → lowest r < 2 ^ 32
    → ks ≡ ks ++ at_start (fixed_start how r n e) r ns n w
nothing_far how r ns n e w ks big wide few short low = sym (append-nil ks) ∙ ap (λ (more : List Stroke). ks ++ more) (sym (far_start how r ns n e w big wide few short low))
