-- Serves src/strokes.rt: strokes so far, and those that are left; and nodes of strokes, which are there.
use Rattle.std.proofs.Common.{◌≡◌, ℕ, ◌+◌, ◌<◌, ◌≤◌, ◌^◌, min, List, [], ◌∷◌, ◌++◌, All, length, map, take, drop, get_or, refl, sym, ap, ◌∙◌, arith, Option, None, Some, IfSome, append-nil, append_assoc, lt_of_lt_of_le}
use Rattle.std.proofs.lemmas.List.{drop_all, drop_more, length-drop, length-take, length-map}
use Rattle.std.proofs.lemmas.List.Elements.{All-nil, All-cons, All-head, All-tail, All-append, All-take}
use Rattle.vlog_tree.specs.declared.expr.Part.{Part}
use Rattle.vlog_tree.specs.declared.expr.Part.TheVariants.{Up}
use Rattle.vlog_const.specs.declared.whole.Whole.{Whole}
use Rattle.rdc_tern.specs.declared.value.Tern.{Tern}
use Rattle.rdc_tern.specs.declared.value.Tern.TheVariants.{One}
use Rattle.design_form.specs.declared.signal.Bounds.{Bounds}
use Rattle.design_form.specs.Signals.{lowest, width_of}
use Rattle.design_form.specs.Selects.{part_width}
use Rattle.net_words.proofs.WordSteps.{drop_here}
use Rattle.proc_values.specs.declared.stroke.Stroke as values
use Rattle.proc_values.specs.Targets as value
use Rattle.proc_values.specs.Targets.{reached, fixed_start, low_end}
use Rattle.net_exprs.proofs.PickSteps.{some_more}
use Rattle.proc_values.proofs.StrokeLemmas.{far_start}
use Rattle.net_procs.specs.declared.stroke.Stroke.{Stroke}
use Rattle.net_procs.specs.Ready.{IsStroke}
use Rattle.net_procs.specs.Targets.{onto, from_start, from_hit, from_starts, at_start, onto_part, onto_all}

-- ---- what is left

pub from_more : (h : Option ℕ) (r : Bounds) (ns : List ℕ) (n i j : ℕ) (w : List ℕ) (v : ℕ) (place : Option ℕ) (before after whole : List Stroke) → j < length w → v ≡ get_or w j v → place ≡ reached r ns n i j
    → after ≡ before ++ onto h place v → before ++ from_start h r ns n i j (drop j w) ≡ whole → after ++ from_start h r ns n i (j + 1) (drop (j + 1) w) ≡ whole
unfolding from_start
from_more h r ns n i j w v place before after whole lt v-is is put left =
    let rest = from_start h r ns n i (j + 1) (drop (j + 1) w) in
    ap (λ (ks : List Stroke). ks ++ rest) put ∙ append_assoc before (onto h place v) rest
    ∙ ap (λ (p : Option ℕ). before ++ (onto h p v ++ rest)) is
    ∙ ap (λ (u : List ℕ). before ++ from_start h r ns n i j u) (sym (drop_here w j v lt v-is)) ∙ left

pub from_end : (h : Option ℕ) (r : Bounds) (ns : List ℕ) (n i j : ℕ) (w : List ℕ) (before whole : List Stroke) → length w ≤ j → before ++ from_start h r ns n i j (drop j w) ≡ whole → before ≡ whole
unfolding from_start
from_end h r ns n i j w before whole past left = sym (append-nil before) ∙ ap (λ (u : List ℕ). before ++ from_start h r ns n i j u) (sym (drop_all j w past)) ∙ left

pub starts_more : (hits : List (Option ℕ)) (r : Bounds) (ns : List ℕ) (n i : ℕ) (w : List ℕ) (h : Option ℕ) (before after whole : List Stroke) → i < length hits → h ≡ get_or hits i h
    → after ≡ before ++ from_hit h r ns n i w → before ++ from_starts (drop i hits) r ns n i w ≡ whole → after ++ from_starts (drop (i + 1) hits) r ns n (i + 1) w ≡ whole
unfolding from_starts
starts_more hits r ns n i w h before after whole lt h-is put left =
    let rest = from_starts (drop (i + 1) hits) r ns n (i + 1) w in
    ap (λ (ks : List Stroke). ks ++ rest) put ∙ append_assoc before (from_hit h r ns n i w) rest
    ∙ ap (λ (u : List (Option ℕ)). before ++ from_starts u r ns n i w) (sym (drop_more hits i h lt ∙ ap (λ (x : Option ℕ). x ∷ drop (i + 1) hits) (sym h-is))) ∙ left

pub starts_end : (hits : List (Option ℕ)) (r : Bounds) (ns : List ℕ) (n i : ℕ) (w : List ℕ) (before whole : List Stroke) → length hits ≤ i → before ++ from_starts (drop i hits) r ns n i w ≡ whole → before ≡ whole
unfolding from_starts
starts_end hits r ns n i w before whole past left = sym (append-nil before) ∙ ap (λ (u : List (Option ℕ)). before ++ from_starts u r ns n i w) (sym (drop_all i hits past)) ∙ left

pub all_more : (ns w : List ℕ) (i e v : ℕ) (before after whole : List Stroke) → i < length ns → i < length w → v ≡ get_or w i v
    → after ≡ before ++ record { hit = None; bit = get_or ns i e; value = v } ∷ [] → before ++ onto_all (drop i ns) (drop i w) ≡ whole → after ++ onto_all (drop (i + 1) ns) (drop (i + 1) w) ≡ whole
unfolding onto_all
all_more ns w i e v before after whole in_ns in_w v-is put left =
    let rest = onto_all (drop (i + 1) ns) (drop (i + 1) w) in
    ap (λ (ks : List Stroke). ks ++ rest) put ∙ append_assoc before (record { hit = None; bit = get_or ns i e; value = v } ∷ []) rest
    ∙ (λ k. before ++ onto_all (sym (drop_more ns i e in_ns) k) (sym (drop_here w i v in_w v-is) k)) ∙ left

no_more : (ns w : List ℕ) → min (length ns) (length w) ≤ 0 → onto_all ns w ≡ []
unfolding onto_all
no_more [] w past = refl
no_more (b ∷ ns) [] past = refl
no_more (b ∷ ns) (v ∷ w) past = absurd (omega (arith, past))

all_past : (ns w : List ℕ) (i : ℕ) → min (length ns) (length w) ≤ i → onto_all (drop i ns) (drop i w) ≡ []
all_past ns w i past = no_more (drop i ns) (drop i w) (grind (arith, length-drop i ns, length-drop i w, past))

pub all_end : (ns w : List ℕ) (i : ℕ) (before whole : List Stroke) → min (length ns) (length w) ≤ i → before ++ onto_all (drop i ns) (drop i w) ≡ whole → before ≡ whole
all_end ns w i before whole past left = sym (append-nil before) ∙ ap (λ (u : List Stroke). before ++ u) (sym (all_past ns w i past)) ∙ left

-- ---- starts far above: what writes no value writes no node

no_place : (h : Tern) (h' : Option ℕ) (o : Option ℕ) (x : Tern) (y : ℕ) (ks : List values.Stroke) (ks' : List Stroke) → value.onto h o x ++ ks ≡ [] → (ks ≡ [] → ks' ≡ []) → onto h' o y ++ ks' ≡ []
unfolding value.onto onto
no_place h h' None x y ks ks' none rest = rest none
no_place h h' (Some b) x y ks ks' none rest = absurd cc

no_places : (h : Tern) (h' : Option ℕ) (r : Bounds) (ns : List ℕ) (n i j : ℕ) (v : List Tern) (w : List ℕ) → length v ≡ length w → value.from_start h r ns n i j v ≡ [] → from_start h' r ns n i j w ≡ []
unfolding value.from_start from_start
no_places h h' r ns n i j v [] long none = refl
no_places h h' r ns n i j [] (y ∷ w) long none = absurd (omega (arith, long))
no_places h h' r ns n i j (x ∷ v) (y ∷ w) long none =
    no_place h h' (reached r ns n i j) x y (value.from_start h r ns n i (j + 1) v) (from_start h' r ns n i (j + 1) w) none (no_places h h' r ns n i (j + 1) v w (omega (arith, long)))

at_none : (o : Option ℕ) (r : Bounds) (ns : List ℕ) (n : ℕ) (v : List Tern) (w : List ℕ) → length v ≡ length w → value.at_start o r ns n v ≡ [] → at_start o r ns n w ≡ []
unfolding value.at_start at_start
at_none None r ns n v w long none = refl
at_none (Some i) r ns n v w long none = no_places One None r ns n i 0 (take n v) (take n w) (omega (arith, length-take n v, length-take n w, long)) none

pub nothing_far : (how : Part) (r : Bounds) (ns : List ℕ) (n : ℕ) (e : Whole) (w : List ℕ) → 2 ^ 100 ≤ e.magnitude → n < 2 ^ 63 → length ns < 2 ^ 64 → width_of r < 2 ^ 64 → lowest r < 2 ^ 32
    → [] ≡ at_start (fixed_start how r n e) r ns n w
nothing_far how r ns n e w big wide few short low =
    let ones : List Tern = map (λ (k : ℕ). One) w in
    sym (at_none (fixed_start how r n e) r ns n ones w (length-map w (λ (k : ℕ). One)) (far_start how r ns n e ones big wide few short low))

-- ---- nodes

onto_there : (count : ℕ) (h o : Option ℕ) (v : ℕ) → IfSome h (λ k. k < count) → v < count → All (IsStroke count) (onto h o v)
unfolding onto
onto_there count h None v hit inside = All-nil (IsStroke count)
onto_there count h (Some b) v hit inside = All-cons (IsStroke count) (record { hit = h; bit = b; value = v }) [] (record { value = inside; hit = hit }) (All-nil (IsStroke count))

pub start_there : (count : ℕ) (h : Option ℕ) (r : Bounds) (ns : List ℕ) (n i j : ℕ) (w : List ℕ) → IfSome h (λ k. k < count) → All (λ k. k < count) w → All (IsStroke count) (from_start h r ns n i j w)
unfolding from_start
start_there count h r ns n i j [] hit there = All-nil (IsStroke count)
start_there count h r ns n i j (v ∷ w) hit there =
    All-append (IsStroke count) (onto h (reached r ns n i j) v) (from_start h r ns n i (j + 1) w)
    (onto_there count h (reached r ns n i j) v hit (All-head (λ k. k < count) v w there)) (start_there count h r ns n i (j + 1) w hit (All-tail (λ k. k < count) v w there))

hit_there : (count : ℕ) (h : Option ℕ) (r : Bounds) (ns : List ℕ) (n i : ℕ) (w : List ℕ) → IfSome h (λ k. k < count) → All (λ k. k < count) w → All (IsStroke count) (from_hit h r ns n i w)
unfolding from_hit
hit_there count None r ns n i w hit there = All-nil (IsStroke count)
hit_there count (Some h) r ns n i w hit there = start_there count (Some h) r ns n i 0 w hit there

pub starts_there : (count : ℕ) (hits : List (Option ℕ)) (r : Bounds) (ns : List ℕ) (n i : ℕ) (w : List ℕ) → All (λ h. IfSome h (λ k. k < count)) hits → All (λ k. k < count) w → All (IsStroke count) (from_starts hits r ns n i w)
unfolding from_starts
starts_there count [] r ns n i w hits-there there = All-nil (IsStroke count)
starts_there count (h ∷ hits) r ns n i w hits-there there =
    All-append (IsStroke count) (from_hit h r ns n i w) (from_starts hits r ns n (i + 1) w)
    (hit_there count h r ns n i w (All-head (λ x. IfSome x (λ k. k < count)) h hits hits-there) there) (starts_there count hits r ns n (i + 1) w (All-tail (λ x. IfSome x (λ k. k < count)) h hits hits-there) there)

pub fixed_there : (count : ℕ) (o : Option ℕ) (r : Bounds) (ns : List ℕ) (n : ℕ) (w : List ℕ) → All (λ k. k < count) w → All (IsStroke count) (at_start o r ns n w)
unfolding at_start
fixed_there count None r ns n w there = All-nil (IsStroke count)
fixed_there count (Some i) r ns n w there = start_there count None r ns n i 0 (take n w) tt (All-take (λ k. k < count) n w there)

pub part_there : (count : ℕ) (r : Bounds) (ns : List ℕ) (i j : Whole) (w : List ℕ) → All (λ k. k < count) w → All (IsStroke count) (onto_part r ns i j w)
unfolding onto_part
part_there count r ns i j w there = fixed_there count (fixed_start Up r (part_width r i j) (low_end r i j)) r ns (part_width r i j) w there

pub all_there : (count : ℕ) (ns w : List ℕ) → All (λ k. k < count) w → All (IsStroke count) (onto_all ns w)
unfolding onto_all
all_there count [] w there = All-nil (IsStroke count)
all_there count (b ∷ ns) [] there = All-nil (IsStroke count)
all_there count (b ∷ ns) (v ∷ w) there =
    All-cons (IsStroke count) (record { hit = None; bit = b; value = v }) (onto_all ns w) (record { value = All-head (λ k. k < count) v w there; hit = tt }) (all_there count ns w (All-tail (λ k. k < count) v w there))

-- in a net that has grown
later_one : (a b : ℕ) (k : Stroke) → a ≤ b → IsStroke a k → IsStroke b k
later_one a b k longer there = record { value = lt_of_lt_of_le there.value longer; hit = some_more k.hit a b longer there.hit }

pub later : (a b : ℕ) (ks : List Stroke) → a ≤ b → All (IsStroke a) ks → All (IsStroke b) ks
later a b ks longer there i d inside = later_one a b (get_or ks i d) longer (there i d inside)
