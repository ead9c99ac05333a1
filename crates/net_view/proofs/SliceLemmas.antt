-- Serves specs/Slice.antt: nodes with all that they read are a net, and keep their values.
use Rattle.std.proofs.Common.{◌≡◌, ◌⊎◌, inl, inr, ℕ, ◌+◌, ◌<◌, ◌^◌, List, [], ◌∷◌, ◌++◌, length, map, slice_index, All, Contains, sym, subst, ap, refl, ◌∙◌, arith}
use Rattle.std.specs.List.Sorted.{IsStrictlyIncreasing}
use Rattle.std.proofs.lemmas.Bool.{cases_lt}
use Rattle.std.proofs.lemmas.List.{get_or-map, get_or_default, length-map, length-append, get_or_append_left, get_or_push}
use Rattle.std.proofs.lemmas.Option.{slice_get_within, slice_get_cases, slice_get-get_or, get_or_from_slice_get}
use Rattle.rdc_tern.specs.declared.value.Tern.{Tern}
use Rattle.rdc_tern.specs.declared.value.Tern.TheVariants.{Unsettled}
use Rattle.net_view.specs.declared.gate.Gate.TheVariants.{Const, Source, Not, And, Or, Xor, Pick, Lift}
use Rattle.net_view.specs.View.{Numbered, Reads, renumbered, IsGateAt, IsNet}
use Rattle.net_view.specs.Values.{State, at, values, gate_value, IsValuation}
use Rattle.net_view.specs.Cone.{InCones, SomeReadsSource, Lists, itself, fan_in, IsFanIn}
use Rattle.net_view.specs.Slice.{in_whole, cut_state, IsCut}
use Rattle.net_view.specs.Due.{Adds, IsSourceAmong, HoldsReads, Cuts}
use Rattle.net_view.proofs.ValuesLemmas.{some, some_is, reads_more, gate_value_same, values_valued, valuation_is}
use Rattle.net_view.proofs.Members.{contains_at, contains_none, rising_once, rising_le, rising_short, All-from_contains}
use Rattle.net_view.proofs.SourceLemmas.{lists_same}

-- what holds of the gate with the whole's numbers holds of the whole's numbers of what the gate reads
reads_back : (P Q : ℕ → Type 0) (n s : ℕ → ℕ) (g : Numbered) → Reads P Q (renumbered n s g) → Reads (λ j. P (n j)) (λ t. Q (s t)) g
reads_back P Q n s (Const b) h = tt
reads_back P Q n s (Source t) h = h
reads_back P Q n s (Not a) h = h
reads_back P Q n s (And a b) h = h
reads_back P Q n s (Or a b) h = h
reads_back P Q n s (Xor a b) h = h
reads_back P Q n s (Pick c a b) h = h
reads_back P Q n s (Lift c a b) h = h

-- two facts of all that is read
reads_both : (P Q R S : ℕ → Type 0) (g : Numbered) → Reads P Q g → Reads R S g → Reads (λ j. P j × R j) (λ t. Q t × S t) g
reads_both P Q R S (Const b) h k = tt
reads_both P Q R S (Source t) h k = (h, k)
reads_both P Q R S (Not a) h k = (h, k)
reads_both P Q R S (And a b) h k = ((h.0, k.0), (h.1, k.1))
reads_both P Q R S (Or a b) h k = ((h.0, k.0), (h.1, k.1))
reads_both P Q R S (Xor a b) h k = ((h.0, k.0), (h.1, k.1))
reads_both P Q R S (Pick c a b) h k = ((h.0, k.0), (h.1, k.1), (h.2, k.2))
reads_both P Q R S (Lift c a b) h k = ((h.0, k.0), (h.1, k.1))

-- a gate with other numbers has the value that it has where those stand
value_back : (x a : State) (n s : ℕ → ℕ) (g : Numbered) → gate_value x a (renumbered n s g) ≡ gate_value (λ t. x (s t)) (λ j. a (n j)) g
value_back x a n s (Const b) = refl
value_back x a n s (Source t) = refl
value_back x a n s (Not i) = refl
value_back x a n s (And i j) = refl
value_back x a n s (Or i j) = refl
value_back x a n s (Xor i j) = refl
value_back x a n s (Pick c i j) = refl
value_back x a n s (Lift c i v) = refl

-- what is a source with the whole's numbers is one
source_back : (n s : ℕ → ℕ) (g : Numbered) (t : ℕ) → renumbered n s g ≡ Source t → (u : ℕ) × (g ≡ Source u) × (s u ≡ t)
source_back n s (Source u) t e = (u, refl, cc)
source_back n s (Const b) t e = cc
source_back n s (Not a) t e = cc
source_back n s (And a b) t e = cc
source_back n s (Or a b) t e = cc
source_back n s (Xor a b) t e = cc
source_back n s (Pick c a b) t e = cc
source_back n s (Lift c a b) t e = cc

-- what is so of each fan-in and of the source is so of all that is read
reads_all : (P Q : ℕ → Type 0) (g : Numbered) → ((j : ℕ) → IsFanIn g j → P j) → ((t : ℕ) → g ≡ Source t → Q t) → Reads P Q g
reads_all P Q (Const b) p q = tt
reads_all P Q (Source t) p q = q t refl
reads_all P Q (Not a) p q = p a refl
reads_all P Q (And a b) p q = (p a (inl refl), p b (inr refl))
reads_all P Q (Or a b) p q = (p a (inl refl), p b (inr refl))
reads_all P Q (Xor a b) p q = (p a (inl refl), p b (inr refl))
reads_all P Q (Pick c a b) p q = (p c (inl refl), p a (inr (inl refl)), p b (inr (inr refl)))
reads_all P Q (Lift c a b) p q = (p c (inl refl), p a (inr refl))

-- the nodes of cones hold what they read
pub cones_hold : (whole : List Numbered) (roots nodes sources : List ℕ) → Lists (InCones whole roots) nodes → Lists (IsSourceAmong whole nodes) sources → HoldsReads whole nodes sources
cones_hold whole roots nodes sources in-cones among n g here is =
    let up = (in-cones.whole n).0 here in
    reads_all (Contains nodes) (Contains sources) g
    (λ j reads. (in-cones.whole j).1 (up.0, up.1, fan_in n j g up.2 is reads))
    (λ t e. (among.whole t).1 (n, here, subst (λ (h : Numbered). IsGateAt whole n h) e is))

-- the sources among the nodes of cones are those that the roots read
pub cones_sources : (whole : List Numbered) (roots nodes sources : List ℕ) → Lists (InCones whole roots) nodes → Lists (IsSourceAmong whole nodes) sources → Lists (SomeReadsSource whole roots) sources
cones_sources whole roots nodes sources in-cones among =
    lists_same (IsSourceAmong whole nodes) (SomeReadsSource whole roots) sources
    (λ s. (
      λ h. let up = (in-cones.whole h.0).0 h.1 in (up.0, up.1, (h.0, up.2, h.2)),
      λ h. (h.2.0, (in-cones.whole h.2.0).1 (h.0, h.1, h.2.1), h.2.2),
    ))
    among

-- the sources of a net are below their count
pub sources_inside : (whole : List Numbered) (count : ℕ) (nodes sources : List ℕ) → IsNet whole count → Lists (IsSourceAmong whole nodes) sources → All (λ s. s < count) sources
sources_inside whole count nodes sources net among =
    All-from_contains (λ s. s < count) sources (λ s h. let there = (among.whole s).0 h in net.lower there.0 (Source s) there.2)

-- the gates of nodes that rise and hold what they read are a net
pub cuts_net : (whole : List Numbered) (count : ℕ) (nodes sources : List ℕ) (gates : List Numbered) → IsNet whole count → IsStrictlyIncreasing nodes → Lists (IsSourceAmong whole nodes) sources
    → Cuts whole nodes sources gates (length nodes) → IsNet gates (length sources)
cuts_net whole count nodes sources gates net rising among cuts =
    let idx = slice_index nodes in
    let src = slice_index sources in
    let gate-of : (k : ℕ) → k < length nodes → (g : Numbered) × IsGateAt gates k g = λ k lt. elim (slice_get_cases gates k).1 [
      | inl here ↦ (here.0, here.2)
      | inr past ↦ absurd (omega (arith, past.0, cuts.each_node))
    ] in
    record {
      lower = λ k g is.
          let k-in : k < length nodes = omega (arith, slice_get_within gates k g is, cuts.each_node) in
          let low = reads_back (λ j. j < idx k) (λ t. t < count) idx src g (net.lower (idx k) (in_whole nodes sources g) (cuts.each_gate k g is)) in
          let both = reads_both (λ j. idx j < idx k) (λ t. src t < count) (λ j. j < length nodes) (λ t. t < length sources) g low (cuts.inside k g is) in
          reads_more (λ j. (idx j < idx k) × (j < length nodes)) (λ t. (src t < count) × (t < length sources)) (λ j. j < k) (λ t. t < length sources) g
          (λ j h. elim (cases_lt j k) [
            | inl lt ↦ lt
            | inr ge ↦ let up = rising_le nodes rising k j ge h.1 in absurd (omega (arith, h.0, up))
          ])
          (λ t h. h.1) both;
      placed = λ s lt.
          let there = (among.whole (src s)).0 (s, lt, get_or_default sources s (src s) 0 lt) in
          let place = contains_at nodes there.0 there.1 in
          let gate = gate-of place.0 place.1 in
          let same : in_whole nodes sources gate.0 ≡ Source (src s) =
          some_is _ _ (sym (cuts.each_gate place.0 gate.0 gate.1) ∙ subst (λ (n : ℕ). IsGateAt whole n (Source (src s))) (sym place.2) there.2) in
          let back = source_back idx src gate.0 (src s) same in
          let u-in : back.0 < length sources = subst (λ (g : Numbered). Reads (λ j. j < length nodes) (λ t. t < length sources) g) back.1 (cuts.inside place.0 gate.0 gate.1) in
          let u-is : back.0 ≡ s = rising_once sources among.ascending back.0 s u-in lt back.2 in
          (place.0, subst (λ (g : Numbered). IsGateAt gates place.0 g) (back.1 ∙ ap (λ (t : ℕ). Source t) u-is) gate.1);
      once = λ j k s at-j at-k.
          let same = net.once (idx j) (idx k) (src s) (cuts.each_gate j (Source s) at-j) (cuts.each_gate k (Source s) at-k) in
          rising_once nodes rising j k (omega (arith, slice_get_within gates j (Source s) at-j, cuts.each_node)) (omega (arith, slice_get_within gates k (Source s) at-k, cuts.each_node)) same;
    }

-- each node keeps its value
pub cuts_values : (whole : List Numbered) (count : ℕ) (nodes sources : List ℕ) (gates : List Numbered) → IsNet whole count → IsNet gates (length sources) → Cuts whole nodes sources gates (length nodes)
    → (state : State) (k : ℕ) → k < length gates → at (values gates (cut_state sources state)) k ≡ at (values whole state) (slice_index nodes k)
cuts_values whole count nodes sources gates net cut-net cuts state k lt =
    let idx = slice_index nodes in
    let src = slice_index sources in
    let vals = values whole state in
    let valued = values_valued whole count state net in
    let cut = map (λ n. at vals n) nodes in
    let cut-at : (j : ℕ) → j < length nodes → at cut j ≡ at vals (idx j) = λ j j-in. get_or-map (λ n. at vals n) nodes j 0 Unsettled j-in in
    let cut-valued : IsValuation gates (cut_state sources state) cut = record {
      whole = length-map nodes (λ n. at vals n) ∙ sym cuts.each_node;
      each = λ i g is.
          let i-in : i < length nodes = omega (arith, slice_get_within gates i g is, cuts.each_node) in
          let same = reads_more (λ j. j < length nodes) (λ t. t < length sources) (λ j. at vals (idx j) ≡ at cut j) (λ t. state (src t) ≡ state (src t)) g (λ j j-in. sym (cut-at j j-in)) (λ t t-in. refl) (cuts.inside i g is) in
          cut-at i i-in ∙ valued.each (idx i) (in_whole nodes sources g) (cuts.each_gate i g is) ∙ value_back state (at vals) idx src g ∙
          gate_value_same (cut_state sources state) (cut_state sources state) (λ j. at vals (idx j)) (at cut) g same;
    } in
    let only = valuation_is gates (length sources) (cut_state sources state) cut cut-net cut-valued in
    ap (λ (vs : List Tern). at vs k) (sym only) ∙ cut-at k (omega (arith, cuts.each_node))

-- one more gate
pub cuts_more : (whole : List Numbered) (nodes sources : List ℕ) (gates : List Numbered) (n : ℕ) (h : Numbered) → Cuts whole nodes sources gates n
    → IsGateAt whole (slice_index nodes n) (in_whole nodes sources h) → Reads (λ j. j < length nodes) (λ s. s < length sources) h → Cuts whole nodes sources (gates ++ h ∷ []) (n + 1)
cuts_more whole nodes sources gates n h before is reads =
    let len : length (gates ++ h ∷ []) ≡ n + 1 = length-append gates (h ∷ []) ∙ ap (λ (k : ℕ). k + 1) before.each_node in
    let cases : (k : ℕ) (g : Numbered) → IsGateAt (gates ++ h ∷ []) k g → IsGateAt gates k g ⊎ ((k ≡ n) × (g ≡ h)) = λ k g at-k.
    let read = get_or_from_slice_get (gates ++ h ∷ []) k g h at-k in
    elim (cases_lt k (length gates)) [
      | inl lt ↦ inl (slice_get-get_or gates k h lt ∙ ap some (sym (get_or_append_left gates (h ∷ []) h k lt) ∙ read))
      | inr ge ↦
          let k-is : k ≡ length gates = omega (arith, slice_get_within (gates ++ h ∷ []) k g at-k, length-append gates (h ∷ [])) in
          inr (k-is ∙ before.each_node, sym read ∙ get_or_push gates h h k (sym k-is))
    ] in
    record {
      each_node = len;
      each_gate = λ k g at-k. elim (cases k g at-k) [
        | inl old ↦ before.each_gate k g old
        | inr here ↦ subst (λ (i : ℕ). IsGateAt whole (slice_index nodes i) (in_whole nodes sources g)) (sym here.0) (subst (λ (f : Numbered). IsGateAt whole (slice_index nodes n) (in_whole nodes sources f)) (sym here.1) is)
      ];
      inside = λ k g at-k. elim (cases k g at-k) [
        | inl old ↦ before.inside k g old
        | inr here ↦ subst (λ (f : Numbered). Reads (λ j. j < length nodes) (λ s. s < length sources) f) (sym here.1) reads
      ];
    }

-- the cones of what is due are those of the roots
pub roots_cones : (whole : List Numbered) (roots due nodes : List ℕ) → Adds (Contains roots) [] due → Lists (InCones whole due) nodes → Lists (InCones whole roots) nodes
roots_cones whole roots due nodes adds lists =
    let to : (r : ℕ) → Contains due r → Contains roots r = λ r h. elim ((adds.each r).0 h) [ inl there ↦ there | inr none ↦ absurd (contains_none r none) ] in
    lists_same (InCones whole due) (InCones whole roots) nodes
    (λ n. (λ h. (h.0, to h.0 h.1, h.2), λ h. (h.0, (adds.each h.0).1 (inl h.1), h.2))) lists

-- a root is among the nodes of its cone
pub root_there : (whole : List Numbered) (roots nodes : List ℕ) → Lists (InCones whole roots) nodes → (r : ℕ) → Contains roots r → Contains nodes r
root_there whole roots nodes lists r h = (lists.whole r).1 (r, h, itself)

-- what a slice promises
pub slice_cut : (whole : List Numbered) (count : ℕ) (gates : List Numbered) (nodes sources : List ℕ) → IsNet whole count → length whole < 2 ^ 32 → count < 2 ^ 32 → IsStrictlyIncreasing nodes
    → All (λ n. n < length whole) nodes → Lists (IsSourceAmong whole nodes) sources → Cuts whole nodes sources gates (length nodes)
    → IsCut (record { whole = whole; whole_sources = count; gates = gates; nodes = nodes; sources = sources })
slice_cut whole count gates nodes sources net few few-sources rising inside among cuts =
    let all = sources_inside whole count nodes sources net among in
    let short = rising_short nodes (length whole) rising inside in
    let sources-short = rising_short sources count among.ascending all in
    record {
      net = cuts_net whole count nodes sources gates net rising among cuts;
      small = omega (arith, cuts.each_node, short);
      each_node = cuts.each_node;
      ascending = rising;
      nodes_inside = inside;
      sources_small = omega (arith, sources-short);
      sources_inside = all;
    }
