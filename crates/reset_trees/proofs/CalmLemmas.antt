-- Serves specs/Problems.antt: the calms, pin by pin and source by source.
use Rattle.std.proofs.Common.{◌≡◌, ◌⊎◌, inl, inr, ℕ, zero, suc, ◌+◌, ◌<◌, Bool, true, false, List, [], ◌∷◌, ◌++◌, length, get_or, map, take, Option, Some, None, IsSome, Contains, sym, subst, ap, refl, ◌∙◌, arith}
use Rattle.std.specs.Prelude.{slice_get, slice_index, slice_index_or, IfSome}
use Rattle.std.proofs.lemmas.List.Elements.{All-push, Contains-push, Contains-append_left, Contains-get_or}
use Rattle.std.proofs.lemmas.List.Quantifiers.{all_pairs_push}
use Rattle.net_view.specs.declared.flop_net.FlopOf.{FlopOf}
use Rattle.net_view.specs.declared.flop_net.SrcKind.TheVariants.{Port, Flop}
use Rattle.net_view.specs.declared.gate.Gate.TheVariants.{Source}
use Rattle.std.proofs.lemmas.Option.{slice_get_within}
use Rattle.net_view.specs.FlopNet.{Kind, Bit, IsBitAt, IsFlopAt, IsFlopNet}
use Rattle.net_view.specs.View.{Numbered, IsGateAt, IsNet}
use Rattle.net_view.specs.Cone.{Lists}
use Rattle.net_view.proofs.Members.{contains_none}
use Rattle.cons_bind.specs.Names.{Net, IsSourceBit}
use Rattle.cons_bind.specs.declared.bound.BoundForm.{BoundForm}
use Rattle.reset_trees.specs.declared.answers.Marked.{Marked}
use Rattle.reset_trees.specs.declared.answers.Mark.{Mark}
use Rattle.reset_trees.specs.declared.answers.Mark.TheVariants.{Same, Direct, Asked}
use Rattle.reset_trees.specs.declared.trees.PinCone.{PinCone}
use Rattle.reset_trees.specs.Marking.{level_at, AreLevels, IsMarkedCalm, IsRoot, AreCalmsOf}
use Rattle.reset_trees.specs.Problems.{IsCalmMark, IsCalmBy, IsLower, IsBefore}
use Rattle.reset_trees.specs.Reads.{HasPin, PinReads}
use Rattle.reset_trees.specs.Roles.{level_of}
use Rattle.reset_trees.specs.Same.{CanCalm, CalmsTo, IsCalm, IsDirect}
use Rattle.reset_trees.proofs.SameLemmas.{kind_here}
use Rattle.reset_trees.proofs.StepLemmas.{taken_more, taken_before, taken_last}

-- a lower flop, or this one with a source that was looked at
abbrev pub IsPast : ℕ → List ℕ → ℕ → ℕ → Type 0
IsPast n sources f s = (f < n) ⊎ ((f ≡ n) × Contains sources s)

-- a flop of the pins that were looked at
abbrev pub IsListed : List PinCone → ℕ → ℕ → Type 0
IsListed pins f s = Contains (map (λ (p : PinCone). p.flop) pins) f

-- the same flops and sources, said otherwise
pub calms_same : (net : Net) (lines : List BoundForm) (P Q : ℕ → ℕ → Type 0) (calms : List Marked) → ((f s : ℕ) → IsCalm net lines f s → P f s → Q f s) → ((f s : ℕ) → IsCalm net lines f s → Q f s → P f s)
    → AreCalmsOf net lines P calms → AreCalmsOf net lines Q calms
calms_same net lines P Q calms to from before = record {
  ordered = before.ordered;
  each = λ k d lt. let is = before.each k d lt in (is.0, is.1, to (get_or calms k d).flop is.0 is.1.asked is.2);
  whole = λ f s asked q. before.whole f s asked (from f s asked q);
}

pub calms_none : (net : Net) (lines : List BoundForm) (P : ℕ → ℕ → Type 0) → ((f s : ℕ) → P f s → ⊥) → AreCalmsOf net lines P []
calms_none net lines P none = record {
  ordered = λ i j d lt within. absurd (omega arith);
  each = λ k d lt. absurd (omega arith);
  whole = λ f s asked p. absurd (none f s p);
}

lower_is : (a b : Option ℕ) (s t : ℕ) → a ≡ Some s → b ≡ Some t → s < t → IsLower a b
lower_is a b s t e h lt = subst (λ (x : Option ℕ). IsLower x b) (sym e) (subst (λ (y : Option ℕ). IsLower (Some s) y) (sym h) lt)

-- one more calm, behind the others
pub calms_push : (net : Net) (lines : List BoundForm) (P Q : ℕ → ℕ → Type 0) (calms : List Marked) (calm : Marked) (n s : ℕ) → calm.flop ≡ n → IsCalmBy net lines calm s
    → ((f t : ℕ) → P f t → (f < n) ⊎ ((f ≡ n) × (t < s))) → ((f t : ℕ) → P f t → Q f t) → ((f t : ℕ) → Q f t → P f t ⊎ ((f ≡ n) × (t ≡ s))) → Q n s
    → AreCalmsOf net lines P calms → AreCalmsOf net lines Q (calms ++ calm ∷ [])
calms_push net lines P Q calms calm n s is stands behind to from here before = record {
  ordered = all_pairs_push IsBefore calms calm before.ordered (λ k d lt.
      let old = before.each k d lt in
      elim (behind (get_or calms k d).flop old.0 old.2) [
        | inl low ↦ inl (omega (arith, low, is))
        | inr same ↦ inr (same.0 ∙ sym is, lower_is (get_or calms k d).by calm.by old.0 s old.1.by stands.by same.1)
      ]);
  each = All-push (λ (c : Marked). (t : ℕ) × IsCalmBy net lines c t × Q c.flop t) calms calm
      (λ k d lt. let old = before.each k d lt in (old.0, old.1, to (get_or calms k d).flop old.0 old.2))
      (s, stands, subst (λ (f : ℕ). Q f s) (sym is) here);
  whole = λ f t asked q. elim (from f t q) [
    | inl p ↦ let found = before.whole f t asked p in (found.0, Contains-append_left calms (calm ∷ []) found.0 found.1, found.2, found.3)
    | inr same ↦ (calm, Contains-push calms calm, is ∙ sym same.0, stands.by ∙ ap (λ (x : ℕ). Some x) (sym same.1))
  ];
}

-- one more source, which can't calm
pub calms_skip : (net : Net) (lines : List BoundForm) (n : ℕ) (sources : List ℕ) (k s : ℕ) (calms : List Marked) → k < length sources → s ≡ slice_index sources k → (IsCalm net lines n s → ⊥)
    → AreCalmsOf net lines (IsPast n (take k sources)) calms → AreCalmsOf net lines (IsPast n (take (k + 1) sources)) calms
calms_skip net lines n sources k s calms lt is none before =
    calms_same net lines (IsPast n (take k sources)) (IsPast n (take (k + 1) sources)) calms
    (λ f t asked p. elim p [ inl low ↦ inl low | inr old ↦ inr (old.0, taken_before sources k t lt old.1) ])
    (λ f t asked q. elim q [
      | inl low ↦ inl low
      | inr new ↦ elim (taken_more sources k s t lt is new.1) [
        | inl old ↦ inr (new.0, old)
        | inr same ↦ absurd (none (subst (λ (z : ℕ). IsCalm net lines n z) same (subst (λ (z : ℕ). IsCalm net lines z t) new.0 asked)))
      ]
    ])
    before

-- one that can
pub calms_more : (net : Net) (lines : List BoundForm) (n : ℕ) (sources : List ℕ) (k s : ℕ) (calms : List Marked) (calm : Marked) → k < length sources → s ≡ slice_index sources k
    → ((t : ℕ) → Contains (take k sources) t → t < s) → calm.flop ≡ n → IsCalmBy net lines calm s
    → AreCalmsOf net lines (IsPast n (take k sources)) calms → AreCalmsOf net lines (IsPast n (take (k + 1) sources)) (calms ++ calm ∷ [])
calms_more net lines n sources k s calms calm lt is above flop stands before =
    calms_push net lines (IsPast n (take k sources)) (IsPast n (take (k + 1) sources)) calms calm n s flop stands
    (λ f t p. elim p [ inl low ↦ inl low | inr old ↦ inr (old.0, above t old.1) ])
    (λ f t p. elim p [ inl low ↦ inl low | inr old ↦ inr (old.0, taken_before sources k t lt old.1) ])
    (λ f t q. elim q [
      | inl low ↦ inl (inl low)
      | inr new ↦ elim (taken_more sources k s t lt is new.1) [ inl old ↦ inl (inr (new.0, old)) | inr same ↦ inr (new.0, same) ]
    ])
    (inr (refl, taken_last sources k s s lt is refl))
    before

-- what was taken of an ascending list is below the next
pub taken_low : (sources : List ℕ) (k s t : ℕ) → ((i j : ℕ) → i < j → j < length sources → get_or sources i 0 < get_or sources j 0) → k < length sources → s ≡ slice_index sources k → Contains (take k sources) t → t < s
taken_low sources k s t rising lt is h = let at = taken_at sources k t h in let low = rising at.0 k at.1 lt in omega (arith, low, at.2, is)
  where
    taken_at : (xs : List ℕ) (k t : ℕ) → Contains (take k xs) t → (i : ℕ) × (i < k) × (get_or xs i 0 ≡ t)
    taken_at xs zero t h = absurd (none_taken xs t h)
      where
        none_taken : (xs : List ℕ) (t : ℕ) → Contains (take 0 xs) t → ⊥
        none_taken [] t h = contains_none t h
        none_taken (x ∷ xs) t h = contains_none t h
    taken_at [] (suc k) t h = absurd (contains_none t h)
    taken_at (x ∷ xs) (suc k) t (zero, lt, e) = (0, omega arith, e)
    taken_at (x ∷ xs) (suc k) t (suc i, lt, e) = let rest = taken_at xs k t (i, omega (arith, lt), e) in (suc rest.0, omega (arith, rest.1), rest.2)

-- the calms of lower flops, and no source looked at yet
pub calms_start : (net : Net) (lines : List BoundForm) (n : ℕ) (calms : List Marked) → AreCalmsOf net lines (λ f s. f < n) calms → AreCalmsOf net lines (IsPast n []) calms
calms_start net lines n calms before =
    calms_same net lines (λ f s. f < n) (IsPast n []) calms (λ f s asked low. inl low) (λ f s asked p. elim p [ inl low ↦ low | inr old ↦ absurd (contains_none s old.1) ]) before

up_or : (f n : ℕ) → f < n + 1 → (f < n) ⊎ (f ≡ n)
up_or f n lt = grind arith

-- all sources of the pin were looked at
pub calms_end : (net : Net) (lines : List BoundForm) (n : ℕ) (sources : List ℕ) (calms : List Marked) → Lists (PinReads net n) sources → AreCalmsOf net lines (IsPast n sources) calms → AreCalmsOf net lines (λ f s. f < n + 1) calms
calms_end net lines n sources calms lists before =
    calms_same net lines (IsPast n sources) (λ f s. f < n + 1) calms
    (λ f s asked p. elim p [ inl low ↦ omega (arith, low) | inr old ↦ omega (arith, old.0) ])
    (λ f s asked low. elim (up_or f n low) [
      | inl lower ↦ inl lower
      | inr same ↦ inr (same, (lists.whole s).1 (subst (λ (z : ℕ). PinReads net z s) same asked.reads))
    ])
    before

-- a flop that asks about no calm
pub calms_deaf : (net : Net) (lines : List BoundForm) (n : ℕ) (calms : List Marked) → ((s : ℕ) → IsCalm net lines n s → ⊥) → AreCalmsOf net lines (λ f s. f < n) calms → AreCalmsOf net lines (λ f s. f < n + 1) calms
calms_deaf net lines n calms none before =
    calms_same net lines (λ f s. f < n) (λ f s. f < n + 1) calms (λ f s asked low. omega (arith, low))
    (λ f s asked low. elim (up_or f n low) [ inl lower ↦ lower | inr same ↦ absurd (none s (subst (λ (z : ℕ). IsCalm net lines z s) same asked)) ])
    before

flop_same : (a b : FlopOf ℕ) → Some (Flop a) ≡ Some (Flop b) → a ≡ b
flop_same a b e = cc

kind_same : (a b : FlopOf ℕ) → Flop a ≡ Flop b → a ≡ b
kind_same a b e = cc

some_same : (a b : Kind) → Some a ≡ Some b → a ≡ b
some_same a b e = cc

pub no_calm : (net : Net) (lines : List BoundForm) (n s : ℕ) (f : FlopOf ℕ) (kinds : List Kind) → kinds ≡ net.kinds → get_or kinds n Port ≡ Flop f → f.calms ≡ false → IsCalm net lines n s → ⊥
no_calm net lines n s f kinds e is deaf h =
    let low = slice_get_within net.kinds n (Flop h.flop) h.is_flop in
    let here : get_or kinds n Port ≡ Flop h.flop = subst (λ (ks : List Kind). get_or ks n Port ≡ Flop h.flop) (sym e) (kind_here net.kinds n (Flop h.flop) h.is_flop low) in
    let same : f ≡ h.flop = kind_same f h.flop (sym is ∙ here) in
    let bad : true ≡ false = sym h.asked ∙ ap (λ (x : FlopOf ℕ). x.calms) (sym same) ∙ deaf in
    absurd cc

-- the root of a pin is a bit
pub root_inside : (net : Net) (count n : ℕ) (f : FlopOf ℕ) → IsFlopNet net.gates count net.names net.kinds net.bits → IsFlopAt net.kinds n f → HasPin net n → f.root < length net.bits
root_inside net count n f lawful at has =
    let same : has.0 ≡ f = flop_same has.0 f (sym has.1 ∙ at) in
    root_of f.pin (subst (λ (x : FlopOf ℕ). IsSome x.pin) same has.2) (lawful.flops n f at).root
  where
    root_of : (o : Option ℕ) → IsSome o → IfSome o (λ p. (bit : Bit) × IsBitAt net.bits f.root bit × (bit.node ≡ p)) → f.root < length net.bits
    root_of None h r = absurd cc
    root_of (Some p) h r = slice_get_within net.bits f.root r.0 r.1

-- what a pin reads is a source
pub pinned_inside : (net : Net) (count n : ℕ) (sources : List ℕ) (k : ℕ) → IsNet net.gates count → Lists (PinReads net n) sources → k < length sources → slice_index_or sources k 0 < count
pinned_inside net count n sources k lawful lists lt =
    let h = (lists.whole (get_or sources k 0)).0 (Contains-get_or sources k 0 lt) in
    lawful.lower h.reads.0 (Source (get_or sources k 0)) h.reads.2

-- a bit is one source
source_once : (net : Net) (b r s : ℕ) → IsSourceBit net b r → IsSourceBit net b s → r ≡ s
source_once net b r s x y =
    let same : x.bit ≡ y.bit = bit_same x.bit y.bit (sym x.there ∙ y.there) in
    gate_same r s (sym (subst (λ (z : Bit). IsGateAt net.gates z.node (Source r)) same x.node) ∙ y.node)
  where
    bit_same : (a d : Bit) → Some a ≡ Some d → a ≡ d
    bit_same a d e = cc

    gate_same : (m n : ℕ) → (◌≡◌ {A = Option Numbered} (Some (Source m)) (Some (Source n))) → m ≡ n
    gate_same m n e = cc

root_is : (net : Net) (b s : ℕ) (root : Option ℕ) → IsRoot net b root → IsSourceBit net b s → root ≡ Some s
root_is net b s None none is = absurd (none s is)
root_is net b s (Some r) one is = ap (λ (z : ℕ). Some z) (source_once net b r s one is)

mark_same : (m : Mark) {P Q : Type 0} → (P → Q) → (Q → P) → IsCalmMark P m → IsCalmMark Q m
mark_same Same to from h = h
mark_same Direct to from h = to h
mark_same Asked to from h = λ q. h (from q)

-- what a source is, for the pin of flop n that reads it
pub record IsAsked (net : Net) (lines : List BoundForm) (levels : List (Option Bool)) (n s : ℕ) (f : FlopOf ℕ) (root : Option ℕ) (kind : Kind) : Type 0 where
  pub are : AreLevels lines levels
  pub is_flop : IsFlopAt net.kinds n f
  pub asked : f.calms ≡ true
  pub is_root : IsRoot net f.root root
  pub reads : PinReads net n s
  pub is_kind : slice_get net.kinds s ≡ Some kind

pub calm_none : (net : Net) (lines : List BoundForm) (levels : List (Option Bool)) (n s : ℕ) (f : FlopOf ℕ) (root : Option ℕ) (kind : Kind) → IsAsked net lines levels n s f root kind
    → (CanCalm kind (level_at levels s) → ⊥) → IsCalm net lines n s → ⊥
calm_none net lines levels n s f root kind is none h =
    let same : h.kind ≡ kind = some_same h.kind kind (sym h.is_kind ∙ is.is_kind) in
    none (subst (λ (o : Option Bool). CanCalm kind o) (sym (is.are s)) (subst (λ (k : Kind). CanCalm k (level_of lines s)) same h.calms))

pub calm_some : (net : Net) (lines : List BoundForm) (levels : List (Option Bool)) (n s : ℕ) (f : FlopOf ℕ) (root : Option ℕ) (kind : Kind) (calm : Marked) → IsAsked net lines levels n s f root kind
    → CanCalm kind (level_at levels s) → IsMarkedCalm n s ((root ≡ Some s) × CalmsTo kind (level_at levels s) f.high) calm → IsCalmBy net lines calm s
calm_some net lines levels n s f root kind calm is can marked = record {
  by = marked.by;
  asked = subst (λ (z : ℕ). IsCalm net lines z s) (sym marked.flop) (record {
    flop = f;
    is_flop = is.is_flop;
    asked = is.asked;
    reads = is.reads;
    kind = kind;
    is_kind = is.is_kind;
    calms = subst (λ (o : Option Bool). CanCalm kind o) (is.are s) can;
  });
  mark = subst (λ (z : ℕ). IsCalmMark (IsDirect net lines z s) calm.mark) (sym marked.flop) (mark_same calm.mark to from marked.mark);
}
  where
    to : (root ≡ Some s) × CalmsTo kind (level_at levels s) f.high → IsDirect net lines n s
    to h = record {
      flop = f;
      is_flop = is.is_flop;
      root = subst (λ (o : Option ℕ). IsRoot net f.root o) h.0 is.is_root;
      kind = kind;
      is_kind = is.is_kind;
      active = subst (λ (o : Option Bool). CalmsTo kind o f.high) (is.are s) h.1;
    }

    from : IsDirect net lines n s → (root ≡ Some s) × CalmsTo kind (level_at levels s) f.high
    from d =
        let flop : d.flop ≡ f = flop_same d.flop f (sym d.is_flop ∙ is.is_flop) in
        let same : d.kind ≡ kind = some_same d.kind kind (sym d.is_kind ∙ is.is_kind) in (
          root_is net f.root s root is.is_root (subst (λ (x : FlopOf ℕ). IsSourceBit net x.root s) flop d.root),
          subst (λ (o : Option Bool). CalmsTo kind o f.high) (sym (is.are s)) (subst (λ (k : Kind). CalmsTo k (level_of lines s) f.high) same (subst (λ (x : FlopOf ℕ). CalmsTo d.kind (level_of lines s) x.high) flop d.active)),
        )
