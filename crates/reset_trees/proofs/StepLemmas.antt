-- Serves specs/Graph.antt: steps that come to a graph one after another.
use Rattle.std.proofs.Common.{◌≡◌, ◌⊎◌, ◌↔◌, inl, inr, ℕ, zero, suc, ◌+◌, ◌<◌, List, [], ◌∷◌, ◌++◌, length, get_or, set, take, drop, map, ◌≤◌, Option, Some, IsSome, All, Contains, sym, subst, ap, refl, ◌∙◌, arith, get_or-set_same, get_or-set_other, length-set}
use Rattle.std.specs.Prelude.{slice_index, slice_index_or, Result, Ok, Err, OnOk}
use Rattle.std.proofs.lemmas.Option.{slice_get_cases, slice_get_within}
use Rattle.std.proofs.lemmas.List.{take_more, get_or-map, length-map}
use Rattle.std.proofs.lemmas.List.Elements.{All-contains, Contains-push, Contains-push_cases, Contains-append_left, Contains-get_or}
use Rattle.net_view.proofs.Members.{contains_none}
use Rattle.reset_trees.specs.declared.trees.PinCone.{PinCone}
use Rattle.reset_trees.specs.Graph.{AddsSteps}
use Rattle.reset_trees.specs.PinSteps.{IsPinStep}
use Rattle.net_view.specs.declared.gate.Gate.TheVariants.{Source}
use Rattle.net_view.specs.declared.flop_net.SrcKind.TheVariants.{Flop}
use Rattle.net_view.specs.View.{IsNet}
use Rattle.net_view.specs.Cone.{Lists}
use Rattle.cons_bind.specs.Names.{Net}
use Rattle.reset_trees.specs.Reach.{IsStep}
use Rattle.reset_trees.specs.Reads.{PinReads}
use Rattle.reset_trees.specs.Trees.{ArePinCones}

one_of : (k n : ℕ) → (k ≡ n) ⊎ (k ≡ n → ⊥)
one_of k n = grind arith

-- one step
pub adds_step : (old : List (List ℕ)) (m n : ℕ) (row : List ℕ) → m < length old → row ≡ slice_index_or old m [] → AddsSteps (λ i j. (i ≡ m) × (j ≡ n)) old (set old m (row ++ n ∷ []))
adds_step old m n row lt is =
    let new = set old m (row ++ n ∷ []) in
    let here : slice_index_or new m [] ≡ row ++ n ∷ [] = get_or-set_same old m (row ++ n ∷ []) [] lt in
    record {
      each = λ i j. elim (one_of i m) [
        | inl same ↦
            let at : slice_index_or new i [] ≡ row ++ n ∷ [] = ap (λ (z : ℕ). slice_index_or new z []) same ∙ here in
            let was : slice_index_or old i [] ≡ row = ap (λ (z : ℕ). slice_index_or old z []) same ∙ sym is in (
              λ h. elim (Contains-push_cases row n j (subst (λ (zs : List ℕ). Contains zs j) at h)) [
                | inl before ↦ inl (subst (λ (zs : List ℕ). Contains zs j) (sym was) before)
                | inr last ↦ inr (same, sym last)
              ],
              λ h. subst (λ (zs : List ℕ). Contains zs j) (sym at) (elim h [
                | inl before ↦ Contains-append_left row (n ∷ []) j (subst (λ (zs : List ℕ). Contains zs j) was before)
                | inr new-one ↦ subst (λ (z : ℕ). Contains (row ++ n ∷ []) z) (sym new-one.1) (Contains-push row n)
              ]),
            )
        | inr other ↦
            let kept : slice_index_or new i [] ≡ slice_index_or old i [] = get_or-set_other old m i (row ++ n ∷ []) [] other in (
              λ h. inl (subst (λ (zs : List ℕ). Contains zs j) kept h),
              λ h. elim h [
                | inl before ↦ subst (λ (zs : List ℕ). Contains zs j) (sym kept) before
                | inr new-one ↦ absurd (other new-one.0)
              ],
            )
      ];
      len = length-set old m (row ++ n ∷ []);
    }

-- nothing
pub adds_nothing : (P : ℕ → ℕ → Type 0) (old : List (List ℕ)) → ((i j : ℕ) → P i j → ⊥) → AddsSteps P old old
adds_nothing P old none = record { each = λ i j. (λ h. inl h, λ h. elim h [ inl before ↦ before | inr p ↦ absurd (none i j p) ]); len = refl }

-- one addition behind another
pub adds_then : (P Q R : ℕ → ℕ → Type 0) (a b c : List (List ℕ)) → ((i j : ℕ) → R i j → P i j ⊎ Q i j) → ((i j : ℕ) → P i j → R i j) → ((i j : ℕ) → Q i j → R i j) → AddsSteps P a b → AddsSteps Q b c → AddsSteps R a c
adds_then P Q R a b c split left right first second = record {
  each = λ i j. (
    λ h. elim ((second.each i j).0 h) [
      | inl before ↦ elim ((first.each i j).0 before) [ inl old ↦ inl old | inr p ↦ inr (left i j p) ]
      | inr q ↦ inr (right i j q)
    ],
    λ h. (second.each i j).1 (elim h [
      | inl old ↦ inl ((first.each i j).1 (inl old))
      | inr r ↦ elim (split i j r) [ inl p ↦ inl ((first.each i j).1 (inr p)) | inr q ↦ inr q ]
    ]),
  );
  len = second.len ∙ first.len;
}

-- one more of a list of numbers
pub taken_more : (numbers : List ℕ) (i n k : ℕ) → i < length numbers → n ≡ slice_index numbers i → Contains (take (i + 1) numbers) k → Contains (take i numbers) k ⊎ (k ≡ n)
taken_more numbers i n k lt is h = elim (Contains-push_cases (take i numbers) (slice_index numbers i) k (subst (λ (zs : List ℕ). Contains zs k) (take_more numbers i 0 lt) h)) [
  | inl before ↦ inl before
  | inr same ↦ inr (sym same ∙ sym is)
]

pub taken_before : (numbers : List ℕ) (i k : ℕ) → i < length numbers → Contains (take i numbers) k → Contains (take (i + 1) numbers) k
taken_before numbers i k lt h = subst (λ (zs : List ℕ). Contains zs k) (sym (take_more numbers i 0 lt)) (Contains-append_left (take i numbers) (slice_index numbers i ∷ []) k h)

pub taken_last : (numbers : List ℕ) (i n k : ℕ) → i < length numbers → n ≡ slice_index numbers i → k ≡ n → Contains (take (i + 1) numbers) k
taken_last numbers i n k lt is same = subst (λ (zs : List ℕ). Contains zs k) (sym (take_more numbers i 0 lt))
    (subst (λ (z : ℕ). Contains (take i numbers ++ slice_index numbers i ∷ []) z) (sym (same ∙ is)) (Contains-push (take i numbers) (slice_index numbers i)))

-- steps from one more number
pub each_more : (numbers : List ℕ) (k m n : ℕ) (a b d : List (List ℕ)) → k < length numbers → m ≡ slice_index numbers k → AddsSteps (λ i j. Contains (take k numbers) i × (j ≡ n)) a b → AddsSteps (λ i j. (i ≡ m) × (j ≡ n)) b d
    → AddsSteps (λ i j. Contains (take (k + 1) numbers) i × (j ≡ n)) a d
each_more numbers k m n a b d lt is first second =
    adds_then (λ i j. Contains (take k numbers) i × (j ≡ n)) (λ i j. (i ≡ m) × (j ≡ n)) (λ i j. Contains (take (k + 1) numbers) i × (j ≡ n)) a b d
    (λ i j h. elim (taken_more numbers k m i lt is h.0) [ inl before ↦ inl (before, h.1) | inr same ↦ inr (same, h.1) ])
    (λ i j h. (taken_before numbers k i lt h.0, h.1))
    (λ i j h. (taken_last numbers k m i lt is h.0, h.1)) first second

pub each_none : (numbers : List ℕ) (n : ℕ) (a : List (List ℕ)) → AddsSteps (λ i j. Contains (take 0 numbers) i × (j ≡ n)) a a
each_none [] n a = adds_nothing (λ i j. Contains (take 0 []) i × (j ≡ n)) a (λ i j h. contains_none i h.0)
each_none (x ∷ numbers) n a = adds_nothing (λ i j. Contains (take 0 (x ∷ numbers)) i × (j ≡ n)) a (λ i j h. contains_none i h.0)

-- steps to one more number
pub all_more : (numbers : List ℕ) (k m n : ℕ) (a b d : List (List ℕ)) → k < length numbers → n ≡ slice_index numbers k → AddsSteps (λ i j. (i ≡ m) × Contains (take k numbers) j) a b → AddsSteps (λ i j. (i ≡ m) × (j ≡ n)) b d
    → AddsSteps (λ i j. (i ≡ m) × Contains (take (k + 1) numbers) j) a d
all_more numbers k m n a b d lt is first second =
    adds_then (λ i j. (i ≡ m) × Contains (take k numbers) j) (λ i j. (i ≡ m) × (j ≡ n)) (λ i j. (i ≡ m) × Contains (take (k + 1) numbers) j) a b d
    (λ i j h. elim (taken_more numbers k n j lt is h.1) [ inl before ↦ inl (h.0, before) | inr same ↦ inr (h.0, same) ])
    (λ i j h. (h.0, taken_before numbers k j lt h.1))
    (λ i j h. (h.0, taken_last numbers k n j lt is h.1)) first second

pub all_none : (numbers : List ℕ) (m : ℕ) (a : List (List ℕ)) → AddsSteps (λ i j. (i ≡ m) × Contains (take 0 numbers) j) a a
all_none [] m a = adds_nothing (λ i j. (i ≡ m) × Contains (take 0 []) j) a (λ i j h. contains_none j h.1)
all_none (x ∷ numbers) m a = adds_nothing (λ i j. (i ≡ m) × Contains (take 0 (x ∷ numbers)) j) a (λ i j h. contains_none j h.1)

-- the steps of one more pin
pub pin_more : (pins : List PinCone) (k : ℕ) (pin : PinCone) (a b d : List (List ℕ)) → k < length pins → pin ≡ get_or pins k pin → AddsSteps (IsPinStep (take k pins)) a b → AddsSteps (λ i j. Contains pin.sources i × (j ≡ pin.flop)) b d
    → AddsSteps (IsPinStep (take (k + 1) pins)) a d
pin_more pins k pin a b d lt is first second =
    let more : take (k + 1) pins ≡ take k pins ++ pin ∷ [] = take_more pins k pin lt ∙ ap (λ (p : PinCone). take k pins ++ p ∷ []) (sym is) in
    adds_then (IsPinStep (take k pins)) (λ i j. Contains pin.sources i × (j ≡ pin.flop)) (IsPinStep (take (k + 1) pins)) a b d
    (λ i j h. elim (Contains-push_cases (take k pins) pin h.0 (subst (λ (ps : List PinCone). Contains ps h.0) more h.1)) [
      | inl before ↦ inl (h.0, before, h.2, h.3)
      | inr same ↦ inr (subst (λ (p : PinCone). Contains p.sources i) (sym same) h.3, sym h.2 ∙ ap (λ (p : PinCone). p.flop) (sym same))
    ])
    (λ i j h. (h.0, subst (λ (ps : List PinCone). Contains ps h.0) (sym more) (Contains-append_left (take k pins) (pin ∷ []) h.0 h.1), h.2, h.3))
    (λ i j h. (pin, subst (λ (ps : List PinCone). Contains ps pin) (sym more) (Contains-push (take k pins) pin), sym h.1, h.0))
    first second

pub pin_none : (pins : List PinCone) (a : List (List ℕ)) → AddsSteps (IsPinStep (take 0 pins)) a a
pin_none [] a = adds_nothing (IsPinStep (take 0 [])) a (λ i j h. contains_none h.0 h.1)
pin_none (p ∷ pins) a = adds_nothing (IsPinStep (take 0 (p ∷ pins))) a (λ i j h. contains_none h.0 h.1)

-- from no steps
pub only_added : (P : ℕ → ℕ → Type 0) (old new : List (List ℕ)) → ((i j : ℕ) → IsStep old i j → ⊥) → AddsSteps P old new → (i j : ℕ) → IsStep new i j ↔ P i j
only_added P old new none adds i j = (
  λ h. elim ((adds.each i j).0 h) [ inl before ↦ absurd (none i j before) | inr p ↦ p ],
  λ p. (adds.each i j).1 (inr p),
)

-- lists without an entry
pub empty_rows : (steps : List (List ℕ)) → All (λ l. l ≡ []) steps → (i j : ℕ) → IsStep steps i j → ⊥
empty_rows steps all i j h = elim (slice_get_cases steps i).1 [
  | inl here ↦
      let row : slice_index_or steps i [] ≡ [] = all i [] here.1 in
      contains_none j (subst (λ (zs : List ℕ). Contains zs j) row h)
  | inr past ↦ contains_none j (subst (λ (zs : List ℕ). Contains zs j) (past_rows steps i past.0) h)
]
  where
    past_rows : (steps : List (List ℕ)) (i : ℕ) → length steps ≤ i → slice_index_or steps i [] ≡ []
    past_rows [] i le = refl
    past_rows (row ∷ steps) zero le = absurd (omega arith)
    past_rows (row ∷ steps) (suc i) le = past_rows steps i (omega arith)

-- who is in a list of pins
contains_map : (pins : List PinCone) (f : ℕ) → Contains (map (λ (p : PinCone). p.flop) pins) f → (pin : PinCone) × Contains pins pin × (pin.flop ≡ f)
contains_map pins f h = elim (slice_get_cases pins h.0).1 [
  | inl here ↦ (here.0, (h.0, here.1, here.3), sym (get_or-map (λ (p : PinCone). p.flop) pins h.0 here.0 f here.1 ∙ ap (λ (p : PinCone). p.flop) here.3) ∙ h.2)
  | inr past ↦ absurd (omega (arith, past.0, h.1, length-map pins (λ (p : PinCone). p.flop)))
]

-- the steps of the listed pins are what pins read
pub pin_steps : (net : Net) (pins : List PinCone) → ArePinCones net pins → (s f : ℕ) → IsPinStep pins s f ↔ PinReads net f s
pin_steps net pins are s f = (
  λ h.
      let lists = All-contains (λ (p : PinCone). Lists (PinReads net p.flop) p.sources) pins h.0 are.cones h.1 in
      subst (λ (z : ℕ). PinReads net z s) h.2 ((lists.whole s).0 h.3),
  λ is.
      let pin = contains_map pins f ((are.flops.whole f).1 (is.flop, is.is_flop, some_pin is.flop.pin is.pin is.has_pin)) in
      let lists = All-contains (λ (p : PinCone). Lists (PinReads net p.flop) p.sources) pins pin.0 are.cones pin.1 in
      (pin.0, pin.1, pin.2, (lists.whole s).1 (subst (λ (z : ℕ). PinReads net z s) (sym pin.2) is)),
)
  where
    some_pin : (o : Option ℕ) (p : ℕ) → o ≡ Some p → IsSome o
    some_pin o p e = rw e refl

-- what a slice of a whole vector is written back as
pub written_back : {X : Type 0} (new items : List X) (len : ℕ) → length new ≡ length items → len ≡ length new → take len (new ++ drop (length new) items) ≡ new
written_back {X} new items len same is = subst (λ (n : ℕ). take n (new ++ drop (length new) items) ≡ new) (sym is) (back new items same)
  where
    back : (new items : List X) → length new ≡ length items → take (length new) (new ++ drop (length new) items) ≡ new
    back [] [] h = refl
    back [] (y ∷ items) h = absurd (omega arith)
    back (x ∷ new) [] h = absurd (omega arith)
    back (x ∷ new) (y ∷ items) h = ap (λ (zs : List X). x ∷ zs) (back new items (omega arith))

pub on_ok : {T E : Type 0} (r : Result T E) {P Q : Type 0} → (P → Q) → OnOk r P → OnOk r Q
on_ok (Ok x) f h = f h
on_ok (Err e) f h = h

-- what the pins read is in the net
pub pins_inside : (net : Net) (count : ℕ) (pins : List PinCone) → IsNet net.gates count → ArePinCones net pins → All (λ (pin : PinCone). All (λ s. s < count) pin.sources) pins
pins_inside net count pins lawful are k d lt i e within =
    let pin = get_or pins k d in
    let reads = ((are.cones k d lt).whole (get_or pin.sources i e)).0 (Contains-get_or pin.sources i e within) in
    lawful.lower reads.reads.0 (Source (get_or pin.sources i e)) reads.reads.2

pub flop_inside : (net : Net) (count f s : ℕ) → length net.kinds ≡ count → PinReads net f s → f < count
flop_inside net count f s len is = let low = slice_get_within net.kinds f (Flop is.flop) is.is_flop in omega (arith, len)
