-- Serves specs/Cone.antt: going down from the roots, the greatest number first, finds the cones.
use Rattle.std.proofs.Common.{◌≡◌, ◌⊎◌, inl, inr, ℕ, ◌+◌, ◌<◌, ◌≤◌, List, [], ◌∷◌, ◌++◌, length, reverse, All, AllPairs, Contains, IsPermutation, sym, subst, refl, ◌∙◌, arith}
use Rattle.std.proofs.lemmas.List.{reverse-append}
use Rattle.std.proofs.lemmas.List.Elements.{All-contains, Contains-push, Contains-push_cases, Contains-append_left}
use Rattle.std.proofs.lemmas.List.Kept.{AllPairs-cons}
use Rattle.std.proofs.lemmas.List.Sorted.{IsPermutation-sym}
use Rattle.net_view.specs.declared.gate.Gate.TheVariants.{Const, Source, Not, And, Or, Xor, Pick, Lift}
use Rattle.net_view.specs.View.{Numbered, Reads, IsGateAt, IsNet}
use Rattle.net_view.specs.Cone.{IsFanIn, InCone, InCones, Lists, itself, fan_in}
use Rattle.net_view.specs.Due.{Adds}
use Rattle.net_view.proofs.ValuesLemmas.{some_is}
use Rattle.net_view.proofs.Members.{contains_none, contains_reverse, All-from_contains, adds_one}

-- what holds of all that a gate reads
pub at_fan_in : (P Q : ℕ → Type 0) (g : Numbered) (j : ℕ) → Reads P Q g → IsFanIn g j → P j
at_fan_in P Q (Const b) j h is = absurd is
at_fan_in P Q (Source s) j h is = absurd is
at_fan_in P Q (Not a) j h is = subst P (sym is) h
at_fan_in P Q (And a b) j h is = elim is [ inl e ↦ subst P (sym e) h.0 | inr e ↦ subst P (sym e) h.1 ]
at_fan_in P Q (Or a b) j h is = elim is [ inl e ↦ subst P (sym e) h.0 | inr e ↦ subst P (sym e) h.1 ]
at_fan_in P Q (Xor a b) j h is = elim is [ inl e ↦ subst P (sym e) h.0 | inr e ↦ subst P (sym e) h.1 ]
at_fan_in P Q (Pick c a b) j h is =
    elim is [ inl e ↦ subst P (sym e) h.0 | inr rest ↦ elim rest [ inl e ↦ subst P (sym e) h.1 | inr e ↦ subst P (sym e) h.2 ] ]
at_fan_in P Q (Lift c a b) j h is = elim is [ inl e ↦ subst P (sym e) h.0 | inr e ↦ subst P (sym e) h.1 ]

-- the nodes found so far, from the greatest down to the last, and those that are due
pub record Walk (gates : List Numbered) (roots due found : List ℕ) (last : ℕ) : Type 0 where
  pub inside : last ≤ length gates
  pub below : (j : ℕ) → Contains due j → (j ≤ last) × (j < length gates)
  pub sound : (j : ℕ) → Contains due j ⊎ Contains found j → InCones gates roots j
  pub rooted : (j : ℕ) → Contains roots j → Contains due j ⊎ Contains found j
  pub closed : (k j : ℕ) (g : Numbered) → Contains found k → IsGateAt gates k g → IsFanIn g j → Contains due j ⊎ Contains found j
  pub above : (j : ℕ) → Contains found j → last ≤ j
  pub met : last < length gates → Contains found last
  pub rising : AllPairs (λ x y. x < y) (reverse found)

pub walk_start : (gates : List Numbered) (roots due : List ℕ) (last : ℕ) → All (λ r. r < length gates) roots → last ≡ length gates → Adds (Contains roots) [] due → Walk gates roots due [] last
walk_start gates roots due last all is adds =
    let rooted : (j : ℕ) → Contains due j → Contains roots j = λ j h. elim ((adds.each j).0 h) [ inl r ↦ r | inr none ↦ absurd (contains_none j none) ] in
    record {
      inside = omega arith;
      below = λ j h. let lt : j < length gates = All-contains (λ r. r < length gates) roots j all (rooted j h) in (omega arith, lt);
      sound = λ j h. elim h [ inl d ↦ (j, rooted j d, itself) | inr none ↦ absurd (contains_none j none) ];
      rooted = λ j r. inl ((adds.each j).1 (inl r));
      closed = λ k j g none is reads. absurd (contains_none k none);
      above = λ j none. absurd (contains_none j none);
      met = λ lt. absurd (omega arith);
      rising = λ i j d lt within. absurd (omega arith);
    }

-- what is due, of which n is taken
taken : (due rest : List ℕ) (n : ℕ) → IsPermutation due (n ∷ rest) → Adds (λ j. j ≡ n) rest due
taken due rest n moved = adds_one n rest due (IsPermutation-sym due (n ∷ rest) moved)

-- a number that was found before
pub walk_again : (gates : List Numbered) (roots due rest found : List ℕ) (last n : ℕ) → Walk gates roots due found last → IsPermutation due (n ∷ rest) → last ≤ n → Walk gates roots rest found last
walk_again gates roots due rest found last n walk moved le =
    let one = taken due rest n moved in
    let n-due : Contains due n = (one.each n).1 (inl refl) in
    let n-is : n ≡ last = let bound = walk.below n n-due in omega (arith, bound.0, bound.1) in
    let n-found : Contains found n = subst (λ (z : ℕ). Contains found z) (sym n-is) (walk.met (let bound = walk.below n n-due in omega (arith, bound.0, bound.1))) in
    let still : (j : ℕ) → Contains due j ⊎ Contains found j → Contains rest j ⊎ Contains found j = λ j h. elim h [
      | inl due' ↦ elim ((one.each j).0 due') [ inl is ↦ inr (subst (λ (z : ℕ). Contains found z) (sym is) n-found) | inr r ↦ inl r ]
      | inr f ↦ inr f
    ] in
    record {
      inside = walk.inside;
      below = λ j h. walk.below j ((one.each j).1 (inr h));
      sound = λ j h. walk.sound j (elim h [ inl r ↦ inl ((one.each j).1 (inr r)) | inr f ↦ inr f ]);
      rooted = λ j r. still j (walk.rooted j r);
      closed = λ k j g f is reads. still j (walk.closed k j g f is reads);
      above = walk.above;
      met = walk.met;
      rising = walk.rising;
    }

-- a number below all that were found
pub walk_down : (gates : List Numbered) (count : ℕ) (roots due rest new found : List ℕ) (last n : ℕ) (g : Numbered) → IsNet gates count → Walk gates roots due found last
    → IsPermutation due (n ∷ rest) → n < last → All (λ y. y ≤ n) rest → IsGateAt gates n g → Adds (IsFanIn g) rest new → Walk gates roots new (found ++ n ∷ []) n
walk_down gates count roots due rest new found last n g net walk moved lt lows is adds =
    let one = taken due rest n moved in
    let n-due : Contains due n = (one.each n).1 (inl refl) in
    let n-in : InCones gates roots n = walk.sound n (inl n-due) in
    let reads-lower : (j : ℕ) → IsFanIn g j → j < n = λ j reads. at_fan_in (λ j. j < n) (λ s. s < count) g j (net.lower n g is) reads in
    let old : (j : ℕ) → Contains due j ⊎ Contains found j → Contains new j ⊎ Contains (found ++ n ∷ []) j = λ j h. elim h [
      | inl due' ↦ elim ((one.each j).0 due') [
        | inl here ↦ inr (subst (λ (z : ℕ). Contains (found ++ n ∷ []) z) (sym here) (Contains-push found n))
        | inr r ↦ inl ((adds.each j).1 (inr r))
      ]
      | inr f ↦ inr (Contains-append_left found (n ∷ []) j f)
    ] in
    let sound-due : (j : ℕ) → Contains new j → InCones gates roots j = λ j h. elim ((adds.each j).0 h) [
      | inl reads ↦ (n-in.0, n-in.1, fan_in n j g n-in.2 is reads)
      | inr r ↦ walk.sound j (inl ((one.each j).1 (inr r)))
    ] in
    record {
      inside = omega (arith, walk.inside);
      below = λ j h. elim ((adds.each j).0 h) [
        | inl reads ↦ let low = reads-lower j reads in (omega arith, omega (arith, walk.inside))
        | inr r ↦ (All-contains (λ y. y ≤ n) rest j lows r, (walk.below j ((one.each j).1 (inr r))).1)
      ];
      sound = λ j h. elim h [
        | inl d ↦ sound-due j d
        | inr f ↦ elim (Contains-push_cases found n j f) [
          | inl before ↦ walk.sound j (inr before)
          | inr here ↦ subst (λ (z : ℕ). InCones gates roots z) here n-in
        ]
      ];
      rooted = λ j r. old j (walk.rooted j r);
      closed = λ k j h f at reads. elim (Contains-push_cases found n k f) [
        | inl before ↦ old j (walk.closed k j h before at reads)
        | inr here ↦
            let at-n : IsGateAt gates n h = subst (λ (z : ℕ). IsGateAt gates z h) (sym here) at in
            let same : g ≡ h = some_is g h (sym is ∙ at-n) in
            inl ((adds.each j).1 (inl (subst (λ (z : Numbered). IsFanIn z j) (sym same) reads)))
      ];
      above = λ j f. elim (Contains-push_cases found n j f) [
        | inl before ↦ let high = walk.above j before in omega arith
        | inr here ↦ omega arith
      ];
      met = λ within. Contains-push found n;
      rising = subst (λ (zs : List ℕ). AllPairs (λ x y. x < y) zs) (sym (reverse-append found (n ∷ [])))
          (AllPairs-cons (λ x y. x < y) n (reverse found) (All-from_contains (λ y. n < y) (reverse found) (λ y f. let high = walk.above y ((contains_reverse found y).0 f) in omega arith)) walk.rising);
    }

-- what is closed and holds the root holds its cone
in_closed : (gates : List Numbered) (found : List ℕ) (closed : (k j : ℕ) (g : Numbered) → Contains found k → IsGateAt gates k g → IsFanIn g j → Contains found j)
    → (root k : ℕ) → Contains found root → InCone gates root k → Contains found k
in_closed gates found closed root k here itself = here
in_closed gates found closed root k here (fan_in i _ g in-cone is reads) = closed i k g (in_closed gates found closed root i here in-cone) is reads

pub walk_end : (gates : List Numbered) (roots found : List ℕ) (last : ℕ) → Walk gates roots [] found last → Lists (InCones gates roots) (reverse found)
walk_end gates roots found last walk =
    let nothing : (j : ℕ) → Contains [] j ⊎ Contains found j → Contains found j = λ j h. elim h [ inl none ↦ absurd (contains_none j none) | inr f ↦ f ] in
    record {
      ascending = λ k lt. walk.rising k (k + 1) 0 (omega arith) lt;
      whole = λ n. (
        λ h. walk.sound n (inr ((contains_reverse found n).0 h)),
        λ h. (contains_reverse found n).1 (in_closed gates found (λ k j g f is reads. nothing j (walk.closed k j g f is reads)) h.0 n (nothing h.0 (walk.rooted h.0 h.1)) h.2),
      );
    }
