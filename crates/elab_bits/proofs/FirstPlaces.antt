-- The two first places of a bit, after one touch more, and what they say of its fault.
use Rattle.std.proofs.Common.{rules, ◌≡◌, ◌==◌, ◌≤◌, ℕ, ◌+◌, ◌<◌, Bool, true, false, if◌then◌else◌, List, [], ◌∷◌, ◌++◌, length, take, drop, set, get_or, replicate, Option, Some, None, Ok, Err, refl, sym, ap, subst, ◌∙◌, ⊎_elim, ◌⊎◌, inl, inr, arith}
use Rattle.std.specs.List.{slice_get}
use Rattle.std.proofs.lemmas.Bool.{cases_Bool}
use Rattle.std.proofs.lemmas.List.{length-set, get_or-set_same, get_or-set_other, get_or-replicate, length-replicate, take_more, take_all, drop_more, drop_all}
use Rattle.std.proofs.lemmas.Option.{slice_get_within, get_or_from_slice_get}
use Rattle.rdc_outside.specs.declared.source.Place.{Place}
use Rattle.elab_names.specs.declared.fault.ElabFault.{ElabFault}
use Rattle.elab_names.specs.declared.fault.ElabFault.TheVariants.{Memory}
use Rattle.elab_names.specs.Answers.{Or_fault}
use Rattle.elab_bits.specs.declared.touch.Touch.{Touch}
use Rattle.elab_bits.specs.declared.tables.Firsts.{Firsts}
use Rattle.elab_bits.specs.Orders.{is_before, placed, ordered, in_order, places_of, places_at}
use Rattle.elab_bits.specs.Tables.{no_places, firsts, sooner, with_least, with_place, HoldsFirsts, fault_if, fault_by}
use Rattle.elab_bits.specs.Judgements.{fault_of, or_else, judged_from}

-- ---- one place more

firsts-placed : (ps : List Place) (p : Place) → with_place (firsts ps) p ≡ firsts (placed ps p)
unfolding with_place with_least firsts placed sooner
firsts-placed [] p = refl
firsts-placed (q ∷ []) p =
    elim (is_before p q) as (λ b. (if b then record { least = Some p; next = Some q } else record { least = Some q; next = Some p }) ≡ firsts (if b then p ∷ q ∷ [] else q ∷ p ∷ [])) [
      | true ↦ refl
      | false ↦ refl
    ]
firsts-placed (q ∷ r ∷ ps) p =
    elim (is_before p q) as (λ b. (if b then record { least = Some p; next = Some q } else record { least = Some q; next = Some (if is_before p r then p else r) }) ≡ firsts (if b then p ∷ q ∷ r ∷ ps else q ∷ (if is_before p r then p ∷ r ∷ ps else r ∷ placed ps p))) [
      | true ↦ refl
      | false ↦ elim (is_before p r) as (λ b. record { least = Some q; next = Some (if b then p else r) } ≡ firsts (q ∷ (if b then p ∷ r ∷ ps else r ∷ placed ps p))) [
        | true ↦ refl
        | false ↦ refl
      ]
    ]

ordered-push : (so_far ps : List Place) (p : Place) → ordered so_far (ps ++ p ∷ []) ≡ placed (ordered so_far ps) p
unfolding ordered
ordered-push so_far [] p = refl
ordered-push so_far (q ∷ ps) p = ordered-push (placed so_far q) ps p

places_of-same : (n : ℕ) (ts : List Touch) (t : Touch) → (n == t.bit) ≡ true → places_of n (ts ++ t ∷ []) ≡ places_of n ts ++ t.place ∷ []
unfolding places_of
places_of-same n [] t h = ap (λ (b : Bool). if b then t.place ∷ [] else []) h
places_of-same n (x ∷ ts) t h =
    elim (n == x.bit) as (λ b. (if b then x.place ∷ places_of n (ts ++ t ∷ []) else places_of n (ts ++ t ∷ [])) ≡ (if b then x.place ∷ places_of n ts else places_of n ts) ++ t.place ∷ []) [
      | true ↦ ap (λ (r : List Place). x.place ∷ r) (places_of-same n ts t h)
      | false ↦ places_of-same n ts t h
    ]

places_of-other : (n : ℕ) (ts : List Touch) (t : Touch) → (n == t.bit) ≡ false → places_of n (ts ++ t ∷ []) ≡ places_of n ts
unfolding places_of
places_of-other n [] t h = ap (λ (b : Bool). if b then t.place ∷ [] else []) h
places_of-other n (x ∷ ts) t h =
    elim (n == x.bit) as (λ b. (if b then x.place ∷ places_of n (ts ++ t ∷ []) else places_of n (ts ++ t ∷ [])) ≡ (if b then x.place ∷ places_of n ts else places_of n ts)) [
      | true ↦ ap (λ (r : List Place). x.place ∷ r) (places_of-other n ts t h)
      | false ↦ places_of-other n ts t h
    ]

-- ---- tables

abbrev pub updated : List Firsts → Touch → List Firsts
updated table t = set table t.bit (with_place (get_or table t.bit no_places) t.place)

at_same : (table : List Firsts) (count : ℕ) (ts : List Touch) (t : Touch) (n : ℕ) → HoldsFirsts table count ts → n < count → (n == t.bit) ≡ true → get_or (updated table t) n no_places ≡ firsts (places_at n (ts ++ t ∷ []))
at_same table count ts t n h below same =
    let is : n ≡ t.bit = grind (arith, same) in
    let inside : t.bit < length table = omega (arith, is, h.long, below) in
    ap (λ (k : ℕ). get_or (updated table t) k no_places) is
    ∙ get_or-set_same table t.bit (with_place (get_or table t.bit no_places) t.place) no_places inside
    ∙ ap (λ (k : ℕ). with_place (get_or table k no_places) t.place) (sym is)
    ∙ ap (λ (f : Firsts). with_place f t.place) (h.holds n below)
    ∙ firsts-placed (places_at n ts) t.place
    ∙ ap firsts (sym (ordered-push [] (places_of n ts) t.place) ∙ ap in_order (sym (places_of-same n ts t same)))

at_other : (table : List Firsts) (count : ℕ) (ts : List Touch) (t : Touch) (n : ℕ) → HoldsFirsts table count ts → n < count → (n == t.bit) ≡ false → get_or (updated table t) n no_places ≡ firsts (places_at n (ts ++ t ∷ []))
at_other table count ts t n h below differs =
    get_or-set_other table t.bit n (with_place (get_or table t.bit no_places) t.place) no_places (grind (arith, differs))
    ∙ h.holds n below
    ∙ ap (λ (ps : List Place). firsts (in_order ps)) (sym (places_of-other n ts t differs))

-- one touch more is entered
marked : (table new : List Firsts) (count : ℕ) (ts : List Touch) (t : Touch) → HoldsFirsts table count ts → new ≡ updated table t → HoldsFirsts new count (ts ++ t ∷ [])
marked table new count ts t h is = record {
  long = ap (λ (xs : List Firsts). length xs) is ∙ length-set table t.bit (with_place (get_or table t.bit no_places) t.place) ∙ h.long;
  holds = λ n below. ap (λ (xs : List Firsts). get_or xs n no_places) is ∙ ⊎_elim (λ same. at_same table count ts t n h below same) (λ differs. at_other table count ts t n h below differs) (cases_Bool (n == t.bit));
}

pub table_start : (table : List Firsts) (count : ℕ) → table ≡ replicate count no_places → HoldsFirsts table count []
unfolding firsts ordered places_of
table_start table count is = record {
  long = ap (λ (xs : List Firsts). length xs) is ∙ length-replicate count no_places;
  holds = λ n below. ap (λ (xs : List Firsts). get_or xs n no_places) is ∙ get_or-replicate count n no_places no_places below;
}

pub table_more : (table new : List Firsts) (count : ℕ) (ts : List Touch) (i : ℕ) (d : Touch) → i < length ts → HoldsFirsts table count (take i ts) → new ≡ updated table (get_or ts i d) → HoldsFirsts new count (take (i + 1) ts)
table_more table new count ts i d below h put =
    subst (λ (us : List Touch). HoldsFirsts new count us) (sym (take_more ts i d below)) (marked table new count (take i ts) (get_or ts i d) h put)

pub table_end : (table : List Firsts) (count : ℕ) (ts : List Touch) (i : ℕ) → length ts ≤ i → HoldsFirsts table count (take i ts) → HoldsFirsts table count ts
table_end table count ts i past h = subst (λ (us : List Touch). HoldsFirsts table count us) (take_all i ts past) h

-- ---- faults

fault_by-firsts : (name : List ℕ) (ds rs : List Place) → fault_by name (firsts ds) (firsts rs) ≡ fault_of name ds rs
unfolding fault_by fault_if firsts fault_of
fault_by-firsts name [] [] = refl
fault_by-firsts name [] (r ∷ []) = refl
fault_by-firsts name [] (r ∷ s ∷ rs) = refl
fault_by-firsts name (d ∷ []) rs = refl
fault_by-firsts name (d ∷ e ∷ ds) rs = refl

or_else-Ok : (o : Option ElabFault) → or_else o (Ok tt) ≡ Ok tt → o ≡ None
unfolding or_else
or_else-Ok None h = refl
or_else-Ok (Some fault) h = search (rules, h)

or_else-Err : (o : Option ElabFault) (fault : ElabFault) → or_else o (Ok tt) ≡ Err fault → o ≡ Some fault
unfolding or_else
or_else-Err None fault h = search (rules, h)
or_else-Err (Some x) fault h = search (rules, h)

-- ---- judgements

-- what all bits from k up say, by bit k
judged_step : (names : List (List ℕ)) (ds rs : List Touch) (k : ℕ) (name : List ℕ) → slice_get names k ≡ Some name
    → judged_from k (drop k names) ds rs ≡ or_else (fault_of name (places_at k ds) (places_at k rs)) (judged_from (k + 1) (drop (k + 1) names) ds rs)
unfolding judged_from
judged_step names ds rs k name there =
    ap (λ (xs : List (List ℕ)). judged_from k xs ds rs) (drop_more names k name (slice_get_within names k name there))
    ∙ ap (λ (x : List ℕ). or_else (fault_of x (places_at k ds) (places_at k rs)) (judged_from (k + 1) (drop (k + 1) names) ds rs)) (get_or_from_slice_get names k name name there)

by_tables : (names : List (List ℕ)) (driven read : List Firsts) (ds rs : List Touch) (k : ℕ) (name : List ℕ) → slice_get names k ≡ Some name → HoldsFirsts driven (length names) ds → HoldsFirsts read (length names) rs
    → fault_by name (get_or driven k no_places) (get_or read k no_places) ≡ fault_of name (places_at k ds) (places_at k rs)
by_tables names driven read ds rs k name there d r =
    let below = slice_get_within names k name there in
    ap (λ (f : Firsts). fault_by name f (get_or read k no_places)) (d.holds k below)
    ∙ ap (λ (g : Firsts). fault_by name (firsts (places_at k ds)) g) (r.holds k below)
    ∙ fault_by-firsts name (places_at k ds) (places_at k rs)

pub bit_passes : (names : List (List ℕ)) (driven read : List Firsts) (ds rs : List Touch) (k : ℕ) (name : List ℕ) (whole : Or_fault (Unit {0})) → slice_get names k ≡ Some name → HoldsFirsts driven (length names) ds → HoldsFirsts read (length names) rs
    → or_else (fault_by name (get_or driven k no_places) (get_or read k no_places)) (Ok tt) ≡ Ok tt → judged_from k (drop k names) ds rs ≡ whole → judged_from (k + 1) (drop (k + 1) names) ds rs ≡ whole
unfolding or_else
bit_passes names driven read ds rs k name whole there d r passes h =
    sym (ap (λ (o : Option ElabFault). or_else o (judged_from (k + 1) (drop (k + 1) names) ds rs)) (sym (by_tables names driven read ds rs k name there d r) ∙ or_else-Ok _ passes))
    ∙ sym (judged_step names ds rs k name there) ∙ h

pub bit_stops : (names : List (List ℕ)) (driven read : List Firsts) (ds rs : List Touch) (k : ℕ) (name : List ℕ) (whole : Or_fault (Unit {0})) (fault : ElabFault) → slice_get names k ≡ Some name → HoldsFirsts driven (length names) ds → HoldsFirsts read (length names) rs
    → (fault ≡ Memory) ⊎ (or_else (fault_by name (get_or driven k no_places) (get_or read k no_places)) (Ok tt) ≡ Err fault) → judged_from k (drop k names) ds rs ≡ whole → (fault ≡ Memory) ⊎ (whole ≡ Err fault)
unfolding or_else
bit_stops names driven read ds rs k name whole fault there d r (inl memory) h = inl memory
bit_stops names driven read ds rs k name whole fault there d r (inr stops) h =
    inr (sym h ∙ judged_step names ds rs k name there
    ∙ ap (λ (o : Option ElabFault). or_else o (judged_from (k + 1) (drop (k + 1) names) ds rs)) (sym (by_tables names driven read ds rs k name there d r) ∙ or_else-Err _ fault stops))

pub all_judged : (names : List (List ℕ)) (ds rs : List Touch) (k : ℕ) (whole : Or_fault (Unit {0})) → length names ≤ k → judged_from k (drop k names) ds rs ≡ whole → whole ≡ Ok tt
unfolding judged_from
all_judged names ds rs k whole past h = sym h ∙ ap (λ (xs : List (List ℕ)). judged_from k xs ds rs) (drop_all k names past)
