-- Serves names.rt, bit_table.rt and specs/Bits.antt: names as the keys of a table.
use Rattle.std.proofs.Common.{◌≡◌, ℕ, suc, ◌<◌, Bool, true, false, ◌||◌, List, [], ◌∷◌, ◌++◌, map, length, get_or, Contains, String, string_bytes, string_eq, bytes_eq, position, refl, sym, ap, ◌∙◌, subst, inl, inr, Some, None, arith, slice_get, if◌then◌else◌, true≢false, cond, lt-ltb}
use Rattle.std.specs.List.{list_any, position_or_len}
use Rattle.std.specs.Option.{option_map}
use Rattle.std.proofs.lemmas.List.{map-append, length-map}
use Rattle.std.proofs.lemmas.List.Elements.{Contains-append_right, Contains-get_or}
use Rattle.std.proofs.lemmas.List.Quantifiers.{position-Some}
use Rattle.std.proofs.lemmas.List.Sums.{fails_before_first}
use Rattle.std.proofs.lemmas.Bool.{cases_lt}
use Rattle.std.proofs.lemmas.Option.{slice_get-map, slice_get_within, slice_get_cases, get_or_from_slice_get}
use Rattle.std.proofs.lemmas.Slice.Eq.{bytes_eq-Decides}
use Rattle.indexmap.specs.IndexMap.{insert_entry}
use Rattle.indexmap.specs.IndexSet.{insert_key}
use Rattle.net_view.specs.FlopNet.{Bit, IsBitAt, FindsBit}
use Rattle.net_core.specs.declared.bit_table.Place.{Place}
use Rattle.net_core.specs.Bits.{bit_of}

module _ {Z : Type 0} where
  -- a name that no key has
  absent_key : (k : String Z) (ks : List (String Z)) → (Contains (map string_bytes ks) (string_bytes k) → ⊥) → list_any (string_eq k) ks ≡ false
  absent_key k [] none = refl
  absent_key k (x ∷ xs) none = by (string_eq k x) refl (absent_key k xs (λ h. none (Contains-append_right (string_bytes x ∷ []) (map string_bytes xs) (string_bytes k) h)))
    where
      by : (t : Bool) → string_eq k x ≡ t → list_any (string_eq k) xs ≡ false → (t || list_any (string_eq k) xs) ≡ false
      by true e rest = absurd (none (subst (λ (n : List ℕ). Contains (string_bytes x ∷ map string_bytes xs) n) (sym ((bytes_eq-Decides (string_bytes k) (string_bytes x)).0 e)) (Contains-get_or (string_bytes x ∷ map string_bytes xs) 0 (string_bytes x) (omega arith))))
      by false e rest = rest

  -- a new name goes last
  pub names_push : (ks : List (String Z)) (k : String Z) (names : List (List ℕ)) (name : List ℕ) → map string_bytes ks ≡ names → string_bytes k ≡ name → (Contains names name → ⊥)
      → map string_bytes (insert_key string_eq ks k) ≡ names ++ name ∷ []
  names_push ks k names name ks-is k-is none =
      let absent : list_any (string_eq k) ks ≡ false = absent_key k ks (λ h. none (subst (λ (n : List ℕ). Contains names n) k-is (subst (λ (ns : List (List ℕ)). Contains ns (string_bytes k)) ks-is h))) in
      ap (λ (b : Bool). map string_bytes (if b then ks else ks ++ k ∷ [])) absent ∙ map-append string_bytes ks (k ∷ []) ∙ (λ j. ks-is j ++ k-is j ∷ [])

  -- an entry of a name that no entry has goes last
  new_entry : (k : String Z) (v : Place) (es : List (String Z × Place)) → ((b : ℕ) (bit : Bit) → IsBitAt (map bit_of es) b bit → bit.name ≡ string_bytes k → ⊥)
      → insert_entry string_eq es k v ≡ es ++ (k, v) ∷ []
  new_entry k v [] none = refl
  new_entry k v (e ∷ es) none = by (string_eq k e.0) refl (new_entry k v es (λ b bit is. none (suc b) bit is))
    where
      by : (t : Bool) → string_eq k e.0 ≡ t → insert_entry string_eq es k v ≡ es ++ (k, v) ∷ [] → (if t then (e.0, v) ∷ es else e ∷ insert_entry string_eq es k v) ≡ (e ∷ es) ++ (k, v) ∷ []
      by true same rest = absurd (none 0 (bit_of e) refl (sym ((bytes_eq-Decides (string_bytes k) (string_bytes e.0)).0 same)))
      by false other rest = ap (λ l. e ∷ l) rest

  -- a new bit goes last
  pub bits_push : (es : List (String Z × Place)) (k : String Z) (v : Place) (bits : List Bit) (name : List ℕ) → map bit_of es ≡ bits → string_bytes k ≡ name
      → ((b : ℕ) (bit : Bit) → IsBitAt bits b bit → bit.name ≡ name → ⊥)
      → map bit_of (insert_entry string_eq es k v) ≡ bits ++ record { name = name; node = v.node; root = v.root } ∷ []
  bits_push es k v bits name es-is k-is none =
      let new : insert_entry string_eq es k v ≡ es ++ (k, v) ∷ [] = new_entry k v es (λ b bit is same. none b bit (subst (λ (l : List Bit). IsBitAt l b bit) es-is is) (same ∙ k-is)) in
      ap (map bit_of) new ∙ map-append bit_of es ((k, v) ∷ []) ∙ (λ j. es-is j ++ record { name = k-is j; node = v.node; root = v.root } ∷ [])

  -- the entry of a bit
  entry_of : (es : List (String Z × Place)) (b : ℕ) (bit : Bit) → IsBitAt (map bit_of es) b bit → (e : String Z × Place) × (slice_get es b ≡ Some e) × (bit_of e ≡ bit)
  entry_of es b bit is =
      elim (slice_get_cases es b).1 [
        | inl here ↦
            let same : Some (bit_of here.0) ≡ Some bit = sym (ap (option_map bit_of) here.2) ∙ sym (slice_get-map bit_of es b) ∙ is in
            let e : bit_of here.0 ≡ bit = cc in
            (here.0, here.2, e)
        | inr past ↦
            let same : None ≡ Some bit = sym (ap (option_map bit_of) past.1) ∙ sym (slice_get-map bit_of es b) ∙ is in
            absurd (cc)
      ]

  -- the name of an entry of a name doesn't fail the test for it
  passes : (name : List ℕ) (es : List (String Z × Place)) (b : ℕ) (bit : Bit) (d : String Z) → IsBitAt (map bit_of es) b bit → bit.name ≡ name
      → bytes_eq name (string_bytes (get_or (map (λ e. e.0) es) b d)) ≡ true
  passes name es b bit d is same =
      let e = entry_of es b bit is in
      let inside : b < length es = slice_get_within es b e.0 e.1 in
      let key : get_or (map (λ f. f.0) es) b d ≡ e.0.0 = get_or_from_slice_get (map (λ f. f.0) es) b e.0.0 d (slice_get-map (λ f. f.0) es b ∙ ap (option_map (λ f. f.0)) e.1) in
      (bytes_eq-Decides name (string_bytes (get_or (map (λ f. f.0) es) b d))).1 (sym same ∙ ap (λ (x : Bit). x.name) (sym e.2) ∙ ap string_bytes (sym key))

  -- the bit at the first entry that passes is the least of the name
  pub finds_at : (es : List (String Z × Place)) (bits : List Bit) (name : List ℕ) (b : ℕ) → map bit_of es ≡ bits → b < length es
      → position (λ k. bytes_eq name (string_bytes k)) (map (λ e. e.0) es) ≡ Some b → FindsBit bits name (Some b)
  finds_at es bits name b es-is inside at =
      elim (slice_get_cases es b).1 [
        | inl here ↦
            let d : String Z = here.0.0 in
            let p = position-Some (λ k. bytes_eq name (string_bytes k)) (map (λ e. e.0) es) b d at in
            let key : get_or (map (λ f. f.0) es) b d ≡ here.0.0 = get_or_from_slice_get (map (λ f. f.0) es) b here.0.0 d (slice_get-map (λ f. f.0) es b ∙ ap (option_map (λ f. f.0)) here.2) in
            let bit-is : IsBitAt (map bit_of es) b (bit_of here.0) = slice_get-map bit_of es b ∙ ap (option_map bit_of) here.2 in
            let same : name ≡ string_bytes here.0.0 = (bytes_eq-Decides name (string_bytes (get_or (map (λ f. f.0) es) b d))).0 p.1 ∙ ap string_bytes key in
            subst (λ (l : List Bit). FindsBit l name (Some b)) es-is
            ((bit_of here.0, bit-is, sym same), λ k bit below is e. true≢false (sym (passes name es k bit d is e) ∙ p.2 k below))
        | inr past ↦ absurd (omega (arith, past.0))
      ]

  -- where none passes no bit has the name
  pub finds_none : (es : List (String Z × Place)) (bits : List Bit) (name : List ℕ) → map bit_of es ≡ bits
      → position (λ k. bytes_eq name (string_bytes k)) (map (λ e. e.0) es) ≡ None → FindsBit bits name None
  finds_none es bits name es-is none b bit is e =
      let test : String Z → Bool = λ k. bytes_eq name (string_bytes k) in
      let keys : List (String Z) = map (λ f. f.0) es in
      let here : IsBitAt (map bit_of es) b bit = subst (λ (l : List Bit). IsBitAt l b bit) (sym es-is) is in
      let entry = entry_of es b bit here in
      let inside : b < length keys = omega (arith, slice_get_within es b entry.0 entry.1, length-map es (λ f. f.0)) in
      elim (cases_lt (position_or_len test keys) (length keys)) [
        | inl found ↦
            let some : position test keys ≡ Some (position_or_len test keys) = ap (λ (t : Bool). cond t (Some (position_or_len test keys)) None) (lt-ltb _ _ found) in
            let clash : None ≡ Some (position_or_len test keys) = sym none ∙ some in
            absurd (cc)
        | inr past ↦ true≢false (sym (passes name es b bit entry.0.0 here e) ∙ fails_before_first test keys b entry.0.0 (omega arith))
      ]
