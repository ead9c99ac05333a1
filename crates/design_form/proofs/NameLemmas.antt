-- Names put in byte order, and those of a signal one by one.
use Rattle.std.proofs.Common.{◌≡◌, ℕ, zero, suc, ◌+◌, ◌-◌, ◌<◌, ◌≤◌, List, [], ◌∷◌, ◌++◌, length, map, take, drop, get_or, Vec, Global, refl, sym, ap, ◌∙◌, add-one, arith}
use Rattle.std.proofs.Math.Seq.{drop-cons, take-suc}
use Rattle.std.specs.declared.cmp.Ordering.{Ordering}
use Rattle.std.specs.declared.cmp.Ordering.TheVariants.{Less, Equal, Greater}
use Rattle.std.specs.Ordering.{nat_cmp, match_ordering}
use Rattle.std.specs.Cmp.Lexicographic.{slice_cmp}
use Rattle.std.specs.BTreeSet.{insert_key}
use Rattle.std.proofs.lemmas.List.{length-append, drop_all}
use Rattle.design_form.specs.declared.signal.Signal.{Signal}
use Rattle.design_form.specs.Signals.{bit_name, bit_names, names_from, bounds_of, width_of}
use Rattle.design_form.specs.Numbers.{printed, entered}

-- a key put in, seen through what it is ordered by
pub map-insert_key : {K X : Type 0} (c : X → X → Ordering) (f : K → X) (ks : List K) (k : K) → map f (insert_key (λ x y. c (f x) (f y)) ks k) ≡ insert_key c (map f ks) (f k)
map-insert_key c f [] k = refl
map-insert_key {K} {X} c f (x ∷ ks) k =
    elim (c (f k) (f x)) as (λ o. map f (match_ordering o (k ∷ x ∷ ks) (x ∷ ks) (x ∷ insert_key (λ x y. c (f x) (f y)) ks k)) ≡ match_ordering o (f k ∷ f x ∷ map f ks) (f x ∷ map f ks) (f x ∷ insert_key c (map f ks) (f k))) [
      | Less ↦ refl
      | Equal ↦ refl
      | Greater ↦ ap (λ (ys : List X). f x ∷ ys) (map-insert_key c f ks k)
    ]

pub entered-nil : (so_far : List (List ℕ)) → entered so_far [] ≡ so_far
unfolding entered
entered-nil so_far = refl

pub entered-cons : (so_far : List (List ℕ)) (n : List ℕ) (ns : List (List ℕ)) → entered so_far (n ∷ ns) ≡ entered (insert_key (slice_cmp nat_cmp) so_far n) ns
unfolding entered
entered-cons so_far n ns = refl

pub entered-append : (so_far ns ms : List (List ℕ)) → entered so_far (ns ++ ms) ≡ entered (entered so_far ns) ms
unfolding entered
entered-append so_far [] ms = refl
entered-append so_far (n ∷ ns) ms = entered-append (insert_key (slice_cmp nat_cmp) so_far n) ns ms

-- the first of the names that are left
pub names_from-more : (s : Signal) (o n : ℕ) → o < n → names_from s o (n - o) ≡ bit_name s o ∷ names_from s (o + 1) (n - (o + 1))
unfolding names_from
names_from-more s o n h =
    let e : n - o ≡ suc (n - (o + 1)) = omega arith in
    ap (names_from s o) e

pub names_from-end : (s : Signal) (o n : ℕ) → n ≤ o → names_from s o (n - o) ≡ []
unfolding names_from
names_from-end s o n h =
    let e : n - o ≡ zero = omega arith in
    ap (names_from s o) e

length-insert_key : (ks : List (List ℕ)) (k : List ℕ) → length (insert_key (slice_cmp nat_cmp) ks k) ≤ length ks + 1
length-insert_key [] k = omega arith
length-insert_key (x ∷ ks) k =
    let rest = length-insert_key ks k in
    elim (slice_cmp nat_cmp k x) as (λ o. length (match_ordering o (k ∷ x ∷ ks) (x ∷ ks) (x ∷ insert_key (slice_cmp nat_cmp) ks k)) ≤ length (x ∷ ks) + 1) [
      | Less ↦ omega arith
      | Equal ↦ omega arith
      | Greater ↦ omega (arith, rest)
    ]

-- no more names than are put in
pub length-entered : (so_far ns : List (List ℕ)) → length (entered so_far ns) ≤ length so_far + length ns
unfolding entered
length-entered so_far [] = omega arith
length-entered so_far (n ∷ ns) = omega (arith, length-insert_key so_far n, length-entered (insert_key (slice_cmp nat_cmp) so_far n) ns)

length-names_from : (s : Signal) (o n : ℕ) → length (names_from s o n) ≡ n
unfolding names_from
length-names_from s o zero = refl
length-names_from s o (suc n) = ap suc (length-names_from s (o + 1) n)

pub length-bit_names : (s : Signal) → length (bit_names s) ≡ width_of (bounds_of s)
length-bit_names s = length-names_from s 0 (width_of (bounds_of s))

-- each signal has a bit
pub signals-printed : (ss : List Signal) → length ss ≤ length (printed ss)
signals-printed [] = omega arith
signals-printed (s ∷ ss) = omega (arith, length-append (bit_names s) (printed ss), length-bit_names s, signals-printed ss)

-- ---- steps of loops

-- one name of a signal more is put in
pub entered-more : (s : Signal) (o n : ℕ) (ks ms : List (Vec ℕ Global)) (k : Vec ℕ Global) (whole : List (List ℕ)) → o < n → k.items ≡ bit_name s o → ms ≡ insert_key (λ x y. slice_cmp nat_cmp x.items y.items) ks k
    → entered (map (λ x. x.items) ks) (names_from s o (n - o)) ≡ whole → entered (map (λ x. x.items) ms) (names_from s (o + 1) (n - (o + 1))) ≡ whole
entered-more s o n ks ms k whole lt named put h =
    let rest = names_from s (o + 1) (n - (o + 1)) in
    ap (λ (ys : List (Vec ℕ Global)). entered (map (λ x. x.items) ys) rest) put
    ∙ ap (λ (ys : List (List ℕ)). entered ys rest) (map-insert_key (slice_cmp nat_cmp) (λ (x : Vec ℕ Global). x.items) ks k)
    ∙ ap (λ (y : List ℕ). entered (insert_key (slice_cmp nat_cmp) (map (λ x. x.items) ks) y) rest) named
    ∙ sym (entered-cons (map (λ x. x.items) ks) (bit_name s o) rest)
    ∙ ap (entered (map (λ x. x.items) ks)) (sym (names_from-more s o n lt))
    ∙ h

pub entered-end : (s : Signal) (o n : ℕ) (ks whole : List (List ℕ)) → n ≤ o → entered ks (names_from s o (n - o)) ≡ whole → ks ≡ whole
entered-end s o n ks whole le h = sym (ap (entered ks) (names_from-end s o n le) ∙ entered-nil ks) ∙ h

dropped : (ss : List Signal) (i : ℕ) (d : Signal) → i < length ss → drop i ss ≡ get_or ss i d ∷ drop (i + 1) ss
dropped ss i d lt = rw (add-one, drop-cons ss i d lt) refl

-- the names of one signal more are put in
pub sorted-more : (ss : List Signal) (i : ℕ) (d s : Signal) (ks ms whole : List (List ℕ)) → i < length ss → s ≡ get_or ss i d → ms ≡ entered ks (bit_names s)
    → entered ks (printed (drop i ss)) ≡ whole → entered ms (printed (drop (i + 1) ss)) ≡ whole
sorted-more ss i d s ks ms whole lt same put h =
    let rest = printed (drop (i + 1) ss) in
    ap (λ (ys : List (List ℕ)). entered ys rest) put
    ∙ sym (entered-append ks (bit_names s) rest)
    ∙ ap (λ (x : Signal). entered ks (bit_names x ++ rest)) same
    ∙ ap (λ (xs : List Signal). entered ks (printed xs)) (sym (dropped ss i d lt))
    ∙ h

pub sorted-end : (ss : List Signal) (i : ℕ) (ks whole : List (List ℕ)) → length ss ≤ i → entered ks (printed (drop i ss)) ≡ whole → ks ≡ whole
sorted-end ss i ks whole le h =
    let e : drop i ss ≡ [] = drop_all i ss le in
    sym (ap (λ (xs : List Signal). entered ks (printed xs)) e ∙ entered-nil ks) ∙ h

-- ---- how many names

printed-push : (ss : List Signal) (s : Signal) → length (printed (ss ++ s ∷ [])) ≡ length (printed ss) + width_of (bounds_of s)
printed-push [] s = omega (arith, length-append (bit_names s) [], length-bit_names s)
printed-push (x ∷ ss) s = omega (arith, length-append (bit_names x) (printed (ss ++ s ∷ [])), length-append (bit_names x) (printed ss), printed-push ss s)

-- the names of the first signals are no more than all
pub printed-take : (n : ℕ) (ss : List Signal) → length (printed (take n ss)) ≤ length (printed ss)
printed-take zero ss = omega arith
printed-take (suc n) [] = omega arith
printed-take (suc n) (s ∷ ss) = omega (arith, length-append (bit_names s) (printed (take n ss)), length-append (bit_names s) (printed ss), printed-take n ss)

pub counted-more : (ss : List Signal) (i : ℕ) (s : Signal) (count w : ℕ) → i < length ss → s ≡ get_or ss i s → w ≡ width_of (bounds_of s) → count ≡ length (printed (take i ss)) → count + w ≡ length (printed (take (i + 1) ss))
counted-more ss i s count w lt same wide so_far =
    let taken : take (i + 1) ss ≡ take i ss ++ s ∷ [] = rw add-one (take-suc ss i s lt ∙ ap (λ (x : Signal). take i ss ++ x ∷ []) (sym same)) in
    let all = ap (λ (xs : List Signal). length (printed xs)) taken in
    let last = printed-push (take i ss) s in
    omega (arith, all, last)
