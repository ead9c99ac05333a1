-- Numbers put where they belong, list by list.
use Rattle.std.proofs.Common.{◌≡◌, ℕ, ◌+◌, ◌<◌, ◌≤◌, List, [], ◌∷◌, ◌++◌, length, drop, get_or, add-one, refl, sym, ap, ◌∙◌}
use Rattle.std.proofs.Math.Seq.{drop-cons}
use Rattle.std.specs.List.{flat_map}
use Rattle.std.specs.Ordering.{nat_cmp}
use Rattle.std.specs.BTreeSet.{insert_key}
use Rattle.std.proofs.lemmas.List.{drop_all}
use Rattle.elab_weight.specs.TargetBits.{once}

pub once-nil : (ks : List ℕ) → once ks [] ≡ ks
unfolding once
once-nil ks = refl

pub once-append : (ks xs ys : List ℕ) → once ks (xs ++ ys) ≡ once (once ks xs) ys
unfolding once
once-append ks [] ys = refl
once-append ks (x ∷ xs) ys = once-append (insert_key nat_cmp ks x) xs ys

pub next : {A : Type 0} (xs : List A) (i : ℕ) (x : A) → i < length xs → x ≡ get_or xs i x → drop i xs ≡ x ∷ drop (i + 1) xs
next {A} xs i x within is =
    let dropped : drop i xs ≡ get_or xs i x ∷ drop (i + 1) xs = rw (add-one, drop-cons xs i x within) refl in
    dropped ∙ ap (λ (y : A). y ∷ drop (i + 1) xs) (sym is)

-- one number more
pub put-next : (xs : List ℕ) (i : ℕ) (ks ms whole : List ℕ) → i < length xs → ms ≡ insert_key nat_cmp ks (get_or xs i 0) → once ks (drop i xs) ≡ whole → once ms (drop (i + 1) xs) ≡ whole
unfolding once
put-next xs i ks ms whole lt put h =
    let dropped : drop i xs ≡ get_or xs i 0 ∷ drop (i + 1) xs = rw (add-one, drop-cons xs i 0 lt) refl in
    ap (λ (ns : List ℕ). once ns (drop (i + 1) xs)) put ∙ ap (once ks) (sym dropped) ∙ h

pub put-end : (xs : List ℕ) (i : ℕ) (ks whole : List ℕ) → length xs ≤ i → once ks (drop i xs) ≡ whole → ks ≡ whole
unfolding once
put-end xs i ks whole le h = sym (ap (once ks) (drop_all i xs le)) ∙ h

-- the numbers of one more
pub more-next : {A : Type 0} (f : A → List ℕ) (xs : List A) (i : ℕ) (x : A) (ks ms whole : List ℕ) → i < length xs → x ≡ get_or xs i x → ms ≡ once ks (f x)
    → once ks (flat_map f (drop i xs)) ≡ whole → once ms (flat_map f (drop (i + 1) xs)) ≡ whole
more-next {A} f xs i x ks ms whole lt is put h =
    ap (λ (ns : List ℕ). once ns (flat_map f (drop (i + 1) xs))) put
    ∙ sym (once-append ks (f x) (flat_map f (drop (i + 1) xs)))
    ∙ ap (λ (ys : List A). once ks (flat_map f ys)) (sym (next xs i x lt is)) ∙ h

pub more-end : {A : Type 0} (f : A → List ℕ) (xs : List A) (i : ℕ) (ks whole : List ℕ) → length xs ≤ i → once ks (flat_map f (drop i xs)) ≡ whole → ks ≡ whole
more-end {A} f xs i ks whole le h = sym (ap (λ (ys : List A). once ks (flat_map f ys)) (drop_all i xs le) ∙ once-nil ks) ∙ h

-- for tactics
pub ruleset puts = (once-nil, once-append)
