-- What a binary search by name finds where the names ascend.
use Rattle.std.proofs.Common.{◌≡◌, ◌≢◌, ◌⊎◌, inl, inr, [], ◌∷◌, ℕ, ◌+◌, ◌<◌, false, List, length, get_or, map, Ok, Err, sym, ap, subst, ◌∙◌, arith}
use Rattle.std.specs.declared.cmp.Ordering.TheVariants.{Less, Equal, Greater}
use Rattle.std.specs.Ordering.{nat_cmp, is_lt, ordering_reverse}
use Rattle.std.specs.Cmp.Lexicographic.{slice_cmp, nat_list_cmp_total}
use Rattle.std.specs.FinMap.{slice_cmp-IsAntisymmetric, nat_cmp-IsAntisymmetric}
use Rattle.std.specs.List.Sorted.{IsSortedBy, IsBinarySearchResult}
use Rattle.std.proofs.lemmas.List.Sorted.{searchable_from_sorted}
use Rattle.std.proofs.lemmas.List.{get_or-map, get_or_default, length-map}
use Rattle.std.proofs.lemmas.Cmp.{tied_itself}
use Rattle.std.proofs.lemmas.Bool.{cases_lt}
use Rattle.std.proofs.lemmas.Map.Keys.{Less-from_sorted}
use Rattle.thin_form.specs.Design.{IsAscending}

-- names that tie are one
pub same_names : (a b : List ℕ) → slice_cmp nat_cmp a b ≡ Equal → a ≡ b
same_names a b e = slice_cmp-IsAntisymmetric nat_cmp-IsAntisymmetric a b e

-- where one name is below another, the other is not below it
not_below : (a b : List ℕ) → slice_cmp nat_cmp a b ≡ Less → is_lt (slice_cmp nat_cmp b a) ≡ false
not_below a b e = ap is_lt (nat_list_cmp_total.antisymm b a ∙ ap ordering_reverse e)

-- what has ascending names is in order by name
sorted : {X : Type 0} (name_of : X → List ℕ) (es : List X) → IsAscending (map name_of es) → IsSortedBy (λ x y. is_lt (slice_cmp nat_cmp (name_of x) (name_of y))) es
sorted name_of es up k d low lt =
    let at : (i : ℕ) → i < length es → get_or (map name_of es) i (name_of d) ≡ name_of (get_or es i d) = λ i within. get_or-map name_of es i d (name_of d) within in
    let less = Less-from_sorted (slice_cmp nat_cmp) (map name_of es) k (k + 1) (name_of d) up (omega arith) (omega (arith, length-map es name_of)) in
    let here = at k (omega arith) in
    let next = at (k + 1) lt in
    let less_there : slice_cmp nat_cmp (name_of (get_or es k d)) (name_of (get_or es (k + 1) d)) ≡ Less = rw (← here, ← next) less in
    not_below (name_of (get_or es k d)) (name_of (get_or es (k + 1) d)) less_there

-- what stands at a place
pub stands_at : {X : Type 0} (es : List X) (n : ℕ) → n < length es → (e : X) × (e ≡ get_or es n e)
stands_at [] n lt = absurd (omega arith)
stands_at (x ∷ es) n lt = (get_or (x ∷ es) n x, get_or_default (x ∷ es) n x (get_or (x ∷ es) n x) lt)

-- the name of what stands at a place
pub name_there : {X : Type 0} (name_of : X → List ℕ) (es : List X) (n : ℕ) (e : X) (d : List ℕ) → n < length es → e ≡ get_or es n e → get_or (map name_of es) n d ≡ name_of e
name_there name_of es n e d lt at = get_or-map name_of es n e d lt ∙ ap name_of (sym at)

-- what a binary search answers is a place of the name
pub found : {X : Type 0} (name_of : X → List ℕ) (es : List X) (name : List ℕ) (n : ℕ) → n < length es → IsBinarySearchResult (λ (e : X). slice_cmp nat_cmp (name_of e) name) es (Ok n)
    → (e : X) → e ≡ get_or es n e → name_of e ≡ name
found name_of es name n within equal e at = same_names _ _ (subst (λ x. slice_cmp nat_cmp (name_of x) name ≡ Equal) (sym at) (equal e))

-- a name before or behind a gap is another
apart : (a b : List ℕ) → (slice_cmp nat_cmp a b ≡ Less) ⊎ (slice_cmp nat_cmp a b ≡ Greater) → a ≢ b
apart a b (inl less) same = let tied = tied_itself nat_list_cmp_total b in let here : slice_cmp nat_cmp b b ≡ Less = subst (λ (x : List ℕ). slice_cmp nat_cmp x b ≡ Less) same less in absurd cc
apart a b (inr greater) same = let tied = tied_itself nat_list_cmp_total b in let here : slice_cmp nat_cmp b b ≡ Greater = subst (λ (x : List ℕ). slice_cmp nat_cmp x b ≡ Greater) same greater in absurd cc

-- where a binary search finds a gap, nothing has the name
pub absent : {X : Type 0} (name_of : X → List ℕ) (es : List X) (name : List ℕ) (gap : ℕ) → IsAscending (map name_of es) → IsBinarySearchResult (λ (e : X). slice_cmp nat_cmp (name_of e) name) es (Err gap)
    → (n : ℕ) (e : X) → n < length es → e ≡ get_or es n e → name_of e ≢ name
absent name_of es name gap up parted n e within at =
    let rises = searchable_from_sorted nat_list_cmp_total name_of es name (sorted name_of es up) in
    let sides = parted rises in
    let differs : (slice_cmp nat_cmp (name_of (get_or es n e)) name ≡ Less) ⊎ (slice_cmp nat_cmp (name_of (get_or es n e)) name ≡ Greater) =
    elim (cases_lt n gap) [ inl before ↦ inl (sides.0 n e (omega arith) before) | inr behind ↦ inr (sides.1 n e behind within) ] in
    let there = subst (λ x. (slice_cmp nat_cmp (name_of x) name ≡ Less) ⊎ (slice_cmp nat_cmp (name_of x) name ≡ Greater)) (sym at) differs in
    apart (name_of e) name there
