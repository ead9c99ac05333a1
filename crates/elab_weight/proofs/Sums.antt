-- Sums of what each of some weighs, as far as the limit.
use Rattle.std.proofs.Common.{◌≡◌, ℕ, ◌+◌, ◌<◌, ◌≤◌, List, length, take, get_or, sym, ap, ◌∙◌, add_assoc, arith}
use Rattle.std.specs.List.{sum_by}
use Rattle.std.proofs.lemmas.List.{take_all}
use Rattle.std.proofs.lemmas.List.Sums.{sum_by_more}
use Rattle.elab_weight.specs.Limits.{capped}
use Rattle.elab_weight.proofs.Capped.{capped-left, capped-right}

pub sum-start : {A : Type 0} (f : A → ℕ) (a : ℕ) (xs : List A) → capped a ≡ capped (a + sum_by f (take 0 xs))
sum-start f a xs = ap capped (omega arith)

-- one more
pub sum-next : {A : Type 0} (f : A → ℕ) (a : ℕ) (xs : List A) (i : ℕ) (x : A) (w more v : ℕ)
    → i < length xs → x ≡ get_or xs i x → more ≡ capped (f x) → v ≡ capped (w + more) → w ≡ capped (a + sum_by f (take i xs)) → v ≡ capped (a + sum_by f (take (i + 1) xs))
sum-next {A} f a xs i x w more v lt is one sum h =
    let taken : sum_by f (take (i + 1) xs) ≡ sum_by f (take i xs) + f x = sum_by_more f xs i x lt ∙ ap (λ (y : A). sum_by f (take i xs) + f y) (sym is) in
    sum ∙ ap (λ n. capped (w + n)) one ∙ capped-right w (f x) ∙ ap (λ n. capped (n + f x)) h ∙ capped-left (a + sum_by f (take i xs)) (f x)
    ∙ ap capped (add_assoc a (sum_by f (take i xs)) (f x)) ∙ sym (ap (λ n. capped (a + n)) taken)

pub sum-end : {A : Type 0} (f : A → ℕ) (a : ℕ) (xs : List A) (i w : ℕ) → length xs ≤ i → w ≡ capped (a + sum_by f (take i xs)) → w ≡ capped (a + sum_by f xs)
sum-end {A} f a xs i w le h = h ∙ ap (λ (ys : List A). capped (a + sum_by f ys)) (take_all i xs le)
