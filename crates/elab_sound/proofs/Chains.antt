-- What is left of some decides what all answer.
use Rattle.std.proofs.Common.{◌≡◌, ◌⊎◌, ℕ, suc, ◌+◌, ◌<◌, ◌≤◌, List, [], ◌∷◌, length, drop, get_or, map, Ok, Err, inl, inr, refl, sym, ap, ◌∙◌, ⊎_elim, add-one}
use Rattle.std.proofs.Math.Seq.{drop-cons}
use Rattle.std.proofs.lemmas.List.{drop_all}
use Rattle.elab_names.specs.declared.fault.ElabFault.{ElabFault}
use Rattle.elab_names.specs.declared.fault.ElabFault.TheVariants.{Memory}
use Rattle.elab_names.specs.Answers.{Or_fault, and_then}
use Rattle.elab_sound.specs.Sound.{all_checked}

next : {A : Type 0} (f : A → Or_fault (Unit {0})) (xs : List A) (i : ℕ) (x : A) → i < length xs → x ≡ get_or xs i x → all_checked f (drop i xs) ≡ and_then (f x) (λ u. all_checked f (drop (i + 1) xs))
unfolding all_checked
next {A} f xs i x lt is = rw add-one (ap (all_checked f) (drop-cons xs i x lt) ∙ ap (λ (y : A). and_then (f y) (λ u. all_checked f (drop (suc i) xs))) (sym is))

-- one more that passes
pub one_more : {A : Type 0} (f : A → Or_fault (Unit {0})) (r : Or_fault (Unit {0})) (u : Unit {0}) (xs : List A) (i : ℕ) (x : A)
    → i < length xs → x ≡ get_or xs i x → all_checked f (drop i xs) ≡ r → f x ≡ Ok u → all_checked f (drop (i + 1) xs) ≡ r
unfolding and_then
one_more f r u xs i x lt is before passed = sym (next f xs i x lt is ∙ ap (λ (a : Or_fault (Unit {0})). and_then a (λ v. all_checked f (drop (i + 1) xs))) passed) ∙ before

-- the first that doesn't
pub one_stops : {A : Type 0} (f : A → Or_fault (Unit {0})) (r : Or_fault (Unit {0})) (fault : ElabFault) (xs : List A) (i : ℕ) (x : A)
    → i < length xs → x ≡ get_or xs i x → all_checked f (drop i xs) ≡ r → (fault ≡ Memory) ⊎ (f x ≡ Err fault) → (fault ≡ Memory) ⊎ (r ≡ Err fault)
unfolding and_then
one_stops f r fault xs i x lt is before answer = ⊎_elim
    (λ lack. inl lack)
    (λ bad. inr (sym before ∙ next f xs i x lt is ∙ ap (λ (a : Or_fault (Unit {0})). and_then a (λ v. all_checked f (drop (i + 1) xs))) bad))
    answer

-- none is left
pub all_done : {A : Type 0} (f : A → Or_fault (Unit {0})) (r : Or_fault (Unit {0})) (xs : List A) (i : ℕ) → length xs ≤ i → all_checked f (drop i xs) ≡ r → r ≡ Ok tt
unfolding all_checked
all_done f r xs i past before = sym before ∙ ap (all_checked f) (drop_all i xs past)

-- of what each is made to
pub all_mapped : {A B : Type 0} (f : B → Or_fault (Unit {0})) (g : A → B) (xs : List A) → all_checked (λ x. f (g x)) xs ≡ all_checked f (map g xs)
unfolding all_checked
all_mapped f g [] = refl
all_mapped f g (x ∷ xs) = ap (λ (r : Or_fault (Unit {0})). and_then (f (g x)) (λ u. r)) (all_mapped f g xs)
