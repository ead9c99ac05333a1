-- What a loop over parts has gathered, and what is left: `more out r` is `out` with what the rest answers behind it.
use Rattle.std.proofs.Common.{◌≡◌, ◌⊎◌, ℕ, ◌+◌, ◌<◌, ◌≤◌, List, [], ◌∷◌, ◌++◌, map, drop, length, get_or, Ok, Err, add-one, inl, inr, refl, sym, ap, ◌∙◌, ⊎_elim}
use Rattle.std.proofs.Math.Seq.{drop-cons}
use Rattle.std.proofs.lemmas.List.{append-nil, append_assoc, drop_all}
use Rattle.elab_names.specs.declared.fault.ElabFault.{ElabFault}
use Rattle.elab_names.specs.declared.fault.ElabFault.TheVariants.{Memory}
use Rattle.elab_names.specs.Answers.{Or_fault, and_then, gathered}

unfoldable pub more : {A : Type 0} → List A → Or_fault (List A) → Or_fault (List A)
more out (Ok rest) = Ok (out ++ rest)
more out (Err fault) = Err fault

pub more-nil : {A : Type 0} (r : Or_fault (List A)) → more [] r ≡ r
unfolding more
more-nil (Ok rest) = refl
more-nil (Err fault) = refl

-- one more part
joined : {A : Type 0} (out : List A) (a : A) (r : Or_fault (List A)) → more out (and_then r (λ rest. Ok (a ∷ rest))) ≡ more (out ++ a ∷ []) r
unfolding more and_then
joined out a (Ok rest) = ap Ok (sym (append_assoc out (a ∷ []) rest))
joined out a (Err fault) = refl

step : {A B : Type 0} (f : B → Or_fault A) (out : List A) (x : B) (xs : List B) (a : A) → f x ≡ Ok a
    → more out (gathered (map f (x ∷ xs))) ≡ more (out ++ a ∷ []) (gathered (map f xs))
unfolding gathered and_then
step {A} f out x xs a is =
    ap (λ (r : Or_fault A). more out (and_then r (λ v. and_then (gathered (map f xs)) (λ rest. Ok (v ∷ rest))))) is ∙ joined out a (gathered (map f xs))

stop : {A B : Type 0} (f : B → Or_fault A) (out : List A) (x : B) (xs : List B) (fault : ElabFault) → f x ≡ Err fault
    → more out (gathered (map f (x ∷ xs))) ≡ Err fault
unfolding gathered and_then more
stop {A} f out x xs fault is =
    ap (λ (r : Or_fault A). more out (and_then r (λ v. and_then (gathered (map f xs)) (λ rest. Ok (v ∷ rest))))) is

next : {B : Type 0} (xs : List B) (i : ℕ) (x : B) → i < length xs → x ≡ get_or xs i x → drop i xs ≡ x ∷ drop (i + 1) xs
next {B} xs i x within is =
    let dropped : drop i xs ≡ get_or xs i x ∷ drop (i + 1) xs = rw (add-one, drop-cons xs i x within) refl in
    dropped ∙ ap (λ (y : B). y ∷ drop (i + 1) xs) (sym is)

-- a part that has a value goes to what is gathered
pub more-next : {A B : Type 0} (f : B → Or_fault A) (out new : List A) (xs : List B) (i : ℕ) (x : B) (a : A) (r : Or_fault (List A)) → i < length xs → x ≡ get_or xs i x → f x ≡ Ok a → new ≡ out ++ a ∷ []
    → more out (gathered (map f (drop i xs))) ≡ r → more new (gathered (map f (drop (i + 1) xs))) ≡ r
more-next {A} {B} f out new xs i x a r within is value pushed before =
    ap (λ (o : List A). more o (gathered (map f (drop (i + 1) xs)))) pushed
    ∙ sym (step f out x (drop (i + 1) xs) a value)
    ∙ ap (λ (ys : List B). more out (gathered (map f ys))) (sym (next xs i x within is)) ∙ before

-- the first fault is that of all
pub more-fault : {A B : Type 0} (f : B → Or_fault A) (out : List A) (xs : List B) (i : ℕ) (x : B) (fault : ElabFault) (r : Or_fault (List A)) → i < length xs → x ≡ get_or xs i x
    → (fault ≡ Memory) ⊎ (f x ≡ Err fault) → more out (gathered (map f (drop i xs))) ≡ r → (fault ≡ Memory) ⊎ (r ≡ Err fault)
more-fault {A} {B} f out xs i x fault r within is answer before = ⊎_elim
    inl
    (λ value. inr (sym before ∙ ap (λ (ys : List B). more out (gathered (map f ys))) (next xs i x within is) ∙ stop f out x (drop (i + 1) xs) fault value))
    answer

-- at the end all is gathered
pub more-end : {A B : Type 0} (f : B → Or_fault A) (out : List A) (xs : List B) (i : ℕ) (r : Or_fault (List A)) → length xs ≤ i → more out (gathered (map f (drop i xs))) ≡ r → r ≡ Ok out
unfolding gathered more
more-end {A} {B} f out xs i r past before = sym before ∙ ap (λ (ys : List B). more out (gathered (map f ys))) (drop_all i xs past) ∙ ap Ok (append-nil out)

pub ruleset gathers = (more-nil)
