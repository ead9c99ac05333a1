-- What a loop over rows has gathered, where each row is looked at through a function.
use Rattle.std.proofs.Common.{◌≡◌, ◌⊎◌, ℕ, Bool, not, cond, nat_lt, Some, None, ◌+◌, ◌<◌, ◌≤◌, List, [], ◌∷◌, ◌++◌, map, drop, length, get_or, Ok, Err, refl, sym, ap, subst, ◌∙◌}
use Rattle.std.specs.List.{position, position_or_len}
use Rattle.std.proofs.lemmas.List.{map-append, length-map}
use Rattle.elab_names.specs.declared.fault.ElabFault.{ElabFault}
use Rattle.elab_names.specs.declared.fault.ElabFault.TheVariants.{Memory}
use Rattle.elab_names.specs.Answers.{Or_fault, gathered}
use Rattle.elab_names.proofs.Lists.{more, more-next, more-fault, more-end}

-- a row that is looked at is one row
looked : {A B D : Type 0} (f : B → A) (g : D → B) (xs : List D) → map f (map g xs) ≡ map (λ x. f (g x)) xs
looked f g [] = refl
looked f g (x ∷ xs) = ap (λ ys. f (g x) ∷ ys) (looked f g xs)

at_rows : {A B D : Type 0} (f : B → Or_fault A) (g : D → B) (out : List A) (xs : List D) → more out (gathered (map (λ x. f (g x)) xs)) ≡ more out (gathered (map f (map g xs)))
at_rows {A} f g out xs = ap (λ (rs : List (Or_fault A)). more out (gathered rs)) (sym (looked f g xs))

pub row-next : {A B D : Type 0} (f : B → Or_fault A) (g : D → B) (out new : List A) (xs : List D) (i : ℕ) (x : D) (y : B) (a : A) (r : Or_fault (List A)) → i < length xs → x ≡ get_or xs i x → y ≡ g x → f y ≡ Ok a → new ≡ out ++ a ∷ []
    → more out (gathered (map f (map g (drop i xs)))) ≡ r → more new (gathered (map f (map g (drop (i + 1) xs)))) ≡ r
row-next f g out new xs i x y a r within is same value pushed before =
    sym (at_rows f g new (drop (i + 1) xs)) ∙ more-next (λ z. f (g z)) out new xs i x a r within is (ap f (sym same) ∙ value) pushed (at_rows f g out (drop i xs) ∙ before)

pub row-fault : {A B D : Type 0} (f : B → Or_fault A) (g : D → B) (out : List A) (xs : List D) (i : ℕ) (x : D) (y : B) (fault : ElabFault) (r : Or_fault (List A)) → i < length xs → x ≡ get_or xs i x → y ≡ g x
    → (fault ≡ Memory) ⊎ (f y ≡ Err fault) → more out (gathered (map f (map g (drop i xs)))) ≡ r → (fault ≡ Memory) ⊎ (r ≡ Err fault)
row-fault {A} f g out xs i x y fault r within is same answer before =
    more-fault (λ z. f (g z)) out xs i x fault r within is (subst (λ z. (fault ≡ Memory) ⊎ (f z ≡ Err fault)) same answer) (at_rows f g out (drop i xs) ∙ before)

pub row-end : {A B D : Type 0} (f : B → Or_fault A) (g : D → B) (out : List A) (xs : List D) (i : ℕ) (r : Or_fault (List A)) → length xs ≤ i → more out (gathered (map f (map g (drop i xs)))) ≡ r → r ≡ Ok out
row-end f g out xs i r past before = more-end (λ z. f (g z)) out xs i r past (at_rows f g out (drop i xs) ∙ before)

-- what is gathered, looked at too
pub viewed : {C A : Type 0} (v : C → A) (out new : List C) (c : C) → new ≡ out ++ c ∷ [] → map v new ≡ map v out ++ v c ∷ []
viewed v out new c pushed = ap (map v) pushed ∙ map-append v out (c ∷ [])

-- ---- the place of the first that passes

places : {A B : Type 0} (p : B → Bool) (g : A → B) (xs : List A) → position_or_len p (map g xs) ≡ position_or_len (λ x. p (g x)) xs
places p g [] = refl
places p g (x ∷ xs) = ap (λ n. cond (not (p (g x))) (1 + n) 0) (places p g xs)

-- of rows that are looked at
pub position_row : {A B : Type 0} (p : B → Bool) (g : A → B) (xs : List A) → position p (map g xs) ≡ position (λ x. p (g x)) xs
position_row p g xs = ap (λ n. cond (nat_lt n (length (map g xs))) (Some n) None) (places p g xs) ∙ ap (λ n. cond (nat_lt (position_or_len (λ x. p (g x)) xs) n) (Some (position_or_len (λ x. p (g x)) xs)) None) (length-map xs g)
