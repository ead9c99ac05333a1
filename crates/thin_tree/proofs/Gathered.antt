-- How what is made of the first joins what is made of the others.
use Rattle.std.proofs.Common.{◌≡◌, ℕ, ◌+◌, ◌<◌, List, [], ◌∷◌, ◌++◌, length, map, drop, get_or, Option, Some, None, refl, sym, ap, ◌∙◌, append_assoc}
use Rattle.std.proofs.lemmas.List.{drop_more, map-append}
use Rattle.std.specs.Option.{option_map}
use Rattle.thin_tree.specs.Form.{and_then, all_of}

-- what is made of the others, behind what was made
abbrev pub behind : {A : Type 0} → List A → Option (List A) → Option (List A)
behind xs o = option_map (λ ys. xs ++ ys) o

-- what was answered, known
pub answered : {C B : Type 0} (g : C → B) (o p : Option C) (q : Option B) → o ≡ p → option_map g o ≡ q → option_map g p ≡ q
answered g o p q is h = ap (option_map g) (sym is) ∙ h

module _ {A B : Type 0} (f : A → Option B) where
  joined : (xs : List B) (y : B) (o : Option (List B)) → behind (xs ++ y ∷ []) o ≡ behind xs (and_then o (λ ys. Some (y ∷ ys)))
  unfolding and_then
  joined xs y None = refl
  joined xs y (Some ys) = ap (λ z. Some z) (append_assoc xs (y ∷ []) ys)

  pub one_more : (x : A) (rest : List A) (y : B) (xs : List B) → f x ≡ Some y → behind (xs ++ y ∷ []) (all_of f rest) ≡ behind xs (all_of f (x ∷ rest))
  unfolding all_of and_then
  one_more x rest y xs is = joined xs y (all_of f rest) ∙ ap (λ o. behind xs (and_then o (λ z. and_then (all_of f rest) (λ ys. Some (z ∷ ys))))) (sym is)

  pub one_missing : (x : A) (rest : List A) (xs : List B) → f x ≡ None → behind xs (all_of f (x ∷ rest)) ≡ None
  unfolding all_of and_then
  one_missing x rest xs is = ap (λ o. behind xs (and_then o (λ z. and_then (all_of f rest) (λ ys. Some (z ∷ ys))))) is

-- a loop that has made something of the first items, at its next item
module _ {A C B : Type 0} (f : A → Option B) (g : C → B) (xs : List A) (made : List C) (i : ℕ) (x : A) where
  split : i < length xs → x ≡ get_or xs i x → drop i xs ≡ x ∷ drop (i + 1) xs
  split within at = drop_more xs i x within ∙ ap (λ (y : A). y ∷ drop (i + 1) xs) (sym at)

  pub goes_on : i < length xs → x ≡ get_or xs i x → (y : C) (more : List C) → more ≡ made ++ y ∷ [] → Some (g y) ≡ f x
      → behind (map g made) (all_of f (drop i xs)) ≡ all_of f xs → behind (map g more) (all_of f (drop (i + 1) xs)) ≡ all_of f xs
  goes_on within at y more last is so_far =
      ap (λ z. behind z (all_of f (drop (i + 1) xs))) (ap (λ z. map g z) last ∙ map-append g made (y ∷ []))
      ∙ (one_more f x (drop (i + 1) xs) (g y) (map g made) (sym is) ∙ (ap (λ z. behind (map g made) (all_of f z)) (sym (split within at)) ∙ so_far))

  pub ends : i < length xs → x ≡ get_or xs i x → None ≡ f x → behind (map g made) (all_of f (drop i xs)) ≡ all_of f xs → all_of f xs ≡ None
  ends within at is so_far =
      sym so_far ∙ (ap (λ z. behind (map g made) (all_of f z)) (split within at) ∙ one_missing f x (drop (i + 1) xs) (map g made) (sym is))
