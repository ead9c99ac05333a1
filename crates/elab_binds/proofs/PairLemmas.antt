-- Steps for pairs, of which those before the place k are taken.
use Rattle.std.proofs.Common.{◌≡◌, ℕ, suc, ◌+◌, ◌<◌, ◌≤◌, List, [], ◌∷◌, length, drop, get_or, Ok, refl, sym, ap, ◌∙◌, inl, inr, add-one}
use Rattle.std.proofs.Math.Seq.{drop-cons}
use Rattle.std.proofs.lemmas.List.{drop_all}
use Rattle.elab_names.specs.declared.fault.ElabFault.{ElabFault}
use Rattle.elab_names.specs.Answers.{Or_fault, and_then}
use Rattle.elab_scopes.specs.Threads.{Stops}
use Rattle.elab_binds.specs.Connections.{paired}

-- the step at k is next
next_pair : {S X Y : Type 0} (step : S → X → Y → Or_fault S) (s : S) (xs : List X) (ys : List Y) (k : ℕ) (x : X) (y : Y) → k < length xs → k < length ys → x ≡ get_or xs k x → y ≡ get_or ys k y
    → paired step s (drop k xs) (drop k ys) ≡ and_then (step s x y) (λ t. paired step t (drop (k + 1) xs) (drop (k + 1) ys))
unfolding paired
next_pair step s xs ys k x y below lt is at =
    rw add-one
    (ap (λ zs. paired step s zs (drop k ys)) (drop-cons xs k x below) ∙ ap (paired step s (get_or xs k x ∷ drop (suc k) xs)) (drop-cons ys k y lt)
    ∙ ap (λ z. and_then (step s z (get_or ys k y)) (λ t. paired step t (drop (suc k) xs) (drop (suc k) ys))) (sym is)
    ∙ ap (λ z. and_then (step s x z) (λ t. paired step t (drop (suc k) xs) (drop (suc k) ys))) (sym at))

-- once it is taken, the others are left
pub one_pair : {S X Y : Type 0} (step : S → X → Y → Or_fault S) (s t : S) (r : Or_fault S) (xs : List X) (ys : List Y) (k : ℕ) (x : X) (y : Y) → k < length xs → k < length ys → x ≡ get_or xs k x → y ≡ get_or ys k y
    → paired step s (drop k xs) (drop k ys) ≡ r → step s x y ≡ Ok t → paired step t (drop (k + 1) xs) (drop (k + 1) ys) ≡ r
unfolding and_then
one_pair step s t r xs ys k x y below lt is at before done =
    sym (ap (λ q. and_then q (λ u. paired step u (drop (k + 1) xs) (drop (k + 1) ys))) done) ∙ (sym (next_pair step s xs ys k x y below lt is at) ∙ before)

-- where it stops, so do all
pub pair_stops : {S X Y : Type 0} (step : S → X → Y → Or_fault S) (s : S) (r : Or_fault S) (fault : ElabFault) (xs : List X) (ys : List Y) (k : ℕ) (x : X) (y : Y) → k < length xs → k < length ys → x ≡ get_or xs k x → y ≡ get_or ys k y
    → paired step s (drop k xs) (drop k ys) ≡ r → Stops fault (step s x y) → Stops fault r
unfolding and_then
pair_stops step s r fault xs ys k x y below lt is at before (inl memory) = inl memory
pair_stops step s r fault xs ys k x y below lt is at before (inr bad) =
    inr (sym before ∙ (next_pair step s xs ys k x y below lt is at ∙ ap (λ q. and_then q (λ u. paired step u (drop (k + 1) xs) (drop (k + 1) ys))) bad))

-- where nothing is left to pass, no step is taken
none_left : {S X Y : Type 0} (step : S → X → Y → Or_fault S) (s : S) (xs : List X) → paired step s xs [] ≡ Ok s
unfolding paired
none_left step s [] = refl
none_left step s (x ∷ xs) = refl

-- behind the last one nothing is left
pub all_pairs : {S X Y : Type 0} (step : S → X → Y → Or_fault S) (s : S) (r : Or_fault S) (xs : List X) (ys : List Y) (k : ℕ) → length ys ≤ k
    → paired step s (drop k xs) (drop k ys) ≡ r → r ≡ Ok s
all_pairs step s r xs ys k past before = sym before ∙ (ap (paired step s (drop k xs)) (drop_all k ys past) ∙ none_left step s (drop k xs))
