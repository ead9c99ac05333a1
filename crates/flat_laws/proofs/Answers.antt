-- Steps that have no fault.
use Rattle.std.proofs.Common.{◌≡◌, List, [], ◌∷◌, Ok, Err, refl, subst}
use Rattle.elab_names.specs.Answers.{Or_fault, and_then}
use Rattle.elab_scopes.specs.Threads.{threaded}

-- where something follows without a fault, the first has none, and the rest follows from it
pub record Followed {A B : Type 0} (r : Or_fault A) (f : A → Or_fault B) (b : B) : Type 0 where
  pub value : A
  pub there : r ≡ Ok value
  pub follows : f value ≡ Ok b

pub followed : {A B : Type 0} (r : Or_fault A) (f : A → Or_fault B) (b : B) → and_then r f ≡ Ok b → Followed r f b
unfolding and_then
followed (Ok a) f b h = record { value = a; there = refl; follows = h }
followed (Err fault) f b h = cc

-- what each step keeps, all keep
pub threaded_keeps : {S X : Type 0} (P : S → Type 0) (step : S → X → Or_fault S) → ((s : S) (x : X) (t : S) → P s → step s x ≡ Ok t → P t) → (s : S) (xs : List X) (t : S) → P s → threaded step s xs ≡ Ok t → P t
unfolding threaded
threaded_keeps P step each s [] t is h = let same : s ≡ t = cc in subst P same is
threaded_keeps P step each s (x ∷ xs) t is h =
    let f = followed (step s x) (λ u. threaded step u xs) t h in
    threaded_keeps P step each f.value xs t (each s x f.value is f.there) f.follows
