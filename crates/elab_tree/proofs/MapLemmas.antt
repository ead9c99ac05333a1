-- Steps for what is made of each.
use Rattle.std.proofs.Common.{◌≡◌, List, [], ◌∷◌, map, refl, sym, ap, subst}
use mathlib.Core.Path.{fun_ext}
use Rattle.elab_names.specs.declared.fault.ElabFault.{ElabFault}
use Rattle.elab_names.specs.Answers.{Or_fault, and_then}
use Rattle.elab_scopes.specs.Threads.{threaded, Stops}

pub threaded_map : {S X Y : Type 0} (step : S → Y → Or_fault S) (f : X → Y) (s : S) (xs : List X) → threaded step s (map f xs) ≡ threaded (λ t x. step t (f x)) s xs
unfolding threaded
threaded_map step f s [] = refl
threaded_map step f s (x ∷ xs) = ap (and_then (step s (f x))) (fun_ext (λ t. threaded_map step f t xs))

pub stops_map : {S X Y : Type 0} (step : S → Y → Or_fault S) (f : X → Y) (s : S) (xs : List X) (fault : ElabFault) → Stops fault (threaded (λ t x. step t (f x)) s xs) → Stops fault (threaded step s (map f xs))
stops_map step f s xs fault stops = subst (Stops fault) (sym (threaded_map step f s xs)) stops
