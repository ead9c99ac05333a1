-- Steps one after another, of which those before the place k are taken.
use Rattle.std.proofs.Common.{◌≡◌, ℕ, suc, ◌+◌, ◌<◌, ◌≤◌, List, [], ◌∷◌, length, map, drop, get_or, Option, None, Ok, refl, sym, ap, ◌∙◌, inl, inr, add-one}
use Rattle.std.proofs.Math.Seq.{drop-cons}
use Rattle.std.proofs.lemmas.List.{drop_all}
use mathlib.Core.Path.{fun_ext}
use Rattle.vlog_tree.specs.declared.port.Port.{Port}
use Rattle.elab_decls.specs.Mentions.{last_after, port_as, spread}
use Rattle.elab_names.specs.declared.fault.ElabFault.{ElabFault}
use Rattle.elab_names.specs.Answers.{Or_fault, and_then}
use Rattle.elab_names.specs.declared.meaning.Meaning.TheVariants.{Other}
use Rattle.elab_names.specs.Meanings.{Frames, declaring}
use Rattle.elab_scopes.specs.Openings.{all_other}
use Rattle.elab_scopes.specs.Threads.{threaded, chained, Stops}

-- the step at k is next
next : {S X : Type 0} (step : S → X → Or_fault S) (s : S) (xs : List X) (k : ℕ) (x : X) → k < length xs → x ≡ get_or xs k x
    → threaded step s (drop k xs) ≡ and_then (step s x) (λ t. threaded step t (drop (k + 1) xs))
unfolding threaded
next step s xs k x lt is = rw add-one (ap (threaded step s) (drop-cons xs k x lt) ∙ ap (λ y. and_then (step s y) (λ t. threaded step t (drop (suc k) xs))) (sym is))

-- once it is taken, the others are left
pub one_more : {S X : Type 0} (step : S → X → Or_fault S) (s t v : S) (xs : List X) (k : ℕ) (x : X) → k < length xs → x ≡ get_or xs k x
    → threaded step s (drop k xs) ≡ threaded step v xs → step s x ≡ Ok t → threaded step t (drop (k + 1) xs) ≡ threaded step v xs
unfolding and_then
one_more step s t v xs k x lt is before done = sym (ap (λ r. and_then r (λ u. threaded step u (drop (k + 1) xs))) done) ∙ (sym (next step s xs k x lt is) ∙ before)

-- where it stops, so do all
pub one_stops : {S X : Type 0} (step : S → X → Or_fault S) (s v : S) (fault : ElabFault) (xs : List X) (k : ℕ) (x : X) → k < length xs → x ≡ get_or xs k x
    → threaded step s (drop k xs) ≡ threaded step v xs → Stops fault (step s x) → Stops fault (threaded step v xs)
unfolding and_then
one_stops step s v fault xs k x lt is before (inl memory) = inl memory
one_stops step s v fault xs k x lt is before (inr bad) = inr (sym before ∙ (next step s xs k x lt is ∙ ap (λ r. and_then r (λ u. threaded step u (drop (k + 1) xs))) bad))

-- behind the last one nothing is left
pub all_done : {S X : Type 0} (step : S → X → Or_fault S) (s v : S) (xs : List X) (k : ℕ) → length xs ≤ k
    → threaded step s (drop k xs) ≡ threaded step v xs → threaded step v xs ≡ Ok s
unfolding threaded
all_done step s v xs k past before = sym before ∙ ap (threaded step s) (drop_all k xs past)

-- steps that stand ready are steps for each
pub ready : {S X : Type 0} (f : X → S → Or_fault S) (xs : List X) (s : S) → chained (map f xs) s ≡ threaded (λ t x. f x t) s xs
unfolding chained threaded
ready f [] s = refl
ready f (x ∷ xs) s = ap (and_then (f x s)) (fun_ext (ready f xs))

-- ---- names of a scope, of which those before the place k are declared

pub one_named : (f g v : Frames) (ns : List (List ℕ)) (k : ℕ) (n : List ℕ) → k < length ns → n ≡ get_or ns k n
    → all_other f (drop k ns) ≡ all_other v ns → g ≡ declaring f n Other → all_other g (drop (k + 1) ns) ≡ all_other v ns
unfolding all_other
one_named f g v ns k n lt is before done =
    let next : all_other f (drop k ns) ≡ all_other (declaring f n Other) (drop (k + 1) ns) =
    rw add-one (ap (all_other f) (drop-cons ns k n lt) ∙ ap (λ m. all_other (declaring f m Other) (drop (suc k) ns)) (sym is)) in
    ap (λ h. all_other h (drop (k + 1) ns)) done ∙ (sym next ∙ before)

pub all_named : (f v : Frames) (ns : List (List ℕ)) (k : ℕ) → length ns ≤ k → all_other f (drop k ns) ≡ all_other v ns → f ≡ all_other v ns
unfolding all_other
all_named f v ns k past before = sym (ap (all_other f) (drop_all k ns past)) ∙ before

-- ---- ports, of which those before the place k are taken

next_port : (last : Option Port) (xs : List Port) (k : ℕ) (x : Port) → k < length xs → x ≡ get_or xs k x → spread last (drop k xs) ≡ port_as last x ∷ spread (last_after last x) (drop (k + 1) xs)
unfolding spread
next_port last xs k x lt is = rw add-one (ap (spread last) (drop-cons xs k x lt) ∙ ap (λ y. port_as last y ∷ spread (last_after last y) (drop (suc k) xs)) (sym is))

pub port_more : {S : Type 0} (step : S → Port → Or_fault S) (last then : Option Port) (s t v : S) (xs : List Port) (k : ℕ) (x : Port) → k < length xs → x ≡ get_or xs k x → then ≡ last_after last x
    → threaded step s (spread last (drop k xs)) ≡ threaded step v (spread None xs) → step s (port_as last x) ≡ Ok t → threaded step t (spread then (drop (k + 1) xs)) ≡ threaded step v (spread None xs)
unfolding and_then threaded
port_more step last then s t v xs k x lt is after before done =
    ap (λ (l : Option Port). threaded step t (spread l (drop (k + 1) xs))) after
    ∙ (sym (ap (λ r. and_then r (λ u. threaded step u (spread (last_after last x) (drop (k + 1) xs)))) done)
    ∙ (ap (threaded step s) (sym (next_port last xs k x lt is)) ∙ before))

pub port_stops : {S : Type 0} (step : S → Port → Or_fault S) (last : Option Port) (s v : S) (fault : ElabFault) (xs : List Port) (k : ℕ) (x : Port) → k < length xs → x ≡ get_or xs k x
    → threaded step s (spread last (drop k xs)) ≡ threaded step v (spread None xs) → Stops fault (step s (port_as last x)) → Stops fault (threaded step v (spread None xs))
unfolding and_then threaded
port_stops step last s v fault xs k x lt is before (inl memory) = inl memory
port_stops step last s v fault xs k x lt is before (inr bad) =
    inr (sym before ∙ (ap (threaded step s) (next_port last xs k x lt is) ∙ ap (λ r. and_then r (λ u. threaded step u (spread (last_after last x) (drop (k + 1) xs)))) bad))

pub ports_done : {S : Type 0} (step : S → Port → Or_fault S) (last : Option Port) (s v : S) (xs : List Port) (k : ℕ) → length xs ≤ k
    → threaded step s (spread last (drop k xs)) ≡ threaded step v (spread None xs) → threaded step v (spread None xs) ≡ Ok s
unfolding threaded spread
ports_done step last s v xs k past before = sym before ∙ ap (λ (ps : List Port). threaded step s (spread last ps)) (drop_all k xs past)
