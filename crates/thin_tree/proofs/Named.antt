-- What a design of the form declares is ASCII.
use Rattle.std.proofs.Common.{◌≡◌, Bool, true, false, not, ◌&&◌, if◌then◌else◌, List, [], ◌∷◌, filter, map, Option, Some, None, Result, Ok, Err, IfOk, refl, sym, ap, ◌∙◌, subst}
use Rattle.std.specs.Prelude.{ℕ, IsTrue}
use Rattle.std.specs.List.{AllByRecursion}
use Rattle.design_form.specs.declared.parts.Parts.{Parts}
use Rattle.design_form.specs.declared.signal.Signal.{Signal}
use Rattle.design_form.specs.Signals.{is_single}
use Rattle.thin_tree.specs.Tree as tree
use Rattle.thin_tree.specs.Grammar.{is_ascii, IsPlain, IsTree}
use Rattle.thin_tree.specs.Written.{a_module}
use Rattle.thin_tree.specs.declared.tree.Module.{Module}
use Rattle.thin_tree.specs.declared.fault.FormFault.{FormFault}
use Rattle.thin_tree.specs.Form.{and_then, all_of, where_so, signal_in, assignment_in, process_in, class_of, input_names, stays, is_empty, without_clocks, form_of}

-- where something follows, the first is there, and the rest follows from it
pub record Followed {A B : Type 0} (o : Option A) (f : A → Option B) (b : B) : Type 0 where
  pub value : A
  pub there : o ≡ Some value
  pub follows : f value ≡ Some b

pub followed : {A B : Type 0} (o : Option A) (f : A → Option B) (b : B) → and_then o f ≡ Some b → Followed o f b
unfolding and_then
followed None f b h = cc
followed (Some a) f b h = record { value = a; there = refl; follows = h }

pub held : {A : Type 0} (test : Bool) (a b : A) → where_so test a ≡ Some b → IsTrue test × (a ≡ b)
unfolding where_so
held true a b h = (refl, cc)
held false a b h = cc

pub all_named : {A B : Type 0} (f : A → Option B) (P : B → Type 0) → ((a : A) (b : B) → f a ≡ Some b → P b) → (xs : List A) (ys : List B) → all_of f xs ≡ Some ys → AllByRecursion P ys
unfolding all_of
all_named f P each [] ys h = let same : [] ≡ ys = cc in subst (AllByRecursion P) same tt
all_named f P each (x ∷ xs) ys h =
    let g = followed (f x) _ ys h in
    let r = followed (all_of f xs) _ ys g.follows in
    let same : g.value ∷ r.value ≡ ys = cc in
    subst (AllByRecursion P) same (each x g.value g.there, all_named f P each xs r.value r.there)

all_kept : {A : Type 0} (P : A → Type 0) (test : A → Bool) (xs : List A) → AllByRecursion P xs → AllByRecursion P (filter test xs)
all_kept P test [] all = tt
all_kept {A} P test (x ∷ xs) all =
    elim (test x) as (λ b. AllByRecursion P (if b then x ∷ filter test xs else filter test xs)) [ true ↦ (all.0, all_kept P test xs all.1) | false ↦ all_kept P test xs all.1 ]

-- what is kept, seen through what it is judged by
pub map_kept : {A B : Type 0} (f : A → B) (test : B → Bool) (xs : List A) → map f (filter (λ x. test (f x)) xs) ≡ filter test (map f xs)
map_kept f test [] = refl
map_kept {A} {B} f test (x ∷ xs) =
    let rest = map_kept f test xs in
    elim (test (f x)) as (λ b. map f (if b then x ∷ filter (λ y. test (f y)) xs else filter (λ y. test (f y)) xs) ≡ (if b then f x ∷ filter test (map f xs) else filter test (map f xs))) [ true ↦ ap (λ (ys : List B). f x ∷ ys) rest | false ↦ rest ]

right_of : (a b : Bool) → IsTrue (a && b) → IsTrue b
right_of true b h = h
right_of false b h = let no = h in cc

signal_named : (inputs : List (List ℕ)) (s : Signal) (d : tree.Declared) → signal_in inputs s ≡ Some d → IsPlain d.name
unfolding signal_in
signal_named inputs s d h =
    let so = held (is_single s && is_ascii s.name) (record { class = class_of inputs s; name = s.name }) d h in
    subst (λ (x : tree.Declared). IsPlain x.name) so.1 (right_of (is_single s) (is_ascii s.name) so.0)

pub design_named : (d : Parts) (t : tree.Module) → form_of d ≡ Some t → IsTree t
unfolding form_of
design_named d t h =
    let ss = followed (all_of (signal_in (input_names d.ports)) d.signals) _ t h in
    let xs = followed (all_of (assignment_in d) d.drivers) _ t ss.follows in
    let ps = followed (all_of (process_in d) d.processes) _ t xs.follows in
    let so = held (is_empty d.boxes && is_empty d.gates) (without_clocks d ss.value xs.value ps.value) t ps.follows in
    subst IsTree so.1 (all_kept (λ x. IsPlain x.name) (stays d ps.value) ss.value (all_named (signal_in (input_names d.ports)) (λ x. IsPlain x.name) (signal_named (input_names d.ports)) d.signals ss.value ss.there))

-- an answer has these names
pub answer_named : (d : Parts) (r : Result Module FormFault) → IfOk r (λ a. form_of d ≡ Some (a_module a)) → IfOk r (λ a. IsTree (a_module a))
answer_named d (Ok a) h = design_named d (a_module a) h
answer_named d (Err fault) h = tt
