-- From the steps of elaboration to its answer.
use Rattle.std.proofs.Common.{◌≡◌, ◌⊎◌, ℕ, List, [], Result, Ok, Err, refl, sym, ap, ◌∙◌, inl, inr, subst}
use Rattle.rdc_outside.specs.declared.source.Place.{Place}
use Rattle.design_form.specs.declared.parts.Parts.{Parts}
use Rattle.design_form.specs.declared.parts.TopPort.{TopPort}
use Rattle.elab_names.specs.declared.fault.ElabFault.{ElabFault}
use Rattle.elab_names.specs.declared.fault.ElabFault.TheVariants.{Memory}
use Rattle.elab_names.specs.Answers.{Answers, Or_fault, and_then}
use Rattle.elab_scopes.specs.declared.placed.Placed.{Placed}
use Rattle.elab_items.specs.Instances.{Lib}
use Rattle.elab_tree.specs.Hierarchy.{State}
use Rattle.elab_tree.specs.Tops.{Top, grown_from, top_of, top_ports}
use Rattle.vlog_elab.specs.Orders.{IsInOrder, repeated}
use Rattle.vlog_elab.specs.Flat.{Elaborates, Gives, checked, finished, flat, laid, numbered, places_of}

-- an answer is a value or a fault, and not both
abbrev Only : {A : Type 0} → Type 0 → Or_fault A → Type 0
Only G (Ok a) = Unit {0}
Only G (Err fault) = G

not_both : {A : Type 0} (G : Type 0) (a : A) (fault : ElabFault) (r : Or_fault A) → r ≡ Ok a → r ≡ Err fault → G
not_both G a fault r ok bad = subst (Only G) bad (subst (Only G) (sym ok) tt)

-- one value
abbrev Is : {A : Type 0} → A → Or_fault A → Type 0
Is a (Ok b) = b ≡ a
Is a (Err fault) = ⊥

one_value : {A : Type 0} (a b : A) (r : Or_fault A) → r ≡ Ok a → r ≡ Ok b → a ≡ b
one_value a b r is other = subst (λ q. Is b q) (sym other ∙ is) refl

abbrev step : List Placed → Lib → Top → Or_fault Parts
step ps lib t = and_then (top_ports t.body) (λ ports. and_then (grown_from lib t) (λ s. finished t.body.name.place ps ports s))

abbrev last : List Placed → Lib → Top → List TopPort → Or_fault Parts
last ps lib t ports = and_then (grown_from lib t) (λ s. finished t.body.name.place ps ports s)

-- a top that is none
no_top : (lib : Lib) (name : List ℕ) (fault : ElabFault) → top_of lib name ≡ Err fault → Gives lib name (Err fault)
unfolding flat and_then
no_top lib name fault bad = record {
  signals = [];
  order = λ t ports s top _ _. not_both (IsInOrder s.plan.draft.drawn.signals []) t fault (top_of lib name) top bad;
  is = ap (λ r. and_then r (step [] lib)) bad;
}

-- a top whose ports have a fault
no_ports : (lib : Lib) (name : List ℕ) (t : Top) (fault : ElabFault) → top_of lib name ≡ Ok t → top_ports t.body ≡ Err fault → Gives lib name (Err fault)
unfolding flat and_then
no_ports lib name t fault top bad = record {
  signals = [];
  order = λ u ports s other ok _. not_both (IsInOrder s.plan.draft.drawn.signals []) ports fault (top_ports t.body) (subst (λ (v : Top). top_ports v.body ≡ Ok ports) (one_value u t (top_of lib name) other top) ok) bad;
  is = ap (λ r. and_then r (step [] lib)) top ∙ ap (λ r. and_then r (last [] lib t)) bad;
}

-- a hierarchy with a fault
no_hierarchy : (lib : Lib) (name : List ℕ) (t : Top) (ports : List TopPort) (fault : ElabFault) → top_of lib name ≡ Ok t → top_ports t.body ≡ Ok ports → grown_from lib t ≡ Err fault → Gives lib name (Err fault)
unfolding flat and_then
no_hierarchy lib name t ports fault top ok bad = record {
  signals = [];
  order = λ u qs s other _ grown. not_both (IsInOrder s.plan.draft.drawn.signals []) s fault (grown_from lib t) (subst (λ (v : Top). grown_from lib v ≡ Ok s) (one_value u t (top_of lib name) other top) grown) bad;
  is = ap (λ r. and_then r (step [] lib)) top ∙ (ap (λ r. and_then r (last [] lib t)) ok ∙ ap (λ r. and_then r (λ s. finished t.body.name.place [] ports s)) bad);
}

-- the same parts and the same size are finished alike
same : (place : Place) (ps : List Placed) (ports : List TopPort) (s v : State) → laid ps ports v.plan ≡ laid ps ports s.plan → v.size ≡ s.size → finished place ps ports v ≡ finished place ps ports s
unfolding finished
same place ps ports s v parts size = ap (λ (d : Parts). and_then (repeated ps) (λ u. and_then (numbered place d) (λ e. and_then (checked e (places_of ps) v.size) (λ c. Ok e)))) parts
    ∙ ap (λ n. and_then (repeated ps) (λ u. and_then (numbered place (laid ps ports s.plan)) (λ e. and_then (checked e (places_of ps) n) (λ c. Ok e)))) size

-- the last step
whole : (lib : Lib) (name : List ℕ) (t : Top) (ports : List TopPort) (s v : State) (ps : List Placed) (answer : Or_fault Parts) → top_of lib name ≡ Ok t → top_ports t.body ≡ Ok ports → grown_from lib t ≡ Ok s
    → IsInOrder s.plan.draft.drawn.signals ps → laid ps ports v.plan ≡ laid ps ports s.plan → v.size ≡ s.size → finished t.body.name.place ps ports v ≡ answer → Gives lib name answer
unfolding flat and_then
whole lib name t ports s v ps answer top ok grown order parts size is = record {
  signals = ps;
  order = λ u qs w other _ also. subst (λ (x : State). IsInOrder x.plan.draft.drawn.signals ps) (one_value s w (grown_from lib t) grown (subst (λ (y : Top). grown_from lib y ≡ Ok w) (one_value u t (top_of lib name) other top) also)) order;
  is = ap (λ r. and_then r (step ps lib)) top ∙ (ap (λ r. and_then r (last ps lib t)) ok ∙ (ap (λ r. and_then r (λ x. finished t.body.name.place ps ports x)) grown ∙ (sym (same t.body.name.place ps ports s v parts size) ∙ is)));
}

-- ---- what calls answer

pub top_fault : (lib : Lib) (name : List ℕ) (fault : ElabFault) → (fault ≡ Memory) ⊎ (top_of lib name ≡ Err fault) → (fault ≡ Memory) ⊎ Gives lib name (Err fault)
top_fault lib name fault (inl memory) = inl memory
top_fault lib name fault (inr bad) = inr (no_top lib name fault bad)

pub ports_fault : (lib : Lib) (name : List ℕ) (t : Top) (fault : ElabFault) → top_of lib name ≡ Ok t → (fault ≡ Memory) ⊎ (top_ports t.body ≡ Err fault) → (fault ≡ Memory) ⊎ Gives lib name (Err fault)
ports_fault lib name t fault top (inl memory) = inl memory
ports_fault lib name t fault top (inr bad) = inr (no_ports lib name t fault top bad)

pub hierarchy_fault : (lib : Lib) (name : List ℕ) (t : Top) (ports : List TopPort) (fault : ElabFault) → top_of lib name ≡ Ok t → top_ports t.body ≡ Ok ports → (fault ≡ Memory) ⊎ (grown_from lib t ≡ Err fault) → (fault ≡ Memory) ⊎ Gives lib name (Err fault)
hierarchy_fault lib name t ports fault top ok (inl memory) = inl memory
hierarchy_fault lib name t ports fault top ok (inr bad) = inr (no_hierarchy lib name t ports fault top ok bad)

pub last_answer : (lib : Lib) (name : List ℕ) (t : Top) (ports : List TopPort) (s v : State) (ps : List Placed) (r : Result Parts ElabFault) → top_of lib name ≡ Ok t → top_ports t.body ≡ Ok ports → grown_from lib t ≡ Ok s
    → IsInOrder s.plan.draft.drawn.signals ps → laid ps ports v.plan ≡ laid ps ports s.plan → v.size ≡ s.size → Answers (λ d. d) r (finished t.body.name.place ps ports v) → Elaborates lib name r
last_answer lib name t ports s v ps (Ok d) top ok grown order parts size is = whole lib name t ports s v ps (Ok d) top ok grown order parts size is
last_answer lib name t ports s v ps (Err fault) top ok grown order parts size (inl memory) = inl memory
last_answer lib name t ports s v ps (Err fault) top ok grown order parts size (inr is) = inr (whole lib name t ports s v ps (Err fault) top ok grown order parts size is)
