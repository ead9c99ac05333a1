use Rattle.std.proofs.Common.{◌≡◌, ℕ, List, Option, Some, None, Vec, Global, sym, ap, ◌∙◌}
use Rattle.std.specs.Borrow.{Bor}
use Rattle.std.specs.List.{slice_get}
use Rattle.std.specs.Option.{option_map, option_copied}
use Rattle.design_form.specs.Numbers.{numbers_of}
use Rattle.design_form.specs.Tables.{numbers_at}
use Rattle.design_form.proofs.DesignLemmas.{numbers-at, signal-nowhere}
use Rattle.design_form.proofs.design.Design.bits_of.Goals as goal

pub returns-in-Some-at : goal.returns-in-Some-at
returns-in-Some-at c =
    let there : slice_get c.self.inside.tables.numbers.items c.in-Some.place ≡ Some c.in-Some-at.numbers.now =
    ap (λ (xs : List (Vec ℕ Global)). slice_get xs c.in-Some.place) (sym c.deref.ensures.value) ∙ sym c.at.ensures ∙ ap (λ (o : Option (Bor (Vec ℕ Global))). option_copied o) c.in-Some-at.is in
    rw (← c.self.view_is)
    (ap (λ (x : List ℕ). Some x) c.as_slice.ensures.value ∙ sym (ap (option_map (λ (n : Vec ℕ Global). n.items)) there)
    ∙ numbers-at c.self.inside.parts.signals c.self.inside.tables.numbers.items (numbers_at c.self.inside.tables.places) c.args.name.now c.in-Some.place c.self.invariant.numbers_are c.self.invariant.places_are (sym c.get.ensures ∙ c.in-Some.is))

pub returns-in-None-at : goal.returns-in-None-at
returns-in-None-at c =
    let there : slice_get c.self.inside.tables.numbers.items c.in-Some.place ≡ None =
    ap (λ (xs : List (Vec ℕ Global)). slice_get xs c.in-Some.place) (sym c.deref.ensures.value) ∙ sym c.at.ensures ∙ ap (λ (o : Option (Bor (Vec ℕ Global))). option_copied o) c.in-None-at.is in
    rw (← c.self.view_is)
    (sym (ap (option_map (λ (n : Vec ℕ Global). n.items)) there)
    ∙ numbers-at c.self.inside.parts.signals c.self.inside.tables.numbers.items (numbers_at c.self.inside.tables.places) c.args.name.now c.in-Some.place c.self.invariant.numbers_are c.self.invariant.places_are (sym c.get.ensures ∙ c.in-Some.is))

pub returns-in-None : goal.returns-in-None
returns-in-None c =
    rw (← c.self.view_is)
    (sym (ap (option_map (numbers_of c.self.inside.parts.signals)) (signal-nowhere c.self.inside.parts.signals (numbers_at c.self.inside.tables.places) c.args.name.now c.self.invariant.places_are (sym c.get.ensures ∙ c.in-None.is))))
