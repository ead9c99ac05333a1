use Rattle.std.proofs.Common.{List, sym, ap, ◌∙◌}
use Rattle.std.specs.List.{slice_get}
use Rattle.design_form.specs.declared.signal.Signal.{Signal}
use Rattle.design_form.specs.Tables.{numbers_at}
use Rattle.design_form.proofs.DesignLemmas.{signal-at, signal-nowhere}
use Rattle.design_form.proofs.design.Design.signal.Goals as goal

pub returns-in-Some : goal.returns-in-Some
returns-in-Some c =
    rw (← c.self.view_is)
    (c.at.ensures ∙ ap (λ (xs : List Signal). slice_get xs c.in-Some.place) c.as_slice.ensures
    ∙ signal-at c.self.inside.parts.signals (numbers_at c.self.inside.tables.places) c.args.name.now c.in-Some.place c.self.invariant.places_are (sym c.get.ensures ∙ c.in-Some.is))

pub returns-in-None : goal.returns-in-None
returns-in-None c = rw (← c.self.view_is) (sym (signal-nowhere c.self.inside.parts.signals (numbers_at c.self.inside.tables.places) c.args.name.now c.self.invariant.places_are (sym c.get.ensures ∙ c.in-None.is)))
