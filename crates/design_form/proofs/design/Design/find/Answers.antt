use Rattle.std.proofs.Common.{ℕ, List, Option, ap, ◌∙◌}
use Rattle.design_form.proofs.design.Design.find.Goals as goal

pub returns : goal.returns
returns c = rw (← c.self.view_is) (c.get.ensures ∙ ap (λ (f : List ℕ → Option ℕ). f c.args.name.now) c.self.invariant.bits_are)
