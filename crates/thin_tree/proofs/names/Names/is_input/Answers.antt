use Rattle.std.proofs.Common.{ℕ, List, Option, ap, ◌∙◌}
use Rattle.std.specs.Option.{is_some}
use Rattle.thin_tree.proofs.names.Names.is_input.Goals as goal

pub returns : goal.returns
returns c = c.has.ensures ∙ ap (λ (f : List ℕ → Option ℕ). is_some (f c.args.name.now)) c.args.self.now.inputs_are
