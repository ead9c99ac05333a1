use Rattle.std.proofs.Common.{ℕ, List, Option, map, ap, ◌∙◌}
use Rattle.std.specs.Option.{is_some}
use Rattle.design_form.specs.Numbers.{index_of}
use Rattle.thin_tree.specs.Form.{is_clock}
use Rattle.thin_tree.specs.Tree.{Process}
use Rattle.thin_tree.specs.Written.{a_process}
use Rattle.thin_tree.proofs.reader.is_clock.Goals as goal

pub returns : goal.returns
unfolding is_clock
returns c =
    c.has.ensures ∙ ap (λ (f : List ℕ → Option ℕ). is_some (f c.root.result.now)) c.requires
    ∙ ap (λ (n : List ℕ). is_some (index_of (map (λ (p : Process). p.clock) (map a_process c.args.processes.now)) n)) c.root.ensures
