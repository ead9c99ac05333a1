use Rattle.std.proofs.Common.{◌<◌, ℕ, List, All, ap, sym, subst, ◌∙◌}
use Rattle.std.specs.Option.{option_copied}
use Rattle.net_exprs.proofs.NameSteps.{design_numbers, nodes_there}
use Rattle.net_exprs.proofs.wired.wired.Goals as goal

pub nodes_of-requires : goal.nodes_of-requires
nodes_of-requires c =
    design_numbers c.args.design.now.signals c.args.name.now c.in-Some.signal.now c.in-Some-bits_of.numbers.now c.args.nodes.now (sym c.signal.ensures ∙ ap option_copied c.in-Some.is)
    (sym (ap option_copied c.in-Some-bits_of.is) ∙ c.bits_of.ensures) c.requires

pub returns-clause-there : goal.returns-clause-there
returns-clause-there c count there =
    subst (λ (w : List ℕ). All (λ n. n < count) w) (sym c.in_ok-nodes_of.ensures.items)
    (nodes_there c.args.nodes.now c.in-Some-bits_of.numbers.now count there
    (design_numbers c.args.design.now.signals c.args.name.now c.in-Some.signal.now c.in-Some-bits_of.numbers.now c.args.nodes.now (sym c.signal.ensures ∙ ap option_copied c.in-Some.is)
    (sym (ap option_copied c.in-Some-bits_of.is) ∙ c.bits_of.ensures) c.requires))
