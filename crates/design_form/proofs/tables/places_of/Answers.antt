use Rattle.std.proofs.Common.{List, Vec, ℕ, Global, map, length, ap, ◌∙◌, arith}
use Rattle.design_form.specs.declared.signal.Signal.{Signal}
use Rattle.design_form.specs.Numbers.{index_of}
use Rattle.design_form.proofs.DesignLemmas.{few-signals}
use Rattle.design_form.proofs.tables.places_of.Goals as goal

pub new-requires : goal.new-requires
new-requires c =
    let few = few-signals c.args.signals.now c.in_ok-names.names.items c.in_ok-names.ensures c.requires in
    omega (arith, few, ap length c.deref.ensures.value)
