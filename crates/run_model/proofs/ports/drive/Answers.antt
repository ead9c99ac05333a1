use Rattle.std.proofs.Common.{ap, ◌∙◌, map}
use Rattle.net_view.specs.Values.{at}
use Rattle.run_model.specs.Event.{driven}
use Rattle.run_model.specs.Netlist.{net_of, machine_of}
use Rattle.run_model.proofs.Answered.{drive_steps}
use Rattle.run_model.proofs.ports.drive.Goals as goal

pub returns-clause-step : goal.returns-clause-step
returns-clause-step g c = λ declared fixed inputs.
    let net = net_of (g.V.View.gates c.args.view.now) (g.V.FlopNet.names c.args.view.now) (g.V.FlopNet.kinds c.args.view.now) (g.V.FlopNet.named_bits c.args.view.now) in
    drive_steps (machine_of net declared fixed (map g.V.View.source_number c.args.order.now)) (at c.args.old.now) (at c.raise_all.new.new) (at c.set_levels.new.new)
    c.args.levels.now inputs
    (λ n. c.set_levels.ensures n ∙ ap (λ xs. driven c.args.levels.now n (at xs n)) c.copy_from_slice.ensures.after)
    c.raise_all.ensures.raised
