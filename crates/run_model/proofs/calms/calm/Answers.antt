use Rattle.std.proofs.Common.{◌<◌, ◌∙◌, ap, map, length, arith}
use Rattle.net_view.specs.Values.{at}
use Rattle.run_model.specs.State.{with_value}
use Rattle.run_model.specs.Netlist.{net_of, level_of, machine_of}
use Rattle.run_model.proofs.Places.{at-set}
use Rattle.run_model.proofs.Answered.{calm_steps}
use Rattle.run_model.proofs.calms.calm.Goals as goal

pub returns-clause-step : goal.returns-clause-step
returns-clause-step g c = λ fixed.
    let net = net_of (g.V.View.gates c.args.view.now) (g.V.FlopNet.names c.args.view.now) (g.V.FlopNet.kinds c.args.view.now) (g.V.FlopNet.named_bits c.args.view.now) in
    let m = machine_of net (level_of c.args.resets.now) fixed (map g.V.View.source_number c.args.order.now) in
    let may = c.in-Some.ensures (at c.args.old.now) c.evaluate.ensures in
    let inside : c.args.number < length c.copy_from_slice.new.self = omega arith in
    calm_steps m c.requires.lists (at c.args.old.now) c.args.number c.least_left.result c.answer_by.result _ c.in-Some.value
    (c.is_x_at.ensures.0 c.if-not-is_x_at.false, may.0) may.1
    (at-set c.copy_from_slice.new.self c.args.number c.in-Some.value inside ∙ ap (λ xs. with_value (at xs) c.args.number c.in-Some.value) c.copy_from_slice.ensures.after)
    c.least_left.ensures c.answer_by.ensures.value
